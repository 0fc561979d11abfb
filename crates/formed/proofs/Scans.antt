-- A scan that looks at one element after another and stops at none: what it found so far and what is left are the answer for the whole.
use Prim.Native.Nat.{ℕ, ◌+◌, ◌≤◌, ◌<◌}
use mathlib.Core.Path.{◌≡◌, refl, sym, ap, ◌∙◌}
use mathlib.Core.Bool.{Bool, true, ◌&&◌, and_assoc, and-true}
use mathlib.Core.List.{List, [], ◌∷◌, map}
use native.Mathlib.Numerals.{add-one}
use borrow.Author.Tests.{eq-eqb}
use lib.ListN.{length, get_or, drop, drop_of_length-le, length-map}
use lib.Seq.{drop-cons}
use Rattle.rules.specs.Words.{all}
use Rattle.rules.specs.Blanks.{rest_blank}

-- how many slots an array has is known of what its elements are read from
pub slots : (A B : Type 0) (f : A → B) (l : List A) (n : ℕ) → length (map f l) ≡ n → length l ≡ n
slots A B f l n h = sym (length-map l f) ∙ h

-- F is what is asked of the elements from an index on; first is what was found before, and ok what was found up to i
pub record Scanned {A : Type 0} (F : ℕ → List A → Bool) (l : List A) (from i : ℕ) (first ok : Bool) : Type 0 where
  pub so : (first && F from (drop from l)) ≡ (ok && F i (drop i l))

module _ {A : Type 0} {F : ℕ → List A → Bool} {l : List A} {from : ℕ} {first : Bool} where
  pub scan_start : Scanned F l from from first first
  scan_start = record { so = refl }

  module _ {i : ℕ} {ok : Bool} (s : Scanned F l from i first ok) where
    pub scan_on : (d : A) (z : Bool) → i < length l → F i (get_or l i d ∷ drop (i + 1) l) ≡ (z && F (i + 1) (drop (i + 1) l)) → Scanned F l from (i + 1) first (ok && z)
    scan_on d z h e = record { so = s.so ∙ rw (drop-cons l i d h, ← add-one i, e) (sym (and_assoc ok z _)) }

    pub scan_end : length l ≤ i → F i [] ≡ true → ok ≡ (first && F from (drop from l))
    scan_end h e = sym (s.so ∙ rw (drop_of_length-le l h, e) (and-true ok))

-- ---- one question of every element

abbrev pub each : {A : Type 0} → (A → Bool) → ℕ → List A → Bool
each p i l = all p l

module _ {A : Type 0} (p : A → Bool) {l : List A} {from i : ℕ} {first ok : Bool} (s : Scanned (each p) l from i first ok) where
  pub each_on : (d : A) {z : Bool} → i < length l → z ≡ p (get_or l i d) → Scanned (each p) l from (i + 1) first (ok && z)
  each_on d {z} h e = scan_on s d z h (ap (λ (b : Bool). b && all p (drop (i + 1) l)) (sym e))

  pub each_end : length l ≤ i → ok ≡ (first && all p (drop from l))
  each_end h = scan_end s h refl

-- ---- of an array with its slots

pub with_slots : {A : Type 0} (p : A → Bool) (l : List A) (from room : ℕ) {z : Bool} → length l ≡ room → z ≡ all p (drop from l) → z ≡ rest_blank room p l from
with_slots p l from room e h = h ∙ rw (eq-eqb (length l) room e)
