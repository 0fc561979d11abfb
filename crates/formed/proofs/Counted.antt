-- The counted slots of an array: as many are read as the count says, and they are the first of the array where it has so many.
use Prim.Native.Nat.{ℕ, ◌+◌, ◌≤◌, ◌<◌}
use native.Mathlib.Omega.{arith}
use mathlib.Core.Path.{◌≡◌, refl, sym, ap, ◌∙◌}
use mathlib.Core.Bool.{Bool, true, false, ◌&&◌, and_assoc, and-true}
use mathlib.Core.List.{List, [], ◌∷◌, map}
use borrow.Author.Tests.{le-leb, lt-leb, leb-true, leb-false}
use borrow.Table.Steps.{cases}
use lib.Dec.{eqb, leb, eqb-suc-zero}
use lib.ListN.{length, get_or, take, drop, length-map, get_or-map}
use lib.Seq.{length-take-le, get_or-take}
use Rattle.rules.specs.Words.{all, is_empty}
use Rattle.rules.specs.Layout.{counted}
use Rattle.rules.proofs.Checks.{and_left, and_right}
use Rattle.rules.proofs.Slots.Relaid.{length_counted, counted_take}
use Rattle.rules.proofs.Tables.{all_read}
use Rattle.formed.proofs.Scans.{Scanned, scan_start, each, each_on, each_end}

-- ---- read

no_length : {A : Type 0} (l : List A) → is_empty l ≡ eqb (length l) 0
no_length [] = refl
no_length (x ∷ l) = sym (eqb-suc-zero (length l))

module _ {A B : Type 0} (rd : A → B) where
  module _ (b : A) (items : List A) (n : ℕ) where
    pub read_length : length (map rd (counted b items n)) ≡ n
    read_length = length-map (counted b items n) rd ∙ length_counted b items n

    pub read_taken : n ≤ length items → map rd (counted b items n) ≡ map rd (take n items)
    read_taken h = ap (map rd) (counted_take b items n h)

    pub read_at : (i : ℕ) (d : A) → i < n → n ≤ length items → get_or (map rd (counted b items n)) i (rd d) ≡ rd (get_or items i d)
    read_at i d k h = get_or-map rd (counted b items n) i d ∙ ap (λ (l : List A). rd (get_or l i d)) (counted_take b items n h) ∙ ap rd (get_or-take n items i d k)

    pub read_none : is_empty (map rd (counted b items n)) ≡ eqb n 0
    read_none = no_length (map rd (counted b items n)) ∙ ap (λ (k : ℕ). eqb k 0) read_length

    module _ (room : ℕ) where
      pub too_many : room < n → leb (length (map rd (counted b items n))) room ≡ false
      too_many h = rw read_length (lt-leb n room h)

      pub few_enough : n ≤ room → leb (length (map rd (counted b items n))) room ≡ true
      few_enough h = rw read_length (le-leb n room h)

      pub fitting : (tidy rest : Bool) {ok : Bool} → ok ≡ (tidy && (leb (length (map rd (counted b items n))) room && rest)) → ok ≡ true → n ≤ room
      fitting tidy rest e t =
          let l : Bool = leb (length (map rd (counted b items n))) room in
          omega (arith, leb-true (length (map rd (counted b items n))) room (and_left l rest (and_right tidy (l && rest) (sym e ∙ t))), read_length)

    pub all_counted : (q : B → Bool) → n ≤ length items → all q (map rd (counted b items n)) ≡ all (λ (x : A). q (rd x)) (take n items)
    all_counted q h = rw (read_taken h) (all_read rd q (take n items))

-- no more count than there is room for, and each of them passes: so it is of what is read of them
module _ {A B : Type 0} (rd : A → B) (q : B → Bool) (b : A) (room n : ℕ) (items : List A) where
  pub counted_read : {z : Bool} → length items ≡ room → z ≡ (leb n room && all (λ (x : A). q (rd x)) (take n items)) → z ≡ (leb (length (map rd (counted b items n))) room && all q (map rd (counted b items n)))
  counted_read e h =
      h
      ∙ cases (leb n room)
      (λ t. rw (t, few_enough rd b items n room (leb-true n room t), all_counted rd b items n q (omega (arith, e, leb-true n room t))))
      (λ f. rw (f, too_many rd b items n room (leb-false n room f)))

  -- first is what was found before
  pub counted_after : (first : Bool) {z : Bool} → length items ≡ room → z ≡ (leb n room && all (λ (x : A). q (rd x)) (take n items))
      → (first && z) ≡ (first && leb (length (map rd (counted b items n))) room && all q (map rd (counted b items n)))
  counted_after first e h =
      ap (λ (y : Bool). first && y) (counted_read e h) ∙ sym (and_assoc first (leb (length (map rd (counted b items n))) room) (all q (map rd (counted b items n))))

-- ---- scanned

-- one question of each counted slot, from an index on; first is what was found before, and ok what was found up to i
pub record Taken {A : Type 0} (p : A → Bool) (n : ℕ) (items : List A) (from i : ℕ) (first ok : Bool) : Type 0 where
  pub fits : n ≤ length items
  pub upto : Scanned (each p) (take n items) from i first ok

module _ {A : Type 0} {p : A → Bool} {n : ℕ} {items : List A} {from : ℕ} {first : Bool} where
  pub taken_start : (room : ℕ) → length items ≡ room → n ≤ room → Taken p n items from from first first
  taken_start room e h = record { fits = omega arith; upto = scan_start }

  module _ {i : ℕ} {ok : Bool} (s : Taken p n items from i first ok) where
    pub taken_on : (d : A) {z : Bool} → i < n → z ≡ p (get_or items i d) → Taken p n items from (i + 1) first (ok && z)
    taken_on d k e = record { fits = s.fits; upto = each_on p s.upto d (omega (arith, length-take-le n items s.fits)) (e ∙ ap p (sym (get_or-take n items i d k))) }

    pub taken_end : n ≤ i → ok ≡ (first && all p (drop from (take n items)))
    taken_end k = each_end p s.upto (omega (arith, length-take-le n items s.fits))

-- what is read of the counted slots, of which there is room for so many
module _ {A B : Type 0} (rd : A → B) (q : B → Bool) (b : A) (room n : ℕ) (items : List A) (first : Bool) where
  pub read_end : {i : ℕ} {ok : Bool} → Taken (λ (x : A). q (rd x)) n items 0 i first ok → n ≤ room → n ≤ i
      → ok ≡ (first && leb (length (map rd (counted b items n))) room && all q (map rd (counted b items n)))
  read_end s h k = taken_end s k ∙ sym (rw (few_enough rd b items n room h, and-true first, all_counted rd b items n q s.fits))
