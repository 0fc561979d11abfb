-- Two names read side by side from the front: the bytes at `i` decide, or what follows them does.
use Prim.Native.Nat.{ℕ, suc, ◌+◌, ◌≤◌, ◌<◌}
use mathlib.Core.Path.{◌≡◌, refl, ap}
use mathlib.Core.Bool.{true, false}
use mathlib.Core.List.{List, [], ◌∷◌}
use native.Mathlib.Numerals.{add-one}
use native.Mathlib.Omega.{arith}
use borrow.Author.Tests.{eq-eqb, ne_eqb, le-ltb}
use borrow.Table.Steps.{cases}
use lib.Dec.{eqb, ltb}
use lib.ListN.{length, get_or, drop, drop_of_length-le}
use lib.Seq.{drop-cons}
use Rattle.rules.specs.Words.{same_bytes}
use Rattle.rules.specs.Names.{name_below}

pub unequal_lengths : (a b : List ℕ) → (length a ≡ length b → ⊥) → same_bytes a b ≡ false
unequal_lengths [] [] h = absurd (h refl)
unequal_lengths [] (y ∷ b) h = refl
unequal_lengths (x ∷ a) [] h = refl
unequal_lengths (x ∷ a) (y ∷ b) h = cases (eqb x y) (λ t. rw t (unequal_lengths a b (λ e. h (ap suc e)))) (λ f. rw f)

none_below_empty : (a : List ℕ) → name_below a [] ≡ false
none_below_empty [] = refl
none_below_empty (x ∷ a) = refl

module _ (a b : List ℕ) (i : ℕ) where
  pub same_end : length a ≤ i → length b ≤ i → same_bytes (drop i a) (drop i b) ≡ true
  same_end ha hb = rw (drop_of_length-le a ha, drop_of_length-le b hb)

  pub below_end : length b ≤ i → name_below (drop i a) (drop i b) ≡ false
  below_end hb = rw (drop_of_length-le b hb) (none_below_empty (drop i a))

  pub below_prefix : length a ≤ i → i < length b → name_below (drop i a) (drop i b) ≡ true
  below_prefix ha hb = rw (drop_of_length-le a ha, drop-cons b i 0 hb)

module _ (a b : List ℕ) (i : ℕ) (ha : i < length a) (hb : i < length b) where
  pub same_on : get_or a i 0 ≡ get_or b i 0 → same_bytes (drop i a) (drop i b) ≡ same_bytes (drop (i + 1) a) (drop (i + 1) b)
  same_on e = rw (drop-cons a i 0 ha, drop-cons b i 0 hb, eq-eqb (get_or a i 0) (get_or b i 0) e, add-one)

  pub same_not : (get_or a i 0 ≡ get_or b i 0 → ⊥) → same_bytes (drop i a) (drop i b) ≡ false
  same_not e = rw (drop-cons a i 0 ha, drop-cons b i 0 hb, ne_eqb (get_or a i 0) (get_or b i 0) e)

  pub below_on : get_or a i 0 ≡ get_or b i 0 → name_below (drop i a) (drop i b) ≡ name_below (drop (i + 1) a) (drop (i + 1) b)
  below_on e = rw (drop-cons a i 0 ha, drop-cons b i 0 hb, eq-eqb (get_or a i 0) (get_or b i 0) e, le-ltb (get_or a i 0) (get_or b i 0) (omega arith), add-one)

  pub below_here : (get_or a i 0 ≡ get_or b i 0 → ⊥) → name_below (drop i a) (drop i b) ≡ ltb (get_or a i 0) (get_or b i 0)
  below_here e = rw (drop-cons a i 0 ha, drop-cons b i 0 hb, ne_eqb (get_or a i 0) (get_or b i 0) e) (cases (ltb (get_or a i 0) (get_or b i 0)) (λ t. rw t) (λ f. rw f))
