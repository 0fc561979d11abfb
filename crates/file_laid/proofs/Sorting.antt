-- A table put in order has as many as before, and what holds of each of them still does.
use Prim.Native.Nat.{ℕ, suc}
use mathlib.Core.Path.{◌≡◌, refl, ◌∙◌, ap}
use mathlib.Core.Bool.{Bool, true}
use mathlib.Core.List.{List, [], ◌∷◌}
use lib.Dec.{leb}
use lib.ListN.{length}
use Rattle.rules.specs.Words.{all}
use Rattle.rules.proofs.Checks.{by_test, both, and_left, and_right}
use Rattle.file_rule.specs.Import.{inserted, sorted}
use Rattle.file_laid.specs.Fits.{Within}

module _ {A : Type 0} (below : A → A → Bool) where
  length_inserted : (x : A) (l : List A) → length (inserted below x l) ≡ suc (length l)
  unfolding inserted
  length_inserted x [] = refl
  length_inserted x (y ∷ l) = by_test (λ (r : List A). length r ≡ suc (suc (length l))) (below y x) (λ e. ap suc (length_inserted x l)) (λ e. refl)

  pub length_sorted : (l : List A) → length (sorted below l) ≡ length l
  unfolding sorted
  length_sorted [] = refl
  length_sorted (x ∷ l) = length_inserted x (sorted below l) ∙ ap suc (length_sorted l)

  module _ (p : A → Bool) where
    all_inserted : (x : A) (l : List A) → p x ≡ true → all p l ≡ true → all p (inserted below x l) ≡ true
    unfolding inserted
    all_inserted x [] h k = both h k
    all_inserted x (y ∷ l) h k =
        by_test (λ (r : List A). all p r ≡ true) (below y x)
        (λ e. both (and_left (p y) (all p l) k) (all_inserted x l h (and_right (p y) (all p l) k)))
        (λ e. both h k)

    pub all_sorted : (l : List A) → all p l ≡ true → all p (sorted below l) ≡ true
    unfolding sorted
    all_sorted [] h = refl
    all_sorted (x ∷ l) h = all_inserted x (sorted below l) (and_left (p x) (all p l) h) (all_sorted l (and_right (p x) (all p l) h))

  pub sorted_few : (room : ℕ) (l : List A) → leb (length l) room ≡ true → leb (length (sorted below l)) room ≡ true
  sorted_few room l h = ap (λ (n : ℕ). leb n room) (length_sorted l) ∙ h

  pub sorted_within : (room : ℕ) (fits : A → Bool) (l : List A) → Within room fits l → Within room fits (sorted below l)
  sorted_within room fits l w = record { few = sorted_few room l w.few; each = all_sorted fits l w.each }
