-- Ids that ascend from 0 on: read from the front, and unequal with none below 0.
use Prim.Native.Nat.{ℕ, suc, ◌+◌, ◌≤◌, ◌<◌}
use native.Mathlib.Numerals.{add-one}
use native.Mathlib.Omega.{arith}
use mathlib.Core.Path.{◌≡◌, refl, ◌∙◌}
use mathlib.Core.Bool.{true, false}
use mathlib.Core.List.{List, [], ◌∷◌}
use borrow.Author.Tests.{ltb-true}
use lib.IntN.{ℤ, pos, negsuc}
use lib.ListN.{length, get_or, drop, drop_of_length-le}
use lib.Seq.{drop-cons}
use lib.Signed.{lt_z, non_neg}
use Rattle.rules.specs.Words.{ascending, unequal}
use Rattle.rules.proofs.Checks.{both}
use Rattle.rules.proofs.Orders.{numbers_ordered}
use Rattle.rules.proofs.Tables.{all_then, pairs_head, pairs_tail, ascending_two}
use Rattle.walk.specs.Lists.{ids_formed, rising}
use Rattle.walk.proofs.Scans.{not_in}

module _ (ids : List ℤ) (i : ℕ) (last : ℤ) where
  pub rises_not : i < length ids → lt_z last (get_or ids i (pos 0)) ≡ false → ascending lt_z (last ∷ drop i ids) ≡ false
  rises_not h e = rw (drop-cons ids i (pos 0) h) (ascending_two numbers_ordered (λ x. x) last (get_or ids i (pos 0)) (drop (suc i) ids) ∙ rw e)

  pub rises_on : i < length ids → lt_z last (get_or ids i (pos 0)) ≡ true → ascending lt_z (last ∷ drop i ids) ≡ ascending lt_z (get_or ids i (pos 0) ∷ drop (i + 1) ids)
  rises_on h e = rw (drop-cons ids i (pos 0) h, add-one) (ascending_two numbers_ordered (λ x. x) last (get_or ids i (pos 0)) (drop (suc i) ids) ∙ rw e)

  pub rises_end : length ids ≤ i → ascending lt_z (last ∷ drop i ids) ≡ true
  rises_end h = rw (drop_of_length-le ids h)

-- no id is equal to one above it
ascending_unequal : (l : List ℤ) → ascending lt_z l ≡ true → unequal l ≡ true
ascending_unequal [] h = refl
ascending_unequal (x ∷ l) h =
    rw (not_in (lt_z x) x l (numbers_ordered.irreflexive x) (pairs_head lt_z x l h)) (ascending_unequal l (pairs_tail lt_z x l h))

above_none : (x : ℤ) → lt_z (negsuc 0) x ≡ true → non_neg x ≡ true
above_none (pos n) h = refl
above_none (negsuc n) h = absurd (omega (arith, ltb-true n 0 h))

pub rising_ascends : (ids : List ℤ) → rising ids ≡ true → ascending lt_z ids ≡ true
unfolding rising
rising_ascends ids = pairs_tail lt_z (negsuc 0) ids

pub rising_formed : (ids : List ℤ) → rising ids ≡ true → ids_formed ids ≡ true
unfolding rising ids_formed
rising_formed ids h =
    both (ascending_unequal ids (rising_ascends ids h)) (all_then (lt_z (negsuc 0)) non_neg above_none ids (pairs_head lt_z (negsuc 0) ids h))
