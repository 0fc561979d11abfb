-- The least of the listed ids: what is below it is not listed.
use mathlib.Core.Path.{◌≡◌, refl}
use mathlib.Core.Bool.{true, false, false≢true, cond, not}
use mathlib.Core.List.{List, [], ◌∷◌, ◌++◌}
use borrow.Table.Steps.{cases}
use lib.IntN.{ℤ}
use lib.Signed.{lt_z}
use Rattle.rules.specs.Words.{is_in}
use Rattle.rules.proofs.Orders.{numbers_ordered}
use Rattle.rules.proofs.Tables.{all_then, all_append}
use Rattle.walk.specs.Lists.{NoneBelow}
use Rattle.walk.proofs.Scans.{not_in}

pub none_below : (least : ℤ) → NoneBelow least []
unfolding NoneBelow
none_below least = refl

-- the same, by other names
pub none_below_at : {least least' : ℤ} {ids ids' : List ℤ} → least' ≡ least → ids' ≡ ids → NoneBelow least ids → NoneBelow least' ids'
none_below_at e f h = rw (e, f) h

pub below_all : (least : ℤ) (ids : List ℤ) (id : ℤ) → NoneBelow least ids → lt_z id least ≡ true → is_in ids id ≡ false
unfolding NoneBelow
below_all least ids id h e = not_in (λ x. not (lt_z x least)) id ids (rw e) h

pub one_more_listed : (least : ℤ) (ids : List ℤ) (id : ℤ) → NoneBelow least ids → NoneBelow (cond (lt_z id least) id least) (ids ++ (id ∷ []))
unfolding NoneBelow
one_more_listed least ids id h =
    cases (lt_z id least)
    (λ t. rw t (all_append (λ x. not (lt_z x id)) ids (id ∷ []) (all_then (λ x. not (lt_z x least)) (λ x. not (lt_z x id)) (λ x k. below x t k) ids h) (rw (numbers_ordered.irreflexive id))))
    (λ f. rw f (all_append (λ x. not (lt_z x least)) ids (id ∷ []) h (rw f)))
  where
    below : (x : ℤ) → lt_z id least ≡ true → not (lt_z x least) ≡ true → not (lt_z x id) ≡ true
    below x t k = cases (lt_z x id) (λ u. absurd (false≢true (rw (numbers_ordered.transitive x id least u t) at k))) (λ f. rw f)
