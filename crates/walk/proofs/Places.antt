-- Where an id stands, and where a step from it leads.
use Prim.Native.Nat.{ℕ, zero, suc, ◌≤◌, ◌<◌}
use native.Mathlib.Omega.{arith}
use mathlib.Core.Path.{◌≡◌, ap}
use mathlib.Core.Bool.{true, false≢true, not, or-true}
use mathlib.Core.List.{List, [], ◌∷◌}
use mathlib.Core.Option.{Option, none, some}
use borrow.Table.Steps.{cases}
use lib.IntN.{ℤ, pos}
use lib.ListN.{length, get_or}
use Rattle.rules.specs.Words.{eq_z, is_in, some_with, unequal}
use Rattle.rules.proofs.Checks.{and_left, and_right}
use Rattle.rules.proofs.Orders.{numbers_told}
use Rattle.search.specs.Places.{index_of}
use Rattle.search.proofs.Places.{index_le}
use Rattle.search.proofs.Parents.{parent_none, parent_at}
use Rattle.walk.specs.Answers.{step_from}
use Rattle.walk.proofs.Follow.{next_of}

stands : (l : List ℤ) (i : ℕ) → i < length l → is_in l (get_or l i (pos 0)) ≡ true
stands [] i h = absurd (omega arith)
stands (x ∷ l) zero h = rw (numbers_told.itself x)
stands (x ∷ l) (suc i) h = rw (stands l i (omega arith)) (or-true (eq_z (get_or l i (pos 0)) x))

-- among unequal ids the place of an id is where one equal to it stands
pub place_at : (l : List ℤ) (i : ℕ) → unequal l ≡ true → i < length l → index_of (λ x. eq_z x (get_or l i (pos 0))) l ≡ i
place_at [] i u h = absurd (omega arith)
place_at (x ∷ l) zero u h = rw (numbers_told.itself x)
place_at (x ∷ l) (suc i) u h =
    cases (eq_z x (get_or l i (pos 0)))
    (λ t. let e : is_in l x ≡ true = rw (numbers_told.equal x (get_or l i (pos 0)) t) (stands l i (omega arith)) in
    absurd (false≢true (rw e at (and_left (not (is_in l x)) (unequal l) u))))
    (λ f. rw f (ap suc (place_at l i (and_right (not (is_in l x)) (unequal l) u) (omega arith))))

module _ (ids parents : List ℤ) (excluded : Option ℤ) (id : ℤ) where
  pub step_le : step_from ids excluded id ≤ length ids
  step_le = cases (some_with (eq_z id) excluded) (λ t. rw t (omega arith)) (λ f. rw f (index_le (λ x. eq_z x id) ids))

  pub step_none : step_from ids excluded id ≡ length ids → next_of ids parents excluded id ≡ none
  step_none e = cases (some_with (eq_z id) excluded) (λ t. rw t) (λ f. rw f (parent_none id ids parents (rw f at e)))

  pub step_to : {k : ℕ} → k ≡ step_from ids excluded id → length ids ≡ length parents → k < length ids → next_of ids parents excluded id ≡ some (get_or parents k (pos 0))
  step_to q e h =
      cases (some_with (eq_z id) excluded)
      (λ t. absurd (omega (arith, rw t at q)))
      (λ f. let p = rw f at q in rw (f, p) (parent_at id ids parents e (omega (arith, p))))
