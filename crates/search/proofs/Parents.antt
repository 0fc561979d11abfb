-- The parent of an id stands where the id stands.
use Prim.Native.Nat.{◌<◌}
use mathlib.Core.Path.{◌≡◌, refl}
use mathlib.Core.List.{List, [], ◌∷◌}
use mathlib.Core.Option.{none, some}
use native.Mathlib.Omega.{arith}
use borrow.Table.Steps.{cases}
use lib.IntN.{ℤ, pos}
use lib.ListN.{length, get_or}
use Rattle.rules.specs.Words.{eq_z}
use Rattle.rules.specs.Walk.{parent_of}
use Rattle.search.specs.Places.{index_of}

module _ (id : ℤ) where
  -- one that has no place has no parent
  pub parent_none : (ids parents : List ℤ) → index_of (λ x. eq_z x id) ids ≡ length ids → parent_of ids parents id ≡ none
  parent_none [] parents e = refl
  parent_none (x ∷ ids) [] e = refl
  parent_none (x ∷ ids) (p ∷ parents) e =
      cases (eq_z x id)
      (λ t. absurd (omega (arith, rw t at e)))
      (λ f. rw f (parent_none ids parents (omega (arith, rw f at e))))

  -- one that has a place has the parent that stands there
  pub parent_at : (ids parents : List ℤ) → length ids ≡ length parents → index_of (λ x. eq_z x id) ids < length ids → parent_of ids parents id ≡ some (get_or parents (index_of (λ x. eq_z x id) ids) (pos 0))
  parent_at [] parents e h = absurd (omega arith)
  parent_at (x ∷ ids) [] e h = absurd (omega arith)
  parent_at (x ∷ ids) (p ∷ parents) e h =
      cases (eq_z x id)
      (λ t. rw t)
      (λ f. rw f (parent_at ids parents (omega arith) (omega (arith, rw f at h))))
