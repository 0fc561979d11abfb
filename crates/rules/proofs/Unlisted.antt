-- How many of some ids a walk has not listed yet: a step from a held id that is not listed leaves fewer.
use Prim.Native.Nat.{ℕ, ◌+◌, ◌≤◌, ◌<◌}
use native.Mathlib.Omega.{arith}
use mathlib.Core.Path.{◌≡◌, refl, sym}
use mathlib.Core.Bool.{Bool, true, false, false≢true, cond, ◌||◌, or-true, or-false, or_assoc}
use mathlib.Core.List.{List, [], ◌∷◌, ◌++◌}
use mathlib.Core.Option.{some}
use lib.IntN.{ℤ}
use lib.ListN.{length}
use borrow.Table.Steps.{cases}
use Rattle.rules.specs.Words.{eq_z, is_in}
use Rattle.rules.specs.Walk.{parent_of}
use Rattle.rules.proofs.Orders.{numbers_told}

-- one that has a parent is held
pub held : (ids parents : List ℤ) (id : ℤ) {next : ℤ} → parent_of ids parents id ≡ some next → is_in ids id ≡ true
held [] parents id e = cc
held (x ∷ ids) [] id e = cc
held (x ∷ ids) (p ∷ parents) id e =
    cases (eq_z x id)
    (λ t. rw (numbers_told.equal x id t, numbers_told.itself id))
    (λ f. rw (held ids parents id (rw f at e)) (or-true (eq_z id x)))

abbrev pub unlisted : List ℤ → List ℤ → ℕ
unlisted listed [] = 0
unlisted listed (x ∷ ids) = cond (is_in listed x) 0 1 + unlisted listed ids

pub none_listed : (ids : List ℤ) → unlisted [] ids ≡ length ids
none_listed [] = refl
none_listed (x ∷ ids) = omega (arith, none_listed ids)

in_longer : (listed : List ℤ) (id x : ℤ) → is_in (listed ++ (id ∷ [])) x ≡ (is_in listed x || eq_z x id)
in_longer [] id x = or-false (eq_z x id)
in_longer (y ∷ listed) id x = rw (in_longer listed id x) (sym (or_assoc (eq_z x y) (is_in listed x) (eq_z x id)))

no_less : (a b : Bool) → cond (a || b) 0 1 ≤ cond a 0 1
no_less true b = omega arith
no_less false true = omega arith
no_less false false = omega arith

module _ (listed : List ℤ) (id : ℤ) where
  abbrev longer : List ℤ
  longer = listed ++ (id ∷ [])

  no_more : (ids : List ℤ) → unlisted longer ids ≤ unlisted listed ids
  no_more [] = omega arith
  no_more (x ∷ ids) = rw (in_longer listed id x) (omega (arith, no_less (is_in listed x) (eq_z x id), no_more ids))

  pub fewer : (ids : List ℤ) → is_in ids id ≡ true → is_in listed id ≡ false → unlisted longer ids < unlisted listed ids
  fewer [] h e = absurd (false≢true h)
  fewer (x ∷ ids) h e =
      cases (eq_z id x)
      (λ t. let q : x ≡ id = sym (numbers_told.equal id x t) in
      rw (in_longer listed id x, q, e, numbers_told.itself id) (omega (arith, no_more ids)))
      (λ f. rw (in_longer listed id x) (omega (arith, no_less (is_in listed x) (eq_z x id), fewer ids (rw f at h) e)))
