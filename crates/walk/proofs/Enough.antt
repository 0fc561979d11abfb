-- The steps that the rule allows are enough: any number of steps above that of the ids gives the same walk.
use Prim.Native.Nat.{ℕ, zero, suc, ◌<◌}
use mathlib.Core.Path.{◌≡◌, refl, sym, ◌∙◌}
use mathlib.Core.Bool.{true, false}
use mathlib.Core.List.{List, [], ◌∷◌, ◌++◌}
use mathlib.Core.Option.{Option, none, some}
use native.Mathlib.Omega.{arith}
use borrow.Table.Steps.{cases}
use lib.IntN.{ℤ}
use lib.ListN.{length}
use Rattle.rules.specs.Capacities.{snapshot_room}
use Rattle.rules.specs.Words.{is_in}
use Rattle.rules.specs.Walk.{lists_formed, ancestors}
use Rattle.rules.proofs.Unlisted.{unlisted, none_listed}
use Rattle.walk.proofs.Follow.{next_of, few, leaves_fewer, from, onward, by_step}

module _ (ids parents : List ℤ) (excluded : Option ℤ) where
  same_onward : (j k : ℕ) (listed : List ℤ) (id : ℤ) (o : Option ℤ) →
      ((next : ℤ) → o ≡ some next → is_in listed id ≡ false → from ids parents excluded j (listed ++ (id ∷ [])) next ≡ from ids parents excluded k (listed ++ (id ∷ [])) next) →
      onward ids parents excluded j listed id o ≡ onward ids parents excluded k listed id o
  same_onward j k listed id none rest = refl
  same_onward j k listed id (some next) rest = cases (is_in listed id) (λ t. rw t) (λ f. rw f (rest next refl f))

  same_steps : (j k : ℕ) (listed : List ℤ) (id : ℤ) → unlisted listed ids < j → unlisted listed ids < k → from ids parents excluded j listed id ≡ from ids parents excluded k listed id
  same_steps zero k listed id h l = absurd (omega arith)
  same_steps (suc j) zero listed id h l = absurd (omega arith)
  same_steps (suc j) (suc k) listed id h l =
      by_step ids parents excluded j listed id
      ∙ same_onward j k listed id (next_of ids parents excluded id)
      (λ next e f. let less = leaves_fewer ids parents excluded listed id e f in same_steps j k (listed ++ (id ∷ [])) next (omega arith) (omega arith))
      ∙ sym (by_step ids parents excluded k listed id)

  pub enough_steps : (start : ℤ) (k : ℕ) → lists_formed ids parents ≡ true → length ids < k → ancestors ids parents start excluded ≡ from ids parents excluded k [] start
  unfolding ancestors
  enough_steps start k e h = rw e (same_steps (suc snapshot_room) k [] start (omega (arith, none_listed ids, few ids parents e)) (omega (arith, none_listed ids)))
