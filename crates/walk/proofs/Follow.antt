-- A walk on its way: each step lists a held id that was not listed, so fewer are left, and the steps that the rule allows are enough.
use Prim.Native.Nat.{ℕ, suc, ◌+◌, ◌-◌, ◌≤◌, ◌<◌}
use mathlib.Core.Path.{◌≡◌, refl, ap, ◌∙◌}
use mathlib.Core.Bool.{Bool, true, false, cond}
use mathlib.Core.List.{List, [], ◌∷◌, ◌++◌}
use mathlib.Core.Option.{Option, none, some}
use native.Mathlib.Omega.{arith}
use borrow.Author.Tests.{eqb-true, leb-true}
use lib.Dec.{eqb, leb}
use lib.IntN.{ℤ}
use lib.ListN.{length, length-append}
use lib.Signed.{non_neg}
use Rattle.rules.specs.Capacities.{snapshot_room}
use Rattle.rules.specs.Words.{eq_z, all, is_in, unequal, some_with}
use Rattle.rules.specs.Walk.{Walk, Listed, Twice, Bad, parent_of, lists_formed, follow, ancestors}
use Rattle.rules.proofs.Checks.{Hold, parts}
use Rattle.rules.proofs.Unlisted.{held, unlisted, none_listed, fewer}

-- ---- a step from an id is to the parent of a held one

-- from an id to its parent; nowhere from one that is excluded or not held
abbrev pub next_of : List ℤ → List ℤ → Option ℤ → ℤ → Option ℤ
next_of ids parents excluded id = cond (some_with (eq_z id) excluded) none (parent_of ids parents id)

to_parent : (stops : Bool) (o : Option ℤ) {next : ℤ} → cond stops none o ≡ some next → o ≡ some next
to_parent true o e = cc
to_parent false o e = e

-- ---- a walk on its way

-- lists that are well formed
module _ (ids parents : List ℤ) (e : lists_formed ids parents ≡ true) where
  tests : Hold (eqb (length ids) (length parents) ∷ leb (length ids) snapshot_room ∷ unequal ids ∷ all non_neg ids ∷ [])
  tests = parts (eqb (length ids) (length parents)) (leb (length ids) snapshot_room ∷ unequal ids ∷ all non_neg ids ∷ []) e

  pub as_many : length ids ≡ length parents
  as_many = eqb-true (length ids) (length parents) tests.0

  pub few : length ids ≤ snapshot_room
  few = leb-true (length ids) snapshot_room tests.1.0

  pub apart : unequal ids ≡ true
  apart = tests.1.1.0

module _ (ids parents : List ℤ) (excluded : Option ℤ) where
  abbrev pub from : ℕ → List ℤ → ℤ → Walk
  from k listed id = follow k (parent_of ids parents) (λ l x. some_with (eq_z x) excluded) listed id

  abbrev pub onward : ℕ → List ℤ → ℤ → Option ℤ → Walk
  onward k listed id none = Listed listed
  onward k listed id (some next) = cond (is_in listed id) Twice (from k (listed ++ (id ∷ [])) next)

  -- the rule goes by the step
  pub by_step : (k : ℕ) (listed : List ℤ) (id : ℤ) → from (suc k) listed id ≡ onward k listed id (next_of ids parents excluded id)
  unfolding follow
  by_step k listed id = go (some_with (eq_z id) excluded) (parent_of ids parents id)
    where
      go : (stops : Bool) (o : Option ℤ) →
          elim o [ none ↦ Listed listed | some next ↦ cond stops (Listed listed) (cond (is_in listed id) Twice (from k (listed ++ (id ∷ [])) next)) ]
          ≡ onward k listed id (cond stops none o)
      go true none = refl
      go true (some next) = refl
      go false none = refl
      go false (some next) = refl

-- these are listed, the id is next, and what is found from here is what is found
pub record Going (ids parents : List ℤ) (excluded : Option ℤ) (start : ℤ) (listed : List ℤ) (id : ℤ) : Type 0 where
  pub few_ids : length ids ≤ snapshot_room
  pub fresh : length listed + unlisted listed ids ≤ length ids
  pub same : ancestors ids parents start excluded ≡ from ids parents excluded (suc (snapshot_room - length listed)) listed id

-- the same way, by other names for where it stands
pub going_at : {ids parents : List ℤ} {excluded : Option ℤ} {start : ℤ} {listed listed' : List ℤ} {id id' : ℤ} → listed' ≡ listed → id' ≡ id → Going ids parents excluded start listed id → Going ids parents excluded start listed' id'
going_at e f g = rw (e, f) g

pub refused : (ids parents : List ℤ) (excluded : Option ℤ) (start : ℤ) → lists_formed ids parents ≡ false → ancestors ids parents start excluded ≡ Bad
unfolding ancestors
refused ids parents excluded start e = rw e

pub begins : (ids parents : List ℤ) (excluded : Option ℤ) (start : ℤ) → lists_formed ids parents ≡ true → Going ids parents excluded start [] start
unfolding ancestors
begins ids parents excluded start e =
    record {
      few_ids = few ids parents e;
      fresh = omega (arith, none_listed ids);
      same = rw e (ap (λ (k : ℕ). from ids parents excluded (suc k) [] start) (omega arith));
    }

-- a step from an id that is not listed leaves fewer
pub leaves_fewer : (ids parents : List ℤ) (excluded : Option ℤ) (listed : List ℤ) (id : ℤ) {next : ℤ} → next_of ids parents excluded id ≡ some next → is_in listed id ≡ false → unlisted (listed ++ (id ∷ [])) ids < unlisted listed ids
leaves_fewer ids parents excluded listed id to e =
    fewer listed id ids (held ids parents id (to_parent (some_with (eq_z id) excluded) (parent_of ids parents id) to)) e

module _ {ids parents : List ℤ} {excluded : Option ℤ} {start : ℤ} {listed : List ℤ} {id : ℤ} (g : Going ids parents excluded start listed id) where
  pub ends : next_of ids parents excluded id ≡ none → ancestors ids parents start excluded ≡ Listed listed
  ends e = g.same ∙ by_step ids parents excluded (snapshot_room - length listed) listed id ∙ rw e

  module _ {next : ℤ} (to : next_of ids parents excluded id ≡ some next) where
    pub meets : is_in listed id ≡ true → ancestors ids parents start excluded ≡ Twice
    meets e = g.same ∙ by_step ids parents excluded (snapshot_room - length listed) listed id ∙ rw (to, e)

    module _ (e : is_in listed id ≡ false) where
      left : unlisted (listed ++ (id ∷ [])) ids < unlisted listed ids
      left = leaves_fewer ids parents excluded listed id to e

      pub room : length listed < length ids
      room = omega (arith, g.fresh, left)

      pub goes_on_lem : Going ids parents excluded start (listed ++ (id ∷ [])) next
      goes_on_lem =
          record {
            few_ids = g.few_ids;
            fresh = omega (arith, g.fresh, left, length-append listed (id ∷ []));
            same =
                g.same
                ∙ by_step ids parents excluded (snapshot_room - length listed) listed id
                ∙ rw (to, e) (ap (λ (k : ℕ). from ids parents excluded k (listed ++ (id ∷ [])) next) (omega (arith, room, length-append listed (id ∷ []))));
          }
