-- What is reached, on its way: each step lists a held id that was not listed, so fewer are left, and the steps that the rule allows are enough.
use Prim.Native.Nat.{ℕ, suc, ◌+◌, ◌-◌, ◌≤◌, ◌<◌}
use native.Mathlib.Omega.{arith}
use mathlib.Core.Path.{◌≡◌, refl, sym, ap, ◌∙◌}
use mathlib.Core.Bool.{Bool, true, false, cond, ◌||◌, or-false}
use mathlib.Core.List.{List, [], ◌∷◌, ◌++◌}
use mathlib.Core.Option.{Option, none, some}
use lib.IntN.{ℤ, pos}
use lib.ListN.{length, get_or, length-append}
use Rattle.rules.specs.Words.{eq_z, any, is_in}
use Rattle.rules.specs.Capacities.{snapshot_room}
use Rattle.rules.specs.Walk.{Walk, Listed, Twice, parent_of, follow, listed_ids}
use Rattle.rules.proofs.Replay.Lists.{any_append}
use Rattle.rules.proofs.Unlisted.{held, unlisted, none_listed, fewer}
use Rattle.search.specs.Places.{index_of}
use Rattle.search.proofs.Parents.{parent_at}
use Rattle.offices.specs.Reach.{reach_of}

-- from a place among the ids to the parent that stands there
pub to_parent : (ids parents : List ℤ) (id : ℤ) {k : ℕ} → k ≡ index_of (λ x. eq_z x id) ids → length ids ≡ length parents → k < length ids → parent_of ids parents id ≡ some (get_or parents k (pos 0))
to_parent ids parents id q e h = rw q (parent_at id ids parents e (omega (arith, q)))

module _ (ids parents : List ℤ) where
  abbrev from : ℕ → List ℤ → ℤ → Walk
  from k listed id = follow k (parent_of ids parents) is_in listed id

  -- where a walk goes from an id, told whether that is listed and what parent it has
  abbrev onward : ℕ → List ℤ → ℤ → Bool → Option ℤ → Walk
  onward k listed id t none = Listed listed
  onward k listed id t (some next) = cond t (Listed listed) (from k (listed ++ (id ∷ [])) next)

  by_step : (k : ℕ) (listed : List ℤ) (id : ℤ) → from (suc k) listed id ≡ onward k listed id (is_in listed id) (parent_of ids parents id)
  unfolding follow
  by_step k listed id = go (is_in listed id) (parent_of ids parents id)
    where
      go : (t : Bool) (o : Option ℤ) →
          elim o [ none ↦ Listed listed | some next ↦ cond t (Listed listed) (cond t Twice (from k (listed ++ (id ∷ [])) next)) ] ≡ onward k listed id t o
      go t none = refl
      go true (some next) = refl
      go false (some next) = refl

-- these are listed, the id is next, what is listed from here is what is reached, and whether a removed one is listed yet
pub record Going (ids parents removed : List ℤ) (start : ℤ) (listed : List ℤ) (id : ℤ) (met : Bool) : Type 0 where
  pub fresh : length listed + unlisted listed ids ≤ length ids
  pub same : reach_of ids parents start ≡ listed_ids (from ids parents (suc (snapshot_room - length listed)) listed id)
  pub seen : met ≡ any (is_in removed) listed

-- the same way, by other names for where it stands
pub going_at : {ids parents removed : List ℤ} {start : ℤ} {listed listed' : List ℤ} {id id' : ℤ} {met met' : Bool} → listed' ≡ listed → id' ≡ id → met' ≡ met
    → Going ids parents removed start listed id met → Going ids parents removed start listed' id' met'
going_at e f h g = rw (e, f, h) g

pub begins : (ids parents removed : List ℤ) (start : ℤ) → Going ids parents removed start [] start false
unfolding reach_of
begins ids parents removed start =
    record {
      fresh = omega (arith, none_listed ids);
      same = ap (λ (k : ℕ). listed_ids (from ids parents (suc k) [] start)) (omega arith);
      seen = refl;
    }

module _ {ids parents removed : List ℤ} (few : length ids ≤ snapshot_room) {start : ℤ} {listed : List ℤ} {id : ℤ} {met : Bool} (g : Going ids parents removed start listed id met) where
  goes : reach_of ids parents start ≡ listed_ids (onward ids parents (snapshot_room - length listed) listed id (is_in listed id) (parent_of ids parents id))
  goes = g.same ∙ ap listed_ids (by_step ids parents (snapshot_room - length listed) listed id)

  told : reach_of ids parents start ≡ listed → met ≡ any (is_in removed) (reach_of ids parents start)
  told e = g.seen ∙ ap (any (is_in removed)) (sym e)

  -- it ends where the id is not held, or is listed
  pub ends : parent_of ids parents id ≡ none → met ≡ any (is_in removed) (reach_of ids parents start)
  ends e = told (goes ∙ rw e)

  module _ {next : ℤ} (to : parent_of ids parents id ≡ some next) where
    pub meets : is_in listed id ≡ true → met ≡ any (is_in removed) (reach_of ids parents start)
    meets e = told (goes ∙ rw (to, e))

    module _ (e : is_in listed id ≡ false) where
      left : unlisted (listed ++ (id ∷ [])) ids < unlisted listed ids
      left = fewer listed id ids (held ids parents id to) e

      pub room : length listed < length ids
      room = omega (arith, g.fresh, left)

      pub goes_on_lem : Going ids parents removed start (listed ++ (id ∷ [])) next (met || is_in removed id)
      goes_on_lem =
          record {
            fresh = omega (arith, g.fresh, left, length-append listed (id ∷ []));
            same = goes ∙ rw (to, e) (ap (λ (k : ℕ). listed_ids (from ids parents k (listed ++ (id ∷ [])) next)) (omega (arith, room, few, length-append listed (id ∷ []))));
            seen = ap (λ (b : Bool). b || is_in removed id) g.seen ∙ sym (any_append (is_in removed) listed (id ∷ []) ∙ ap (λ (b : Bool). any (is_in removed) listed || b) (or-false (is_in removed id)));
          }
