-- The loop keeps a walk on its way, with the reason on each that is listed; how many they are is counted, so that no more marks are to be set than are left.
use Prim.Native.Nat.{ℕ, zero, suc, ◌+◌, ◌≤◌, ◌<◌}
use mathlib.Core.Path.{◌≡◌, refl, sym, ap, ap₂, ◌∙◌}
use mathlib.Core.Bool.{Bool, true, false, cond, not, ◌&&◌, true≢false}
use mathlib.Core.List.{List}
use mathlib.Core.Option.{some}
use native.Mathlib.Omega.{arith}
use borrow.Author.Rules.{rules}
use borrow.Author.Tests.{ne_eqb}
use lib.Dec.{eqb}
use lib.IntN.{ℤ, pos}
use lib.ListN.{length, get_or, set, length-set}
use lib.Signed.{lt_z, le_z}
use Rattle.rules.specs.Words.{some_with}
use Rattle.rules.specs.Window.{is_before}
use Rattle.rules.specs.Register.{Snapshot}
use Rattle.rules.specs.RefUpdates.{time_of}
use Rattle.rules.specs.Walk.{Walk, Listed, Twice, listed_ids, snapshot_ids}
use Rattle.search.proofs.Bits.{le_z_turned}
use Rattle.retention.specs.Retention.{is_twice}
use Rattle.retention.specs.Reasons.{nothing, named, within_count, within_age, place_of, why_at}
use Rattle.retention.proofs.Reason.{reason_at}
use Rattle.expiry.specs.Found.{marked, place_in, snapshot_times, Placed, branch_walk, branch_marks}
use Rattle.expiry.specs.declared.walks.Limits.{Limits}
use Rattle.expiry.proofs.Going.{unmarked, marks_one, Telling, held_places, marks_of, Going, begins, begins_none, ends, seen, unseen, stopped, twice, goes_on_lem, goes_more}
use Rattle.expiry.proofs.Slots.{slotted_none}
use Rattle.expiry.proofs.Times.{older_at}
use Rattle.expiry.proofs.walks.branch_marks.Statement.{statement}
use Rattle.expiry.proofs.walks.branch_marks.Tie as tie

telling : (count : ℤ) → Telling (why_at count)
telling count = record { absent = refl; there = λ k e. absurd (true≢false (sym (reason_at count (some k)) ∙ rw e)) }

-- the mark at a place of the list
why_is : (count : ℤ) (n : ℕ) → cond (eqb n 0) named (cond (lt_z (pos n) count) within_count within_age) ≡ why_at count (some n)
why_is count zero = refl
why_is count (suc n) = rw (ne_eqb (suc n) 0 (λ e. omega (arith, e)))

-- it is one
some_reason : (first counted : Bool) → cond first named (cond counted within_count within_age) ≡ nothing → ⊥
some_reason true counted e = omega (arith, e)
some_reason false true e = omega (arith, e)
some_reason false false e = omega (arith, e)

module _ (limits : Limits) (snapshots : List Snapshot) where
  abbrev stops : List ℤ → ℤ → Bool
  stops listed x = le_z limits.count.0 (pos (length listed)) && some_with (λ time. is_before limits.age.0 time limits.clock.0) (time_of x snapshots)

  module _ (id : ℤ) where
    abbrev Walking : List ℕ → ℕ → Type 0
    Walking slots place = Going snapshots stops (why_at limits.count.0) id slots place

    -- a walk that lists
    lists : {slots : List ℕ} (l : List ℤ) → branch_walk limits snapshots id ≡ Listed l → slots ≡ marks_of snapshots stops (why_at limits.count.0) id l → record { slots = slots; twice = false } ≡ branch_marks limits snapshots id
    unfolding branch_marks
    lists l e f = rw (e, f)

    -- and one that meets a snapshot twice
    meets : branch_walk limits snapshots id ≡ Twice → length (snapshot_ids snapshots) ≤ 64 → record { slots = lib.ListN.replicate 64 0; twice = true } ≡ branch_marks limits snapshots id
    unfolding branch_marks
    meets e h i =
        record {
          slots = (slotted_none nothing (snapshot_ids snapshots) h ∙ ap (λ (w : Walk). marked (λ x. why_at limits.count.0 (place_of (listed_ids w) x)) (snapshot_ids snapshots)) (sym e)) i;
          twice = ap is_twice (sym e) i;
        }

    -- the same way, by other names for the mark and for how many are listed
    onward : (slots : List ℕ) (place : ℕ) {next u v m n : ℕ} → v ≡ u → n ≡ m → (k : Walking (set slots place u) next) × (length k.listed ≡ m + 1) → (k : Walking (set slots place v) next) × (length k.listed ≡ n + 1)
    onward slots place e f p = rw (e, f) p

abbrev invariant_loop : tie.invariant-loop-place
invariant_loop over times start limits slots₀ listed₀ place₀ slots listed place =
    (length slots ≡ 64)
    × (listed + unmarked slots ≡ 64)
    × ((snapshots : List Snapshot) (id : ℤ) → Placed snapshots over → times ≡ snapshot_times snapshots → start ≡ place_in (snapshot_ids snapshots) id
    → (g : Walking limits snapshots id slots place) × (length g.listed ≡ listed))

abbrev decreases_loop : tie.decreases-loop-place
decreases_loop over times start limits slots₀ listed₀ place₀ slots listed place = unmarked slots

-- at the head of the loop
module _ (c : tie.At-loop-place invariant_loop decreases_loop) where
  abbrev a : tie.Start invariant_loop decreases_loop
  a = c.before.before

  -- for snapshots with these places and times
  module _ (snapshots : List Snapshot) (id : ℤ) (h : Placed snapshots a.args.over.now) (t : a.args.times.now ≡ snapshot_times snapshots) (e : a.args.start ≡ place_in (snapshot_ids snapshots) id) where
    abbrev going : Walking a.args.limits snapshots id c.loop-place.slots c.loop-place.place
    going = (c.loop-place.invariant.2 snapshots id h t e).0

    long : length going.listed ≡ c.loop-place.listed
    long = (c.loop-place.invariant.2 snapshots id h t e).1

    inside : c.loop-place.place < length a.args.over.now → c.loop-place.place < length (snapshot_ids snapshots)
    inside b = omega (arith, held_places h)

-- where the place is held
module _ (c : tie.After-is_older invariant_loop decreases_loop) where
  abbrev l : tie.At-loop-place invariant_loop decreases_loop
  l = c.before.before.before.before.before.before

  abbrev limits : Limits
  limits = (a l).args.limits

  below : l.loop-place.place < 64
  below = omega (arith, c.loop-place-test.true, (a l).requires)

  module _ (snapshots : List Snapshot) (id : ℤ) (h : Placed snapshots (a l).args.over.now) (t : (a l).args.times.now ≡ snapshot_times snapshots) (e : (a l).args.start ≡ place_in (snapshot_ids snapshots) id) where
    abbrev g : Walking limits snapshots id l.loop-place.slots l.loop-place.place
    g = going l snapshots id h t e

    abbrev b : l.loop-place.place < length (snapshot_ids snapshots)
    b = inside l snapshots id h t e c.loop-place-test.true

    -- whether it stops is asked
    asked : stops limits snapshots g.listed g.id ≡ (not c.is_counted-counted.result && c.is_older.result)
    asked =
        ap₂ (λ (x y : Bool). x && y)
        (ap (λ (n : ℕ). le_z limits.count.0 (pos n)) (long l snapshots id h t e) ∙ le_z_turned limits.count.0 (pos l.loop-place.listed) ∙ ap not (sym c.is_counted-counted.ensures))
        (sym (c.is_older.ensures ∙ older_at snapshots g.id limits.age.0 limits.clock.0 t g.here))

    stops_here : (not c.is_counted-counted.result && c.is_older.result) ≡ true → record { slots = l.loop-place.slots; twice = false } ≡ branch_marks limits snapshots id
    stops_here f = lists limits snapshots id g.listed (stopped snapshots (stops limits snapshots) _ id h (telling _) g b (asked ∙ f)) g.marks

    meets_here : (not c.is_counted-counted.result && c.is_older.result) ≡ false → (get_or l.loop-place.slots l.loop-place.place 0 ≡ nothing → ⊥) → record { slots = lib.ListN.replicate 64 0; twice = true } ≡ branch_marks limits snapshots id
    meets_here f n =
        meets limits snapshots id
        (twice snapshots (stops limits snapshots) _ id h (telling _) g b (asked ∙ f) (seen snapshots (stops limits snapshots) _ id h (telling _) g b n))
        (omega (arith, held_places h, (a l).requires))

    -- one more is marked
    goes_further : {v : ℕ} → v ≡ cond (eqb l.loop-place.listed 0) named (cond c.is_counted-counted.result within_count within_age) → (not c.is_counted-counted.result && c.is_older.result) ≡ false → get_or l.loop-place.slots l.loop-place.place 0 ≡ nothing
        → (k : Walking limits snapshots id (set l.loop-place.slots l.loop-place.place v) (get_or (a l).args.over.now l.loop-place.place 0)) × (length k.listed ≡ l.loop-place.listed + 1)
    goes_further q f n =
        let m = unseen snapshots (stops limits snapshots) _ id h (telling _) g b n in
        let w = ap (λ (k : ℕ). why_at limits.count.0 (some k)) (sym (long l snapshots id h t e)) in
        let r = ap (λ (x : Bool). cond (eqb l.loop-place.listed 0) named (cond x within_count within_age)) c.is_counted-counted.ensures in
        onward limits snapshots id l.loop-place.slots l.loop-place.place (q ∙ r ∙ why_is limits.count.0 l.loop-place.listed ∙ w) (sym (long l snapshots id h t e))
        (goes_on_lem snapshots (stops limits snapshots) _ id h (telling _) g b (asked ∙ f) m, goes_more snapshots (stops limits snapshots) _ id h (telling _) g b (asked ∙ f) m)

  -- one mark less is left to set
  less : {v : ℕ} → v ≡ cond (eqb l.loop-place.listed 0) named (cond c.is_counted-counted.result within_count within_age) → get_or l.loop-place.slots l.loop-place.place 0 ≡ nothing → unmarked l.loop-place.slots ≡ suc (unmarked (set l.loop-place.slots l.loop-place.place v))
  less {v} q n = marks_one l.loop-place.slots l.loop-place.place v (omega (arith, below, l.loop-place.invariant.0)) n (λ z. some_reason (eqb l.loop-place.listed 0) c.is_counted-counted.result (sym q ∙ z))

pub branch_marks_spec : {M : Type 1} → statement M
branch_marks_spec =
    tie.close
    (tie.spec
    invariant_loop
    decreases_loop
    (λ c. (refl, refl, λ snapshots id h t e. (begins snapshots _ _ id h (telling _) e, begins_none snapshots _ _ id h (telling _) e)))
    (λ c κs. omega (arith, c.loop-place.invariant.1))
    (λ c κs. search rules)
    (λ c snapshots id h t e. stops_here c.before snapshots id h t e c.if-counted-is_older.true)
    (λ c. below c.before)
    (λ c snapshots id h t e. meets_here c.before.before snapshots id h t e c.if-counted-is_older.false c.if-slots-place-ne-NOTHING.true)
    (λ c κs. search rules)
    (λ c. below c.before.before.before)
    (λ c. omega (arith, (l c.before.before.before).loop-place.invariant.1))
    (λ c. omega (arith, below c.before.before.before))
    (λ c. c.loop-place-test.true)
    (λ c. omega (arith, less c.before.before.before.before c.why_at.ensures c.if-slots-place-ne-NOTHING.false))
    (λ c. let k = c.before.before.before.before in (
      length-set (l k).loop-place.slots (l k).loop-place.place c.why_at.result ∙ (l k).loop-place.invariant.0,
      omega (arith, less k c.why_at.ensures c.if-slots-place-ne-NOTHING.false, (l k).loop-place.invariant.1),
      λ snapshots id h t e. goes_further k snapshots id h t e c.why_at.ensures c.if-counted-is_older.false c.if-slots-place-ne-NOTHING.false,
    ))
    (λ c snapshots id h t e. let g = going c.before snapshots id h t e in
    lists _ snapshots id g.listed (ends snapshots _ _ id h (telling _) g (omega (arith, held_places h, c.loop-place-test.false))) g.marks))
