-- The loop keeps a walk on its way, with a mark on each that is listed; the next that is marked ends it. Each turn leaves one mark less to set.
use Prim.Native.Nat.{ℕ, ◌<◌}
use mathlib.Core.Path.{◌≡◌, refl, sym, ap, ◌∙◌}
use mathlib.Core.Bool.{cond}
use mathlib.Core.List.{List}
use mathlib.Core.Option.{Option}
use native.Mathlib.Omega.{arith}
use borrow.Author.Rules.{rules}
use lib.IntN.{ℤ}
use lib.ListN.{length, length-set}
use Rattle.rules.specs.Words.{is_some, is_in}
use Rattle.rules.specs.Register.{Snapshot}
use Rattle.rules.specs.Walk.{Walk, Listed, listed_ids, reach, snapshot_ids}
use Rattle.retention.specs.Reasons.{nothing, others_need}
use Rattle.retention.proofs.Reason.{placed}
use Rattle.expiry.specs.Found.{marked, place_in, Placed}
use Rattle.expiry.proofs.Going.{unmarked, marks_one, Telling, held_places, whole, marks_of, Going, begins, ends, seen, unseen, stopped, goes_on_lem}
use Rattle.expiry.proofs.walks.reach_marks.Statement.{statement}
use Rattle.expiry.proofs.walks.reach_marks.Tie as tie

-- one mark for all that is listed
abbrev code : Option ℕ → ℕ
code o = cond (is_some o) others_need nothing

telling : Telling code
telling = record { absent = refl; there = λ k e. omega (arith, e) }

module _ (snapshots : List Snapshot) (id : ℤ) {slots : List ℕ} (l : List ℤ) where
  reached : whole snapshots is_in code id ≡ Listed l → slots ≡ marks_of snapshots is_in code id l → slots ≡ marked (λ x. cond (is_in (reach snapshots id) x) others_need nothing) (snapshot_ids snapshots)
  unfolding reach
  reached e f = f ∙ ap (λ (h : ℤ → ℕ). marked h (snapshot_ids snapshots)) (λ i x. cond ((placed l x ∙ ap (λ (w : Walk). is_in (listed_ids w) x) (sym e)) i) others_need nothing)

abbrev invariant_loop : tie.invariant-loop-place
invariant_loop over start slots₀ place₀ slots place =
    (length slots ≡ 64)
    × ((snapshots : List Snapshot) (id : ℤ) → Placed snapshots over → start ≡ place_in (snapshot_ids snapshots) id → Going snapshots is_in code id slots place)

abbrev decreases_loop : tie.decreases-loop-place
decreases_loop over start slots₀ place₀ slots place = unmarked slots

-- at the head of the loop, for snapshots with these places
module _ (c : tie.At-loop-place invariant_loop decreases_loop) (snapshots : List Snapshot) (id : ℤ) (h : Placed snapshots c.args.over.now) (e : c.args.start ≡ place_in (snapshot_ids snapshots) id) where
  going : Going snapshots is_in code id c.loop-place.slots c.loop-place.place
  going = c.loop-place.invariant.1 snapshots id h e

  inside : c.loop-place.place < length c.args.over.now → c.loop-place.place < length (snapshot_ids snapshots)
  inside b = omega (arith, held_places h)

pub reach_marks_spec : {M : Type 1} → statement M
reach_marks_spec =
    tie.close
    (tie.spec
    invariant_loop
    decreases_loop
    (λ c. (refl, λ snapshots id h e. begins snapshots is_in code id h telling e))
    (λ c. omega (arith, c.requires))
    (λ c snapshots id h e. let l = c.before.before in
    let g = going l snapshots id h e in
    let b = inside l snapshots id h e c.loop-place-test.true in
    reached snapshots id g.listed (stopped snapshots is_in code id h telling g b (seen snapshots is_in code id h telling g b c.if-slots-place-ne-NOTHING.true)) g.marks)
    (λ c. omega (arith, c.requires))
    (λ c. search rules)
    (λ c. omega arith)
    (λ c. let k = c.before in
    omega (arith, marks_one k.loop-place.slots k.loop-place.place others_need (omega (arith, k.loop-place.invariant.0, k.requires, k.loop-place-test.true)) k.if-slots-place-ne-NOTHING.false (λ e. omega (arith, e))))
    (λ c. let k = c.before in
    let l = k.before.before in (
      length-set l.loop-place.slots l.loop-place.place others_need ∙ l.loop-place.invariant.0,
      λ snapshots id h e. let g = going l snapshots id h e in
          let b = inside l snapshots id h e k.loop-place-test.true in
          let n = unseen snapshots is_in code id h telling g b k.if-slots-place-ne-NOTHING.false in
          goes_on_lem snapshots is_in code id h telling g b n n,
    ))
    (λ c snapshots id h e. let g = going c.before snapshots id h e in
    reached snapshots id g.listed (ends snapshots is_in code id h telling g (omega (arith, held_places h, c.loop-place-test.false))) g.marks))
