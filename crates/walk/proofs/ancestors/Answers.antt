-- What the walk lists, and where it goes on, is what the rule's walk lists and where that goes on.
use Rattle.std.proofs.Common.{◌≡◌, add-one, ◌<◌, ◌≤◌, true, false, List, ℤ, pos, length, get_or, take, to_z, w64, ℕ, refl, sym, ◌∙◌, arith, rules}
use Rattle.std.proofs.Math.Option.{Option, some}
use Rattle.std.proofs.Math.Seq.{length-take-le, take-suc-set}
use Rattle.std.proofs.Math.ListN.{length-set}
use mir.Facts.{to_z-of_z}
use Rattle.rules.specs.Words.{is_in}
use Rattle.rules.specs.Layout.{given}
use Rattle.rules.specs.Walk.{Walk, Listed, Twice, lists_formed, ancestors, walk_buffer}
use Rattle.walk.specs.declared.Walked.{Walked}
use Rattle.walk.specs.Answers.{walked, step_from}
use Rattle.walk.proofs.Follow.{next_of, as_many, Going, going_at, refused, begins, ends, meets, room, goes_on_lem}
use Rattle.walk.proofs.Places.{step_le, step_none, step_to}
use Rattle.walk.proofs.Least.{none_below, none_below_at, one_more_listed}
use Rattle.walk.proofs.ancestors.Goals as goal

-- the answer is the rule's, and the buffer that the walk has is still the caller's
answered : {w w' : Walk} {out out₀ last : List ℤ} {r : Walked} → w' ≡ w → out ≡ out₀ → (r ≡ walked (length out) w) × (last ≡ walk_buffer out w) → (r ≡ walked (length out₀) w') × (last ≡ walk_buffer out₀ w')
answered e o h = rw (e, ← o) h

pub returns-then-not-lists_formed-clause-answer : goal.returns-then-not-lists_formed-clause-answer
unfolding walked
returns-then-not-lists_formed-clause-answer c =
    let a = c.args in
    let e : lists_formed a.ids.now a.parents.now ≡ false = search rules in
    rw (refused a.ids.now a.parents.now (given a.has_excluded a.excluded) a.start e) c.refused.ensures

pub returns-then-not-lists_formed-clause-buffer : goal.returns-then-not-lists_formed-clause-buffer
returns-then-not-lists_formed-clause-buffer c =
    let a = c.args in
    let e : lists_formed a.ids.now a.parents.now ≡ false = search rules in
    rw (refused a.ids.now a.parents.now (given a.has_excluded a.excluded) a.start e)

pub walk-init : goal.walk-init
walk-init c =
    record {
      kept = refl;
      room = refl;
      few = omega arith;
      place = omega arith;
      least = none_below _;
      going = begins _ _ _ _ (search rules);
    }

-- the walk ends
ended : {ids parents listed out out₀ last : List ℤ} {x y : Option ℤ} {start id : ℤ} {place : ℕ} {r : Walked} →
    Going ids parents x start listed id → place ≡ step_from ids y id → y ≡ x → place ≡ length ids → out ≡ out₀ →
    (r ≡ walked (length out) (Listed listed)) × (last ≡ walk_buffer out (Listed listed)) →
    (r ≡ walked (length out₀) (ancestors ids parents start x)) × (last ≡ walk_buffer out₀ (ancestors ids parents start x))
ended {ids} {parents} {listed} {out} {out₀} {last} {x} {y} {start} {id} g s f e o h =
    answered (ends g (step_none ids parents x id (rw f at (sym s ∙ e)))) o h

pub returns-then-place-ids-clause-answer : goal.returns-then-place-ids-clause-answer
returns-then-place-ids-clause-answer c =
    rw (to_z-of_z c.ranges.start, to_z-of_z c.ranges.excluded) at
    (ended c.walk.invariant.going c.step-place.ensures c.given-end.ensures c.if-place-ids.true c.walk.invariant.kept (c.listed.ensures.answer, c.listed.ensures.buffer)).0

pub returns-then-place-ids-clause-buffer : goal.returns-then-place-ids-clause-buffer
returns-then-place-ids-clause-buffer c =
    rw (to_z-of_z c.ranges.start, to_z-of_z c.ranges.excluded) at
    (ended c.walk.invariant.going c.step-place.ensures c.given-end.ensures c.if-place-ids.true c.walk.invariant.kept (c.listed.ensures.answer, c.listed.ensures.buffer)).1

-- the walk goes on, to the parent of a held id
record Onward (ids parents : List ℤ) (x : Option ℤ) (id : ℤ) (place : ℕ) : Type 0 where
  held : place < length ids
  long : place < length parents
  to : next_of ids parents x id ≡ some (get_or parents place (pos 0))

onward : {ids parents : List ℤ} {x y : Option ℤ} {id : ℤ} {place : ℕ} → lists_formed ids parents ≡ true → place ≡ step_from ids y id → y ≡ x → (place ≡ length ids → ⊥) → Onward ids parents x id place
onward {ids} {parents} {x} {y} {id} {place} formed s f ne =
    let at : place ≡ step_from ids x id = rw f at s in
    let held : place < length ids = omega (arith, at, step_le ids parents x id, ne) in
    record {
      held = held;
      long = omega (arith, as_many ids parents formed, held);
      to = step_to ids parents x id at (as_many ids parents formed) held;
    }

met : {ids parents listed : List ℤ} {x : Option ℤ} {start id : ℤ} {place : ℕ} → Going ids parents x start listed id → Onward ids parents x id place → is_in listed id ≡ true → ancestors ids parents start x ≡ Twice
met g o e = meets g o.to e

pub returns-then-is_listed-clause-answer : goal.returns-then-is_listed-clause-answer
unfolding walked
returns-then-is_listed-clause-answer c =
    let o = onward {ids = c.args.ids.now} {parents = c.args.parents.now} (search rules) c.step-place.ensures c.given-end.ensures c.if-place-ids.false in
    let e = rw (to_z-of_z c.ranges.start, to_z-of_z c.ranges.excluded) at (met c.walk.invariant.going o (sym c.is_listed.ensures ∙ c.if-is_listed.true)) in
    rw e c.refused-then-is_listed.ensures

pub returns-then-is_listed-clause-buffer : goal.returns-then-is_listed-clause-buffer
returns-then-is_listed-clause-buffer c =
    let o = onward {ids = c.args.ids.now} {parents = c.args.parents.now} (search rules) c.step-place.ensures c.given-end.ensures c.if-place-ids.false in
    let e = rw (to_z-of_z c.ranges.start, to_z-of_z c.ranges.excluded) at (met c.walk.invariant.going o (sym c.is_listed.ensures ∙ c.if-is_listed.true)) in
    rw e c.walk.invariant.kept

fits : (ids parents path : List ℤ) (x : Option ℤ) (start id : ℤ) (n place : ℕ) → Going ids parents x start (take n path) id → Onward ids parents x id place → is_in (take n path) id ≡ false → n ≤ 64 → length path ≡ 64 → n < length ids
fits ids parents path x start id n place g o e h k = omega (arith, room g o.to e, length-take-le n path (omega arith))

pub bounds-path-n : goal.bounds-path-n
bounds-path-n c =
    let o = onward {ids = c.args.ids.now} {parents = c.args.parents.now} (search rules) c.step-place.ensures c.given-end.ensures c.if-place-ids.false in
    omega (arith, c.walk.invariant.going.few_ids, fits _ _ c.walk.path _ _ _ c.walk.n _ c.walk.invariant.going o (sym c.is_listed.ensures ∙ c.if-is_listed.false) c.walk.invariant.few c.walk.invariant.room)

pub offset_bounds-parents-place : goal.offset_bounds-parents-place
offset_bounds-parents-place c =
    let o = onward {ids = c.args.ids.now} {parents = c.args.parents.now} (search rules) c.step-place.ensures c.given-end.ensures c.if-place-ids.false in
    omega (arith, c.walk.invariant.going.few_ids, o.held)

pub bounds-parents-place : goal.bounds-parents-place
bounds-parents-place c =
    let o = onward {ids = c.args.ids.now} {parents = c.args.parents.now} (search rules) c.step-place.ensures c.given-end.ensures c.if-place-ids.false in o.long

pub walk-smaller : goal.walk-smaller
walk-smaller c =
    let o = onward {ids = c.args.ids.now} {parents = c.args.parents.now} (search rules) c.step-place.ensures c.given-end.ensures c.if-place-ids.false in
    omega (arith, fits _ _ c.walk.path _ _ _ c.walk.n _ c.walk.invariant.going o (sym c.is_listed.ensures ∙ c.if-is_listed.false) c.walk.invariant.few c.walk.invariant.room)

pub walk-preserved : goal.walk-preserved
walk-preserved c =
    let w = c.walk.invariant in
    let path = c.walk.path in
    let n = c.walk.n in
    let id : ℤ = to_z w64 c.walk.id-bits in
    let o = onward {ids = c.args.ids.now} {parents = c.args.parents.now} (search rules) c.step-place.ensures c.given-end.ensures c.if-place-ids.false in
    let e = sym c.is_listed.ensures ∙ c.if-is_listed.false in
    let f = fits _ _ path _ _ _ n _ w.going o e w.few w.room in
    let t = take-suc-set path n id (omega (arith, f, w.going.few_ids, w.room)) in
    record {
      kept = w.kept;
      room = length-set path n id ∙ w.room;
      few = omega (arith, f, w.going.few_ids);
      place = omega (arith, o.held);
      least = none_below_at (search rules) (rw add-one t) (one_more_listed (to_z w64 c.walk.least-bits) (take n path) id w.least);
      going = going_at (rw add-one t) (search rules) (goes_on_lem w.going o.to e);
    }
