use Rattle.std.proofs.Common.{sym, ◌∙◌, arith}
use Rattle.tables.proofs.Gather.{gather_start, gather_end}
use Rattle.tables.proofs.Spans.{held_less, held_more, held_room, slots_passed}
use Rattle.tables.proofs.Each.{tidy_partition_specs, none_spec_ids, read_spec_ids_lem, room_spec_ids}
use Rattle.tables.proofs.partition_specs.held.Goals as goal
use Rattle.tables.proofs.partition_specs.held.Goals.{then-has_spec, else-has_spec}

pub loop-s-init : goal.loop-s-init
loop-s-init c = gather_start (tidy_partition_specs c.requires.laid_specs) (c.blank-held.ensures ∙ none_spec_ids)

pub push_spec-held-requires-clause-laid_spec_ids : goal.push_spec-held-requires-clause-laid_spec_ids
push_spec-held-requires-clause-laid_spec_ids c =
    let v = c.loop-s.invariant in
    let f = held_room (tidy_partition_specs c.requires.laid_specs) _ c.loop-s-test.true v (sym c.has_spec.ensures ∙ c.if-has_spec.true) c.requires.t_value in
    (room_spec_ids _ v.gathered (omega (arith, f, c.requires.laid_spec_ids.fits))).0

pub push_spec-held-requires-clause-count_bound : goal.push_spec-held-requires-clause-count_bound
push_spec-held-requires-clause-count_bound c =
    let v = c.loop-s.invariant in
    let f = held_room (tidy_partition_specs c.requires.laid_specs) _ c.loop-s-test.true v (sym c.has_spec.ensures ∙ c.if-has_spec.true) c.requires.t_value in
    (room_spec_ids _ v.gathered (omega (arith, f, c.requires.laid_spec_ids.fits))).1

pub loop-s-preserved : goal.loop-s-preserved
loop-s-preserved c =
    let h = tidy_partition_specs c.requires.laid_specs in
    let v = c.loop-s.invariant in
    elim c.if-has_spec.branch [
      | then-has_spec w ↦ rw w.held-is (held_more h _ c.loop-s-test.true v (sym c.has_spec.ensures ∙ w.if-has_spec.true) (read_spec_ids_lem _ v.gathered) w.push_spec-held.ensures)
      | else-has_spec w ↦ rw w.held-is (held_less h _ c.loop-s-test.true v (sym c.has_spec.ensures ∙ w.if-has_spec.false))
    ]

pub returns : goal.returns
returns c = gather_end (tidy_partition_specs c.requires.laid_specs) (slots_passed (tidy_partition_specs c.requires.laid_specs) c.loop-s-test.false) c.loop-s.invariant
