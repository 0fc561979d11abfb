use Rattle.std.proofs.Common.{sym, ◌∙◌, arith}
use Rattle.tables.proofs.Gather.{gather_start, gather_end}
use Rattle.tables.proofs.Spans.{held_less, held_more, held_room, slots_passed}
use Rattle.tables.proofs.Each.{tidy_snapshots, none_snapshot_ids, read_snapshot_ids_lem, room_snapshot_ids}
use Rattle.tables.proofs.snapshots.held.Goals as goal
use Rattle.tables.proofs.snapshots.held.Goals.{then-has_snapshot, else-has_snapshot}

pub loop-s-init : goal.loop-s-init
loop-s-init c = gather_start (tidy_snapshots c.requires.laid_snapshots) (c.blank-held.ensures ∙ none_snapshot_ids)

pub push_snapshot-held-requires-clause-laid_snapshot_ids : goal.push_snapshot-held-requires-clause-laid_snapshot_ids
push_snapshot-held-requires-clause-laid_snapshot_ids c =
    let v = c.loop-s.invariant in
    let f = held_room (tidy_snapshots c.requires.laid_snapshots) _ c.loop-s-test.true v (sym c.has_snapshot.ensures ∙ c.if-has_snapshot.true) c.requires.t_value in
    (room_snapshot_ids _ v.gathered (omega (arith, f, c.requires.laid_snapshot_ids.fits))).0

pub push_snapshot-held-requires-clause-count_bound : goal.push_snapshot-held-requires-clause-count_bound
push_snapshot-held-requires-clause-count_bound c =
    let v = c.loop-s.invariant in
    let f = held_room (tidy_snapshots c.requires.laid_snapshots) _ c.loop-s-test.true v (sym c.has_snapshot.ensures ∙ c.if-has_snapshot.true) c.requires.t_value in
    (room_snapshot_ids _ v.gathered (omega (arith, f, c.requires.laid_snapshot_ids.fits))).1

pub loop-s-preserved : goal.loop-s-preserved
loop-s-preserved c =
    let h = tidy_snapshots c.requires.laid_snapshots in
    let v = c.loop-s.invariant in
    elim c.if-has_snapshot.branch [
      | then-has_snapshot w ↦ rw w.held-is (held_more h _ c.loop-s-test.true v (sym c.has_snapshot.ensures ∙ w.if-has_snapshot.true) (read_snapshot_ids_lem _ v.gathered) w.push_snapshot-held.ensures)
      | else-has_snapshot w ↦ rw w.held-is (held_less h _ c.loop-s-test.true v (sym c.has_snapshot.ensures ∙ w.if-has_snapshot.false))
    ]

pub returns : goal.returns
returns c = gather_end (tidy_snapshots c.requires.laid_snapshots) (slots_passed (tidy_snapshots c.requires.laid_snapshots) c.loop-s-test.false) c.loop-s.invariant
