use Rattle.std.proofs.Common.{true, pos, arith}
use Rattle.records.specs.declared.counters.SnapshotId.{SnapshotId}
use Rattle.rules.specs.Blanks.{is_zero, is_tidy_snapshot_ids, is_blank_snapshot_ids}
use Rattle.equality.proofs.Derived.{numbers}
use Rattle.formed.proofs.Unused.{blanks_place}
use Rattle.formed.proofs.blanks.snapshot_ids_fit.Goals as goal

pub returns : goal.returns
unfolding is_tidy_snapshot_ids is_blank_snapshot_ids
returns c =
    let t = c.args.t in
    blanks_place c.args.used true (is_zero t.count) 16 t.count t.items c.unused_from-from.ensures (λ (x : SnapshotId). numbers x.0 (pos 0)) (omega arith) c.blank_from.ensures
