use Rattle.std.proofs.Common.{arith}
use Rattle.std.specs.Int.Signed.{non_neg}
use Rattle.records.specs.Blanks.{no_snapshot_id}
use Rattle.records.specs.declared.counters.SnapshotId.{SnapshotId}
use Rattle.formed.proofs.Counted.{counted_read}
use Rattle.formed.proofs.record.snapshot_ids_formed.Goals as goal

pub returns : goal.returns
returns c =
    let t = c.args.t in
    counted_read (λ (x : SnapshotId). x.0) non_neg no_snapshot_id 16 t.count t.items (omega arith) c.counted_formed.ensures
