-- Each record in its slot, in the order of the keys.
use Rattle.std.proofs.Common.{refl, ap, arith, rules}
use Rattle.records.specs.Blanks.{no_snapshots}
use Rattle.records.specs.declared.snapshot.Snapshots.{Snapshots}
use Rattle.file_records.proofs.Ordered.{snapshot_end}
use Rattle.file_records.proofs.Filling.{filled}
use Rattle.file_records.proofs.table.snapshots.Goals as goal

pub returns : goal.returns
unfolding no_snapshots
returns c =
    snapshot_end c.args.bytes.now c.args.cells.now _ c.order_of-order.ensures.order
    (filled c.count_of-count.ensures.within (ap (λ (t : Snapshots). t.items) c.blank-table.ensures) c.fill.ensures (λ i x b p. search rules)) (omega arith) refl
    c.count_of-count.ensures.count
