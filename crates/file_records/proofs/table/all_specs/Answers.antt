-- Each record in its slot, in the order of the keys.
use Rattle.std.proofs.Common.{refl, ap, arith, rules}
use Rattle.records.specs.Blanks.{no_partition_specs}
use Rattle.records.specs.declared.partition.PartitionSpecs.{PartitionSpecs}
use Rattle.file_records.proofs.Ordered.{spec_end}
use Rattle.file_records.proofs.Filling.{filled}
use Rattle.file_records.proofs.table.all_specs.Goals as goal

pub returns : goal.returns
unfolding no_partition_specs
returns c =
    spec_end c.args.bytes.now c.args.cells.now _ c.order_of-order.ensures.order
    (filled c.count_of-count.ensures.within (ap (λ (t : PartitionSpecs). t.items) c.blank-table.ensures) c.fill.ensures (λ i x b p. search rules)) (omega arith) refl
    c.count_of-count.ensures.count
