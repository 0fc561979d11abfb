-- Other counts, or as many slots compared as count.
use Rattle.std.proofs.Common.{arith, ap}
use Rattle.records.specs.Blanks.{no_partition_field}
use Rattle.records.specs.declared.partition.PartitionSpec.{PartitionSpec}
use Rattle.rules.specs.Capacities.{partition_field_room}
use Rattle.rules.specs.Partitions.{same_partition}
use Rattle.rules.specs.Layout.{read_partition_field, laid_partition_field, laid_partition_spec}
use Rattle.equality.proofs.Readings.{counts_differ, laid_agree}
use Rattle.equality.proofs.Told.{partitions_alike}
use Rattle.equality.proofs.read.same_partition_fields.Goals as goal

pub returns-then-a-b : goal.returns-then-a-b
unfolding laid_partition_spec
returns-then-a-b c =
    let a = c.args.a in
    let b = c.args.b in
    laid_agree read_partition_field same_partition no_partition_field a.items b.items a.count b.count laid_partition_field partition_field_room partitions_alike c.if-a-b.true
    (omega arith) (omega arith) (ap (λ (x : PartitionSpec). x.items) c.requires.a_value.0) (ap (λ (x : PartitionSpec). x.items) c.requires.b_value.0) c.alike_partitions.ensures

pub returns-else-a-b : goal.returns-else-a-b
returns-else-a-b c =
    let a = c.args.a in
    let b = c.args.b in
    counts_differ read_partition_field same_partition no_partition_field a.items b.items a.count b.count c.if-a-b.false
