use Rattle.std.proofs.Common.{◌≡◌, map, drop}
use Rattle.rules.specs.Words.{any}
use Rattle.rules.specs.SpecUpdates.{clashes_with}
use Rattle.rules.specs.Layout.{read_schema, read_partition_field, read_partition_spec}
use Rattle.rules.specs.Register.{PartitionField}
use Rattle.partitions.proofs.columns.is_clashing.Given as goal

abbrev pub invariant-loop-field : goal.invariant-loop-field
invariant-loop-field l = any (λ (f : PartitionField). any (clashes_with f) (read_schema l.s).fields) (read_partition_spec l.fn.p).fields ≡ any (λ (f : PartitionField). any (clashes_with f) (read_schema l.s).fields) (map read_partition_field (drop l.field-index l.field-items))
