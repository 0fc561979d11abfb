use Rattle.std.proofs.Common.{◌≡◌, map, drop}
use Rattle.rules.specs.Words.{any, same_bytes}
use Rattle.rules.specs.Layout.{read_name, read_partition_field, read_partition_spec}
use Rattle.rules.specs.Register.{PartitionField}
use Rattle.partitions.proofs.names.names_field.Given as goal

abbrev pub invariant-loop-field : goal.invariant-loop-field
invariant-loop-field l = any (λ (f : PartitionField). same_bytes f.name (read_name l.name)) (read_partition_spec l.fn.spec).fields ≡ any (λ (f : PartitionField). same_bytes f.name (read_name l.name)) (map read_partition_field (drop l.field-index l.field-items))
