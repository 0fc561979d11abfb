use Rattle.std.proofs.Common.{◌≡◌, map, drop}
use Rattle.rules.specs.Words.{any, same_bytes}
use Rattle.rules.specs.Layout.{read_schema_field, read_schema, read_partition_spec}
use Rattle.rules.specs.Register.{PartitionField, SchemaField}
use Rattle.partitions.proofs.names.meets_spec.Given as goal

abbrev pub invariant-loop-column : goal.invariant-loop-column
invariant-loop-column l = any (λ (f : SchemaField). any (λ (g : PartitionField). same_bytes g.name f.name) (read_partition_spec l.spec).fields) (read_schema l.fn.schema).fields ≡ any (λ (f : SchemaField). any (λ (g : PartitionField). same_bytes g.name f.name) (read_partition_spec l.spec).fields) (map read_schema_field (drop l.column-index l.column-items))
