use Rattle.std.proofs.Common.{◌≡◌, map, drop}
use Rattle.rules.specs.Words.{any, same_bytes}
use Rattle.rules.specs.SchemaUpdates.{names_partition}
use Rattle.rules.specs.Layout.{read_schema, read_partition_spec, read_partition_specs}
use Rattle.rules.specs.Register.{PartitionField, PartitionSpec, SchemaField}
use Rattle.partitions.proofs.names.meets_partition.Given as goal

abbrev pub invariant-loop-spec : goal.invariant-loop-spec
invariant-loop-spec l = any (λ (f : SchemaField). names_partition (read_partition_specs l.fn.t) f.name) (read_schema l.s).fields ≡ any (λ (p : PartitionSpec). any (λ (f : SchemaField). any (λ (g : PartitionField). same_bytes g.name f.name) p.fields) (read_schema l.s).fields) (map read_partition_spec (drop l.spec-index l.spec-items))
