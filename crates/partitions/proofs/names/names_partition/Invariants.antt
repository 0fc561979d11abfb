use Rattle.std.proofs.Common.{◌≡◌, map, drop}
use Rattle.rules.specs.Words.{any, same_bytes}
use Rattle.rules.specs.Layout.{read_name, read_partition_spec, read_partition_specs}
use Rattle.rules.specs.Register.{PartitionField, PartitionSpec}
use Rattle.partitions.proofs.names.names_partition.Given as goal

abbrev pub invariant-loop-spec : goal.invariant-loop-spec
invariant-loop-spec l = any (λ (s : PartitionSpec). any (λ (f : PartitionField). same_bytes f.name (read_name l.name)) s.fields) (read_partition_specs l.fn.t) ≡ any (λ (s : PartitionSpec). any (λ (f : PartitionField). same_bytes f.name (read_name l.name)) s.fields) (map read_partition_spec (drop l.spec-index l.spec-items))
