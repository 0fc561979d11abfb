-- In the rule the fields of the schema stand outside.
use Rattle.std.proofs.Common.{ap, sym, ◌∙◌}
use Rattle.rules.specs.Words.{any, same_bytes}
use Rattle.rules.specs.Layout.{read_schema, read_partition_specs}
use Rattle.rules.specs.Register.{PartitionField, PartitionSpec, SchemaField}
use Rattle.rules.proofs.Tables.{any_turned}
use Rattle.partitions.proofs.names.meets_partition.Goals as goal

pub loop-spec-init : goal.loop-spec-init
loop-spec-init c =
    any_turned (λ (f : SchemaField) (p : PartitionSpec). any (λ (g : PartitionField). same_bytes g.name f.name) p.fields) (read_schema c.args.s).fields (read_partition_specs c.args.t)
    ∙ ap (any (λ (p : PartitionSpec). any (λ (f : SchemaField). any (λ (g : PartitionField). same_bytes g.name f.name) p.fields) (read_schema c.args.s).fields)) (sym c.specs_of-spec-items.ensures.listed)
