use Rattle.std.proofs.Common.{◌≡◌, ◌&&◌, not, map, drop}
use Rattle.rules.specs.Words.{any}
use Rattle.rules.specs.SchemaUpdates.{names_column, names_partition}
use Rattle.rules.specs.Layout.{read_schema_field, read_schema, read_schemas, read_partition_specs}
use Rattle.rules.specs.Register.{SchemaField}
use Rattle.partitions.proofs.names.is_taken.Given as goal

abbrev pub invariant-loop-column : goal.invariant-loop-column
invariant-loop-column l = any (λ (f : SchemaField). names_partition (read_partition_specs l.specs) f.name && not (names_column (read_schemas l.schemas) f.name)) (read_schema l.fn.s).fields ≡ any (λ (f : SchemaField). names_partition (read_partition_specs l.specs) f.name && not (names_column (read_schemas l.schemas) f.name)) (map read_schema_field (drop l.column-index l.column-items))
