use Rattle.std.proofs.Common.{◌≡◌, map, drop}
use Rattle.rules.specs.Words.{any, same_bytes}
use Rattle.rules.specs.Layout.{read_name, read_schema_field, read_schema}
use Rattle.rules.specs.Register.{SchemaField}
use Rattle.partitions.proofs.names.has_column.Given as goal

abbrev pub invariant-loop-column : goal.invariant-loop-column
invariant-loop-column l = any (λ (f : SchemaField). same_bytes f.name (read_name l.name)) (read_schema l.fn.schema).fields ≡ any (λ (f : SchemaField). same_bytes f.name (read_name l.name)) (map read_schema_field (drop l.column-index l.column-items))
