use Rattle.std.proofs.Common.{◌≡◌, map, drop}
use Rattle.rules.specs.Words.{any, same_bytes}
use Rattle.rules.specs.Layout.{read_name, read_schema, read_schemas}
use Rattle.rules.specs.Register.{Schema, SchemaField}
use Rattle.partitions.proofs.names.names_column.Given as goal

abbrev pub invariant-loop-schema : goal.invariant-loop-schema
invariant-loop-schema l = any (λ (s : Schema). any (λ (f : SchemaField). same_bytes f.name (read_name l.name)) s.fields) (read_schemas l.fn.schemas) ≡ any (λ (s : Schema). any (λ (f : SchemaField). same_bytes f.name (read_name l.name)) s.fields) (map read_schema (drop l.schema-index l.schema-items))
