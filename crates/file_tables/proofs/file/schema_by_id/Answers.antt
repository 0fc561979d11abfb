-- The schema that is found, or one of the id without fields.
use Rattle.std.proofs.Common.{◌≡◌, Bool, List, [], map, ap, ◌∙◌, ℤ}
use Rattle.records.specs.Blanks.{no_schema_field, no_schema}
use Rattle.records.specs.declared.counters.SchemaId.{SchemaId}
use Rattle.records.specs.declared.schema.SchemaField.{SchemaField}
use Rattle.records.specs.declared.schema.Schema.{Schema}
use Rattle.rules.specs.Words.{eq_z, first, or_else}
use Rattle.rules.specs.Register as plain
use Rattle.rules.specs.Layout.{counted, read_schema_field, read_schema, read_schemas}
use Rattle.file_tables.proofs.Tables.{looked, none_counted}
use Rattle.file_tables.proofs.file.schema_by_id.Goals as goal

abbrev has : ℤ → plain.Schema → Bool
has id s = eq_z s.id id

without_fields : (s : Schema) (id : SchemaId) → s ≡ no_schema → read_schema (record { schema_id = id; items = s.items; count = s.count }) ≡ record { id = id.0; fields = [] }
unfolding no_schema
without_fields s id e = rw e (ap (λ (l : List SchemaField). record { id = id.0; fields = map read_schema_field l }) (none_counted no_schema_field no_schema.items))

pub returns : goal.returns
returns c =
    let t = c.args.t in
    ap read_schema c.unwrap_or.ensures
    ∙ looked (has c.args.id.0) read_schema c.find_item-held.result _ (counted no_schema t.items t.count) (rw c.blank.ensures at c.find_item-held.ensures)
    ∙ ap (or_else (first (has c.args.id.0) (read_schemas t))) (without_fields c.blank-2.result c.args.id c.blank-2.ensures)
