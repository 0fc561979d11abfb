-- Other counts, or as many slots compared as count.
use Rattle.std.proofs.Common.{arith, ap}
use Rattle.records.specs.Blanks.{no_schema_field}
use Rattle.records.specs.declared.schema.Schema.{Schema}
use Rattle.rules.specs.Capacities.{schema_field_room}
use Rattle.rules.specs.SchemaUpdates.{same_schema_field}
use Rattle.rules.specs.Layout.{read_schema_field, laid_schema_field, laid_schema}
use Rattle.equality.proofs.Readings.{counts_differ, laid_agree}
use Rattle.equality.proofs.Told.{told_alike, schema_fields_told, plain_fields_told}
use Rattle.equality.proofs.read.same_fields.Goals as goal

pub returns-then-a-b : goal.returns-then-a-b
unfolding laid_schema
returns-then-a-b c =
    let a = c.args.a in
    let b = c.args.b in
    laid_agree read_schema_field same_schema_field no_schema_field a.items b.items a.count b.count laid_schema_field schema_field_room (told_alike read_schema_field laid_schema_field schema_fields_told plain_fields_told) c.if-a-b.true
    (omega arith) (omega arith) (ap (λ (x : Schema). x.items) c.requires.a_value.0) (ap (λ (x : Schema). x.items) c.requires.b_value.0) c.same_fields.ensures

pub returns-else-a-b : goal.returns-else-a-b
returns-else-a-b c =
    let a = c.args.a in
    let b = c.args.b in
    counts_differ read_schema_field same_schema_field no_schema_field a.items b.items a.count b.count c.if-a-b.false
