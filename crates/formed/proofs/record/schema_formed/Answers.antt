-- More fields than there is room for are too many. Each is asked by itself, and each two.
use Rattle.std.proofs.Common.{◌≡◌, ◌∙◌, sym, ◌&&◌, Bool, leb, take, arith}
use Rattle.std.specs.Int.Signed.{non_neg}
use mathlib.Core.Path.{ap₂}
use mathlib.Core.Bool.{and_assoc, and-true, and-false}
use borrow.Author.Tests.{le-leb}
use Rattle.records.specs.Blanks.{no_schema_field}
use Rattle.rules.specs.Words.{all, each_pair}
use Rattle.rules.specs.Blanks.{rest_blank, is_blank_schema_field, is_tidy_schema}
use Rattle.rules.specs.Layout.{read_schema_field}
use Rattle.rules.proofs.Checks.{and_right}
use Rattle.rules.proofs.Slots.Relaid.{counted_take}
use Rattle.formed.proofs.Counted.{too_many, few_enough}
use Rattle.formed.proofs.Fields.{field_formed, fields_apart, schema_fields_lem}
use Rattle.formed.proofs.record.schema_formed.Goals as goal

pub returns-then-s-gt-SCHEMA_FIELDS : goal.returns-then-s-gt-SCHEMA_FIELDS
returns-then-s-gt-SCHEMA_FIELDS c =
    let s = c.args.s in
    sym (rw (too_many read_schema_field no_schema_field s.items s.count 32 c.if-s-gt-SCHEMA_FIELDS.true, and-false (non_neg s.schema_id.0)))

pub returns : goal.returns
unfolding is_tidy_schema
returns c =
    let s = c.args.s in
    let few = c.if-s-gt-SCHEMA_FIELDS.false in
    let id = non_neg s.schema_id.0 in
    let l = take s.count s.items in
    let fits : leb s.count 32 ≡ Bool.true = le-leb s.count 32 few in
    ap₂ ◌&&◌ (ap₂ ◌&&◌ c.schema_id_formed.ensures (c.counted_formed.ensures ∙ rw fits)) c.each_apart.ensures
    ∙ and_assoc id (all field_formed l) (each_pair fields_apart l)
    ∙ schema_fields_lem l (and_right (rest_blank 32 is_blank_schema_field s.items s.count) _ c.requires) id
    ∙ sym (rw (few_enough read_schema_field no_schema_field s.items s.count 32 few, and-true id, counted_take no_schema_field s.items s.count (omega arith)))
