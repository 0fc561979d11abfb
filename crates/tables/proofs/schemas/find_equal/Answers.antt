use Rattle.std.proofs.Common.{◌≡◌, ◌≤◌, sym, ◌∙◌}
use Rattle.rules.specs.Capacities.{schema_field_room}
use Rattle.rules.specs.Words.{same_list}
use Rattle.rules.specs.SchemaUpdates.{same_schema_field}
use Rattle.rules.specs.Layout.{read_schema, laid_schema}
use Rattle.tables.proofs.Table.{within}
use Rattle.tables.proofs.Spans.{each_slot, stopped, ran_out, run_place}
use Rattle.tables.proofs.Each.{tidy_schemas, schema_at_lem, tidy_schema}
use Rattle.tables.proofs.schemas.find_equal.Goals as goal

pub same_fields-requires-clause-a_value : goal.same_fields-requires-clause-a_value
same_fields-requires-clause-a_value c = each_slot (tidy_schemas c.requires.laid_schemas) (λ x. (laid_schema (read_schema x) ≡ x) × (x.count ≤ schema_field_room)) (λ i d b. let x = schema_at_lem c.requires.laid_schemas i d b in (x.back, within (tidy_schema x))) _ c.loop-i-test.true

pub returns-then-same_fields : goal.returns-then-same_fields
returns-then-same_fields c =
    let h = tidy_schemas c.requires.laid_schemas in
    run_place h (λ x. same_list same_schema_field x.fields (read_schema c.args.s).fields) (stopped h (λ x. same_list same_schema_field (read_schema x).fields (read_schema c.args.s).fields) _ c.loop-i-test.true c.loop-i.invariant (sym c.same_fields.ensures ∙ c.if-same_fields.true))

pub returns : goal.returns
returns c =
    let h = tidy_schemas c.requires.laid_schemas in
    run_place h (λ x. same_list same_schema_field x.fields (read_schema c.args.s).fields) (ran_out h (λ x. same_list same_schema_field (read_schema x).fields (read_schema c.args.s).fields) c.loop-i-test.false c.loop-i.auto.i-end c.loop-i.invariant)
