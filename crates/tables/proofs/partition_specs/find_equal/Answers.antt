use Rattle.std.proofs.Common.{◌≡◌, ◌≤◌, sym, ◌∙◌}
use Rattle.rules.specs.Capacities.{partition_field_room}
use Rattle.rules.specs.Words.{same_list}
use Rattle.rules.specs.Partitions.{same_partition}
use Rattle.rules.specs.Layout.{read_partition_spec, laid_partition_spec}
use Rattle.tables.proofs.Table.{within}
use Rattle.tables.proofs.Spans.{each_slot, stopped, ran_out, run_place}
use Rattle.tables.proofs.Each.{tidy_partition_specs, spec_at_lem, tidy_partition_spec}
use Rattle.tables.proofs.partition_specs.find_equal.Goals as goal

pub same_partition_fields-requires-clause-a_value : goal.same_partition_fields-requires-clause-a_value
same_partition_fields-requires-clause-a_value c = each_slot (tidy_partition_specs c.requires.laid_specs) (λ x. (laid_partition_spec (read_partition_spec x) ≡ x) × (x.count ≤ partition_field_room)) (λ i d b. let x = spec_at_lem c.requires.laid_specs i d b in (x.back, within (tidy_partition_spec x))) _ c.loop-i-test.true

pub returns-then-same_partition_fields : goal.returns-then-same_partition_fields
returns-then-same_partition_fields c =
    let h = tidy_partition_specs c.requires.laid_specs in
    run_place h (λ x. same_list same_partition x.fields (read_partition_spec c.args.s).fields) (stopped h (λ x. same_list same_partition (read_partition_spec x).fields (read_partition_spec c.args.s).fields) _ c.loop-i-test.true c.loop-i.invariant (sym c.same_partition_fields.ensures ∙ c.if-same_partition_fields.true))

pub returns : goal.returns
returns c =
    let h = tidy_partition_specs c.requires.laid_specs in
    run_place h (λ x. same_list same_partition x.fields (read_partition_spec c.args.s).fields) (ran_out h (λ x. same_list same_partition (read_partition_spec x).fields (read_partition_spec c.args.s).fields) c.loop-i-test.false c.loop-i.auto.i-end c.loop-i.invariant)
