use Rattle.std.proofs.Common.{List, ap, ◌∙◌}
use Rattle.rules.specs.Partitions.{partition_ids}
use Rattle.rules.specs.Register as plain
use Rattle.rules.specs.Words.{any}
use Rattle.rules.specs.SpecUpdates.{fresh_ids}
use Rattle.rules.specs.Layout.{read_partition_spec}
use Rattle.partitions.proofs.Numbered.{too_large, numbering_start, numbering_over, numbering_on, numbering_none, numbering_end, completed_laid}
use Rattle.partitions.proofs.fresh.number_fields.Goals as goal

pub loop-i-init : goal.loop-i-init
loop-i-init c = let k = c.field_key-number.ensures in rw k.result_value (numbering_start c.requires c.fields_of-fields.ensures.listed c.args.last.0 (rw k.result_value at k.sfits))

pub returns-in_default-clause-exhausted_value : goal.returns-in_default-clause-exhausted_value
returns-in_default-clause-exhausted_value c =
    let e = c.as_slice-taken.ensures ∙ c.given_ids-given.ensures.value in
    numbering_over _ _ _ _ c.loop-i-test.true c.loop-i.invariant (rw e at c.in_default.ensures)
    ∙ ap (λ (l : List plain.PartitionField). any too_large (fresh_ids (partition_ids (read_partition_spec c.args.p)) c.args.last.0 l)) c.fields_of-fields.ensures.listed

pub loop-i-preserved : goal.loop-i-preserved
loop-i-preserved c =
    let e = c.as_slice-taken.ensures ∙ c.given_ids-given.ensures.value in
    numbering_on _ _ _ _ c.loop-i-test.true c.loop-i.invariant (rw e at c.in-Some.ensures)

pub returns-clause-exhausted_value : goal.returns-clause-exhausted_value
returns-clause-exhausted_value c =
    numbering_none _ _ _ c.loop-i-test.false c.loop-i.invariant
    ∙ ap (λ (l : List plain.PartitionField). any too_large (fresh_ids (partition_ids (read_partition_spec c.args.p)) c.args.last.0 l)) c.fields_of-fields.ensures.listed

pub returns-clause-spec_value : goal.returns-clause-spec_value
returns-clause-spec_value c = λ u. numbering_end c.requires c.fields_of-fields.ensures.listed c.args.last.0 c.loop-i-test.false c.loop-i.invariant

pub returns-clause-laid_spec : goal.returns-clause-laid_spec
returns-clause-laid_spec c = completed_laid c.args.last.0 c.requires (numbering_end c.requires c.fields_of-fields.ensures.listed c.args.last.0 c.loop-i-test.false c.loop-i.invariant)
