use Rattle.std.proofs.Common.{not, refl, ◌∙◌, rules}
use Rattle.rules.specs.Words.{is_in}
use Rattle.rules.specs.Layout.{read_spec_ids}
use Rattle.tables.proofs.Spans.{kept_laid}
use Rattle.tables.proofs.Each.{tidy_partition_specs, made_partition_specs, none_partition_specs}
use Rattle.tables.proofs.partition_specs.without.Goals as goal

pub returns : goal.returns
returns c =
    kept_laid made_partition_specs (tidy_partition_specs c.requires.laid_specs) (λ x. not (is_in (read_spec_ids c.args.ids) x.spec_id.0)) (λ x. not (is_in (read_spec_ids c.args.ids) x.id)) (λ i d b. refl) (c.blank-rest.ensures ∙ none_partition_specs)
    (c.keep_into.ensures (λ x. not (is_in (read_spec_ids c.args.ids) x.spec_id.0)) (λ a r k. search rules)) refl
