use Rattle.std.proofs.Common.{not, refl, ◌∙◌, rules}
use Rattle.rules.specs.Words.{is_in}
use Rattle.rules.specs.Layout.{read_schema_ids}
use Rattle.tables.proofs.Spans.{kept_laid}
use Rattle.tables.proofs.Each.{tidy_schemas, made_schemas, none_schemas}
use Rattle.tables.proofs.schemas.without.Goals as goal

pub returns : goal.returns
returns c =
    kept_laid made_schemas (tidy_schemas c.requires.laid_schemas) (λ x. not (is_in (read_schema_ids c.args.ids) x.schema_id.0)) (λ x. not (is_in (read_schema_ids c.args.ids) x.id)) (λ i d b. refl) (c.blank-rest.ensures ∙ none_schemas)
    (c.keep_into.ensures (λ x. not (is_in (read_schema_ids c.args.ids) x.schema_id.0)) (λ a r k. search rules)) refl
