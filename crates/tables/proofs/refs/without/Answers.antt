use Rattle.std.proofs.Common.{not, refl, ap, ◌∙◌, rules}
use Rattle.rules.specs.RefUpdates.{has_name}
use Rattle.rules.specs.Layout.{read_name}
use Rattle.equality.specs.Same.{same_name}
use Rattle.tables.proofs.Name.{same_names}
use Rattle.tables.proofs.Spans.{kept_laid}
use Rattle.tables.proofs.Each.{tidy_refs, made_refs, none_refs, ref_at_lem, name_of}
use Rattle.tables.proofs.refs.without.Goals as goal

pub returns : goal.returns
returns c =
    kept_laid made_refs (tidy_refs c.requires.laid_refs) (λ x. not (same_name x.name c.args.name)) (λ x. not (has_name (read_name c.args.name) x)) (λ i d b. ap not (same_names (name_of (ref_at_lem c.requires.laid_refs i d b)) c.requires.laid_name)) (c.blank-rest.ensures ∙ none_refs)
    (c.keep_into.ensures (λ x. not (same_name x.name c.args.name)) (λ a r k. search rules)) refl
