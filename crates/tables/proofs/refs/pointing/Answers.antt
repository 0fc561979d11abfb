use Rattle.std.proofs.Common.{refl, ◌∙◌, rules}
use Rattle.rules.specs.Words.{is_in}
use Rattle.tables.proofs.Spans.{kept_laid}
use Rattle.tables.proofs.Each.{tidy_refs, made_refs, none_refs}
use Rattle.tables.proofs.refs.pointing.Goals as goal

pub returns : goal.returns
returns c =
    kept_laid made_refs (tidy_refs c.requires.laid_refs) (λ x. is_in c.args.ids.now x.reference.snapshot_id.0) (λ x. is_in c.args.ids.now x.reference.snapshot) (λ i d b. refl) (c.blank-kept.ensures ∙ none_refs)
    (c.keep_into.ensures (λ x. is_in c.args.ids.now x.reference.snapshot_id.0) (λ a r k. search rules)) refl
