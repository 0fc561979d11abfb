use Rattle.std.proofs.Common.{not, refl, ◌∙◌, rules}
use Rattle.rules.specs.Words.{is_in}
use Rattle.rules.specs.Layout.{read_snapshot_ids}
use Rattle.tables.proofs.Spans.{kept_laid}
use Rattle.tables.proofs.Each.{tidy_snapshots, made_snapshots, none_snapshots}
use Rattle.tables.proofs.snapshots.without.Goals as goal

pub returns : goal.returns
returns c =
    kept_laid made_snapshots (tidy_snapshots c.requires.laid_snapshots) (λ x. not (is_in (read_snapshot_ids c.args.ids) x.snapshot_id.0)) (λ x. not (is_in (read_snapshot_ids c.args.ids) x.id)) (λ i d b. refl) (c.blank-rest.ensures ∙ none_snapshots)
    (c.keep_into.ensures (λ x. not (is_in (read_snapshot_ids c.args.ids) x.snapshot_id.0)) (λ a r k. search rules)) refl
