use Rattle.std.proofs.Common.{not, refl, ◌∙◌, rules}
use Rattle.rules.specs.Words.{eq_z}
use Rattle.rules.specs.StatisticsUpdates.{is_of}
use Rattle.tables.proofs.Spans.{kept_laid}
use Rattle.tables.proofs.Each.{tidy_statistics, made_statistics, none_statistics}
use Rattle.tables.proofs.statistics.without.Goals as goal

pub returns : goal.returns
returns c =
    kept_laid made_statistics (tidy_statistics c.requires) (λ x. not (eq_z x.snapshot_id.0 c.args.id.0)) (λ x. not (is_of c.args.id.0 x)) (λ i d b. refl) (c.blank-rest.ensures ∙ none_statistics)
    (c.keep_into.ensures (λ x. not (eq_z x.snapshot_id.0 c.args.id.0)) (λ a r k. search rules)) refl
