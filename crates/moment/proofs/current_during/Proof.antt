-- The first answer is that of `current_at`; the later entries are those of the span, or none where the count is refused.
use mathlib.Core.Path.{sym, ap₂, ◌∙◌}
use borrow.Author.Rules.{rules}
use Rattle.records.specs.declared.snapshot.SnapshotLog.{SnapshotLog}
use Rattle.moment.specs.declared.Moment.{Moment}
use Rattle.moment.specs.declared.During.{During}
use Rattle.moment.proofs.Spans.{during_refused, during}
use Rattle.moment.proofs.current_during.Statement.{statement}
use Rattle.moment.proofs.current_during.Tie as tie

abbrev both : Moment → SnapshotLog → During
both m l = record { beginning = m; later = l }

pub current_during_spec : {M : Type 1} → statement M
current_during_spec =
    tie.close
    (tie.spec
    (λ c κs. search rules)
    (λ c κs. search rules)
    (λ c. ap₂ both c.current_at-beginning.ensures c.blank-later.ensures ∙ sym (during_refused _ _ _ c.if-count-gt-SNAPSHOT_LOG.true))
    (λ c κs. search rules)
    (λ c. ap₂ both c.current_at-beginning.ensures c.answered_within-later.ensures ∙ sym (during _ _ _ c.if-count-gt-SNAPSHOT_LOG.false)))
