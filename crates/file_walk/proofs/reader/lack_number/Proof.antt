-- Where it was closed.
use borrow.Author.Tests.{eq-eqb, ne_eqb, le-leb, lt-leb}
use mathlib.Core.Path.{sym, ◌∙◌}
use borrow.Author.Rules.{rules}
use Rattle.file_walk.proofs.reader.lack_number.Statement.{statement}
use Rattle.file_walk.proofs.reader.lack_number.Tie as tie

pub lack_number_spec : {M : Type 1} → statement M
lack_number_spec =
    tie.close
    (tie.spec
    (λ c. rw (ne_eqb _ _ c.if-state-ne-READ.true))
    (λ c. rw (eq-eqb _ _ c.if-state-ne-READ.false, le-leb _ _ c.if-kind-ge-NO_RECORD.true))
    (λ c κs. search rules)
    (λ c. rw (eq-eqb _ _ c.if-state-ne-READ.false, lt-leb _ _ c.if-kind-ge-NO_RECORD.false, sym c.lacks.ensures ∙ c.if-lacks.true))
    (λ c. rw (eq-eqb _ _ c.if-state-ne-READ.false, lt-leb _ _ c.if-kind-ge-NO_RECORD.false, sym c.lacks.ensures ∙ c.if-lacks.false)))
