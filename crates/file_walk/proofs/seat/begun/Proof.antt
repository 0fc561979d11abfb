-- By the first lexeme.
use mathlib.Core.Path.{sym, ◌∙◌}
use borrow.Author.Rules.{rules}
use Rattle.file_walk.specs.Seats.{begun_by}
use Rattle.file_walk.proofs.seat.begun.Statement.{statement}
use Rattle.file_walk.proofs.seat.begun.Tie as tie

pub begun_spec : {M : Type 1} → statement M
unfolding begun_by
begun_spec =
    tie.close
    (tie.spec
    (λ c κs. search rules)
    (λ c. rw (sym c.is_mark.ensures ∙ c.if-is_mark.true))
    (λ c. rw (sym c.is_mark.ensures ∙ c.if-is_mark.false)))
