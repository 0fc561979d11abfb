-- A whole lexeme, and its byte.
use borrow.Author.Tests.{eq-eqb, ne_eqb}
use Rattle.file_walk.proofs.seat.is_mark.Statement.{statement}
use Rattle.file_walk.proofs.seat.is_mark.Tie as tie

pub is_mark_spec : {M : Type 1} → statement M
is_mark_spec =
    tie.close
    (tie.spec
    (λ c. rw (eq-eqb _ _ c.if-t-eq-WHOLE.true))
    (λ c. rw (ne_eqb _ _ c.if-t-eq-WHOLE.false)))
