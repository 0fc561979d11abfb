-- At the length, or at the lexeme.
use borrow.Author.Tests.{eq-eqb, ne_eqb}
use Rattle.file_walk.proofs.seat.stop_place.Statement.{statement}
use Rattle.file_walk.proofs.seat.stop_place.Tie as tie

pub stop_place_spec : {M : Type 1} → statement M
stop_place_spec =
    tie.close
    (tie.spec
    (λ c. rw (eq-eqb _ _ c.if-t-eq-END.true))
    (λ c. rw (ne_eqb _ _ c.if-t-eq-END.false)))
