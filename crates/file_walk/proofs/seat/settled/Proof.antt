-- Nothing of it, or one more.
use borrow.Author.Tests.{eq-eqb, ne_eqb}
use Rattle.file_walk.specs.Seats.{settled_by}
use Rattle.file_walk.proofs.seat.settled.Statement.{statement}
use Rattle.file_walk.proofs.seat.settled.Tie as tie

pub settled_spec : {M : Type 1} → statement M
unfolding settled_by
settled_spec =
    tie.close
    (tie.spec
    (λ c. rw (eq-eqb _ _ c.if-seat-eq-MISSING.true))
    (λ c. rw (ne_eqb _ _ c.if-seat-eq-MISSING.false)))
