-- By the room, and what is counted.
use borrow.Author.Tests.{eq-eqb, ne_eqb, lt-ltb, le-ltb}
use Rattle.file_walk.proofs.seat.over_number.Statement.{statement}
use Rattle.file_walk.proofs.seat.over_number.Tie as tie

pub over_number_spec : {M : Type 1} → statement M
over_number_spec =
    tie.close
    (tie.spec
    (λ c. rw (lt-ltb _ _ c.if-count-room.true))
    (λ c. rw (le-ltb _ _ c.if-count-room.false, eq-eqb _ _ c.if-each-eq0.true))
    (λ c. rw (le-ltb _ _ c.if-count-room.false, ne_eqb _ _ c.if-each-eq0.false)))
