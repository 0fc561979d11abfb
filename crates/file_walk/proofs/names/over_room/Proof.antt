-- Below the room, or not.
use borrow.Author.Tests.{lt-ltb, le-ltb}
use Rattle.file_walk.proofs.names.over_room.Statement.{statement}
use Rattle.file_walk.proofs.names.over_room.Tie as tie

pub over_room_spec : {M : Type 1} → statement M
over_room_spec =
    tie.close
    (tie.spec
    (λ c. rw (lt-ltb _ _ c.if-count-room.true))
    (λ c. rw (le-ltb _ _ c.if-count-room.false)))
