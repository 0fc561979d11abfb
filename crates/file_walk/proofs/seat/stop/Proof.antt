-- The refusal, and how it ended.
use borrow.Author.Rules.{rules}
use Rattle.file_walk.proofs.seat.stop.Statement.{statement}
use Rattle.file_walk.proofs.seat.stop.Tie as tie

pub stop_spec : {M : Type 1} → statement M
stop_spec =
    tie.close
    (tie.spec
    (λ c κs. search rules)
    (λ c. rw c.refuse-s.ensures))
