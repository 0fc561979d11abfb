-- One more where there is room.
use borrow.Author.Tests.{lt-ltb, le-ltb}
use native.Mathlib.Numerals.{add-one}
use borrow.Author.Rules.{rules}
use Rattle.file_walk.proofs.seat.next_count.Statement.{statement}
use Rattle.file_walk.proofs.seat.next_count.Tie as tie

pub next_count_spec : {M : Type 1} → statement M
next_count_spec =
    tie.close
    (tie.spec
    (λ c. search rules)
    (λ c. rw (lt-ltb _ _ c.if-count-room.true) (add-one _))
    (λ c. rw (le-ltb _ _ c.if-count-room.false)))
