-- Each test is the rule's.
use borrow.Author.Tests.{eq-eqb, ne_eqb}
use Rattle.file_walk.specs.Seats.{is_before}
use Rattle.file_walk.proofs.seat.is_before.Statement.{statement}
use Rattle.file_walk.proofs.seat.is_before.Tie as tie

pub is_before_spec : {M : Type 1} → statement M
unfolding is_before
is_before_spec =
    tie.close
    (tie.spec
    (λ c. rw (eq-eqb _ _ c.if-number-eq0.true))
    (λ c. rw (ne_eqb _ _ c.if-number-eq0.false, eq-eqb _ _ c.if-seat-eq0.true))
    (λ c. rw (ne_eqb _ _ c.if-number-eq0.false, ne_eqb _ _ c.if-seat-eq0.false, eq-eqb _ _ c.if-seat-place.true))
    (λ c. rw (ne_eqb _ _ c.if-number-eq0.false, ne_eqb _ _ c.if-seat-eq0.false, ne_eqb _ _ c.if-seat-place.false)))
