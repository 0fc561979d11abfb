-- Nothing of it, or one more.
use borrow.Author.Tests.{eq-eqb, ne_eqb}
use mathlib.Core.Path.{◌∙◌}
use borrow.Author.Rules.{rules}
use Rattle.file_walk.specs.Seats.{counted}
use Rattle.file_walk.proofs.seat.counted.Statement.{statement}
use Rattle.file_walk.proofs.seat.counted.Tie as tie

pub counted_spec : {M : Type 1} → statement M
unfolding counted
counted_spec =
    tie.close
    (tie.spec
    (λ c. rw (eq-eqb _ _ c.if-seat-eq-MISSING.true))
    (λ c κs. search rules)
    (λ c κs. search rules)
    (λ c κs. search rules)
    (λ c. c.refuse.ensures ∙ rw (ne_eqb _ _ c.if-seat-eq-MISSING.false, c.over_number.ensures, c.next_count.ensures)))
