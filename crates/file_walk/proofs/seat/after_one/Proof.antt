-- By the lexeme.
use mathlib.Core.Path.{sym, ◌∙◌}
use borrow.Author.Rules.{rules}
use Rattle.file_walk.specs.Seats.{after_one}
use Rattle.file_walk.proofs.seat.after_one.Statement.{statement}
use Rattle.file_walk.proofs.seat.after_one.Tie as tie

pub after_one_spec : {M : Type 1} → statement M
unfolding after_one
after_one_spec =
    tie.close
    (tie.spec
    (λ c κs. search rules)
    (λ c. rw (sym c.is_mark.ensures ∙ c.if-is_mark.true))
    (λ c κs. search rules)
    (λ c. rw (sym c.is_mark.ensures ∙ c.if-is_mark.false, sym c.is_mark-2.ensures ∙ c.if-is_mark-2.true))
    (λ c κs. search rules)
    (λ c κs. search rules)
    (λ c. c.stop.ensures ∙ rw (c.stop_place.ensures, sym c.is_mark.ensures ∙ c.if-is_mark.false, sym c.is_mark-2.ensures ∙ c.if-is_mark-2.false)))
