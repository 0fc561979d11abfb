-- It is kept where it is the sooner.
use mathlib.Core.Path.{sym, ◌∙◌}
use borrow.Author.Rules.{rules}
use Rattle.file_walk.proofs.seat.refuse.Statement.{statement}
use Rattle.file_walk.proofs.seat.refuse.Tie as tie

pub refuse_spec : {M : Type 1} → statement M
refuse_spec =
    tie.close
    (tie.spec
    (λ c κs. search rules)
    (λ c. rw (sym c.is_before.ensures ∙ c.if-is_before.true))
    (λ c. rw (sym c.is_before.ensures ∙ c.if-is_before.false)))
