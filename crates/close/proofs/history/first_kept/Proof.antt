-- With a removal it is the place after the last missing one, else the start.
use borrow.Author.Rules.{rules}
use Rattle.close.proofs.history.first_kept.Statement.{statement}
use Rattle.close.proofs.history.first_kept.Tie as tie

pub first_kept_spec : {M : Type 1} → statement M
first_kept_spec =
    tie.close
    (tie.spec
    (λ c κs. search rules)
    (λ c. rw c.if-removal.true c.after_last_missing.ensures)
    (λ c. rw c.if-removal.false (search rules)))
