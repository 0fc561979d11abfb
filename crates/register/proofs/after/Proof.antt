-- The two arms are the two cases.
use borrow.Author.Rules.{rules}
use Rattle.register.proofs.after.Statement.{statement}
use Rattle.register.proofs.after.Tie as tie

pub after_spec : {M : Type 1} → statement M
after_spec = tie.close (tie.spec (λ c. rw c.if-half.true) (λ c. search rules) (λ c. rw c.if-half.false))
