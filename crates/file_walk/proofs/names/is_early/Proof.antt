-- Of no refusal, and of one.
use borrow.Author.Tests.{eq-eqb, ne_eqb}
use Rattle.file_walk.proofs.names.is_early.Statement.{statement}
use Rattle.file_walk.proofs.names.is_early.Tie as tie

pub is_early_spec : {M : Type 1} → statement M
is_early_spec =
    tie.close
    (tie.spec
    (λ c. rw (eq-eqb _ _ c.if-seat-eq0.true))
    (λ c. rw (ne_eqb _ _ c.if-seat-eq0.false)))
