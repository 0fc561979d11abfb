-- By the length.
use borrow.Author.Tests.{eq-eqb, ne_eqb, le-leb, lt-leb}
use Rattle.file_walk.proofs.names.own_fault.Statement.{statement}
use Rattle.file_walk.proofs.names.own_fault.Tie as tie

pub own_fault_spec : {M : Type 1} → statement M
own_fault_spec =
    tie.close
    (tie.spec
    (λ c. rw (eq-eqb _ _ c.if-len-eq-LONE.true))
    (λ c. rw (ne_eqb _ _ c.if-len-eq-LONE.false, le-leb _ _ c.if-len-le-LONGEST.true))
    (λ c. rw (ne_eqb _ _ c.if-len-eq-LONE.false, lt-leb _ _ c.if-len-le-LONGEST.false)))
