-- By the spot, where there is one.
use borrow.Author.Rules.{rules}
use borrow.Author.Tests.{eq-eqb, ne_eqb}
use Rattle.file_members.specs.Faults.{like_fault}
use Rattle.file_members.proofs.value.like_fault.Statement.{statement}
use Rattle.file_members.proofs.value.like_fault.Tie as tie

pub like_fault_spec : {M : Type 1} → statement M
unfolding like_fault
like_fault_spec =
    tie.close
    (tie.spec
    (λ c. rw (eq-eqb _ _ c.if-spot-eq-NOTHING.true))
    (λ c κs. search rules)
    (λ c. rw (ne_eqb _ _ c.if-spot-eq-NOTHING.false) c.fault_of.ensures))
