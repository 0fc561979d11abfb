-- Where it is known.
use borrow.Author.Tests.{eq-eqb, ne_eqb}
use Rattle.file_members.specs.Flags.{marked}
use Rattle.file_walk.proofs.name.mark.Statement.{statement}
use Rattle.file_walk.proofs.name.mark.Tie as tie

pub mark_spec : {M : Type 1} → statement M
unfolding marked
mark_spec =
    tie.close
    (tie.spec
    (λ c. c.requires.above c.if-known-ne0.true)
    (λ c. c.requires.below c.if-known-ne0.true)
    (λ c. rw (ne_eqb _ _ c.if-known-ne0.true))
    (λ c. rw (eq-eqb _ _ c.if-known-ne0.false)))
