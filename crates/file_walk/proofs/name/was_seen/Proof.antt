-- Where it is known.
use borrow.Author.Tests.{eq-eqb, ne_eqb}
use Rattle.file_walk.proofs.name.was_seen.Statement.{statement}
use Rattle.file_walk.proofs.name.was_seen.Tie as tie

pub was_seen_spec : {M : Type 1} → statement M
was_seen_spec =
    tie.close
    (tie.spec
    (λ c. rw (eq-eqb _ _ c.if-known-eq0.true))
    (λ c. c.requires.above c.if-known-eq0.false)
    (λ c. c.requires.below c.if-known-eq0.false)
    (λ c. rw (ne_eqb _ _ c.if-known-eq0.false)))
