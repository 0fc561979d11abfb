-- The two tests are the rule's.
use borrow.Author.Tests.{eq-eqb, ne_eqb}
use Rattle.expiry.proofs.walks.why_at.Statement.{statement}
use Rattle.expiry.proofs.walks.why_at.Tie as tie

pub why_at_spec : {M : Type 1} → statement M
why_at_spec =
    tie.close
    (tie.spec
    (λ c. rw (eq-eqb _ _ c.if-listed-eq0.true))
    (λ c. rw (ne_eqb _ _ c.if-listed-eq0.false, c.if-counted.true))
    (λ c. rw (ne_eqb _ _ c.if-listed-eq0.false, c.if-counted.false)))
