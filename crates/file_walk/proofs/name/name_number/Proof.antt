-- One test after the other.
use borrow.Author.Tests.{eq-eqb, ne_eqb, le-leb, lt-leb}
use Rattle.file_walk.proofs.name.name_number.Statement.{statement}
use Rattle.file_walk.proofs.name.name_number.Tie as tie

pub name_number_spec : {M : Type 1} → statement M
name_number_spec =
    tie.close
    (tie.spec
    (λ c. rw (le-leb _ _ c.if-kind-ge-NO_RECORD.true))
    (λ c. rw (lt-leb _ _ c.if-kind-ge-NO_RECORD.false, eq-eqb _ _ c.if-known-eq0.true, eq-eqb _ _ c.if-kind-eq0.true))
    (λ c. rw (lt-leb _ _ c.if-kind-ge-NO_RECORD.false, eq-eqb _ _ c.if-known-eq0.true, ne_eqb _ _ c.if-kind-eq0.false))
    (λ c. rw (lt-leb _ _ c.if-kind-ge-NO_RECORD.false, ne_eqb _ _ c.if-known-eq0.false, c.if-repeated.true))
    (λ c. rw (lt-leb _ _ c.if-kind-ge-NO_RECORD.false, ne_eqb _ _ c.if-known-eq0.false, c.if-repeated.false)))
