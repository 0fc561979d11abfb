-- By what is wanted.
use borrow.Author.Tests.{eq-eqb, ne_eqb}
use Rattle.file_walk.proofs.reader.misplaced_number.Statement.{statement}
use Rattle.file_walk.proofs.reader.misplaced_number.Tie as tie

pub misplaced_number_spec : {M : Type 1} → statement M
misplaced_number_spec =
    tie.close
    (tie.spec
    (λ c. rw (eq-eqb _ _ c.if-want-eq0.true))
    (λ c. rw (ne_eqb _ _ c.if-want-eq0.false, eq-eqb _ _ c.if-each-eq0.true))
    (λ c. rw (ne_eqb _ _ c.if-want-eq0.false, ne_eqb _ _ c.if-each-eq0.false)))
