-- By the token.
use borrow.Author.Tests.{eq-eqb, ne_eqb}
use Rattle.file_walk.proofs.name.name_stop.Statement.{statement}
use Rattle.file_walk.proofs.name.name_stop.Tie as tie

pub name_stop_spec : {M : Type 1} → statement M
name_stop_spec =
    tie.close
    (tie.spec
    (λ c. rw (eq-eqb _ _ c.if-t-eq-END.true))
    (λ c. rw (ne_eqb _ _ c.if-t-eq-END.false, eq-eqb _ _ c.if-t-eq-BROKEN.true, eq-eqb _ _ c.if-t-eq34.true))
    (λ c. rw (ne_eqb _ _ c.if-t-eq-END.false, eq-eqb _ _ c.if-t-eq-BROKEN.true, ne_eqb _ _ c.if-t-eq34.false))
    (λ c. rw (ne_eqb _ _ c.if-t-eq-END.false, ne_eqb _ _ c.if-t-eq-BROKEN.false)))
