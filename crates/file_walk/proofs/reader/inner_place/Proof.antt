-- By its number.
use borrow.Author.Tests.{eq-eqb, ne_eqb}
use Rattle.file_walk.proofs.reader.inner_place.Statement.{statement}
use Rattle.file_walk.proofs.reader.inner_place.Tie as tie

pub inner_place_spec : {M : Type 1} → statement M
inner_place_spec =
    tie.close
    (tie.spec
    (λ c. rw (eq-eqb _ _ c.if-kind-eq-HELD_SCHEMA.true))
    (λ c. rw (ne_eqb _ _ c.if-kind-eq-HELD_SCHEMA.false)))
