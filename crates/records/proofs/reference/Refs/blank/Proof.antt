-- Every slot of the table is the ref that `NamedRef::blank` gives.
use Rattle.records.specs.Blanks.{no_refs}
use Rattle.records.proofs.reference.Refs.blank.Statement.{statement}
use Rattle.records.proofs.reference.Refs.blank.Tie as tie

pub blank_spec : {M : Type 1} → statement M
unfolding no_refs
blank_spec = tie.close (tie.spec (λ c κs. tt) (λ c. cc))
