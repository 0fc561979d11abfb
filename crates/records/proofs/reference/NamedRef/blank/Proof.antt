-- The name and the reference are those that `Name::blank` and `SnapshotReference::blank` give.
use Rattle.records.proofs.reference.NamedRef.blank.Statement.{statement}
use Rattle.records.proofs.reference.NamedRef.blank.Tie as tie

pub blank_spec : {M : Type 1} → statement M
blank_spec = tie.close (tie.spec (λ c κs. tt) (λ c κs. tt) (λ c. cc))
