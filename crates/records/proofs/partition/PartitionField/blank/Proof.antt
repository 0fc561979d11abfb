-- The name is the one that `Name::blank` gives.
use Rattle.records.proofs.partition.PartitionField.blank.Statement.{statement}
use Rattle.records.proofs.partition.PartitionField.blank.Tie as tie

pub blank_spec : {M : Type 1} → statement M
blank_spec = tie.close (tie.spec (λ c κs. tt) (λ c. cc))
