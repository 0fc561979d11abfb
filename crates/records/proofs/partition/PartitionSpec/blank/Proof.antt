-- Every field of the spec is the one that `PartitionField::blank` gives.
use Rattle.records.specs.Blanks.{no_partition_spec}
use Rattle.records.proofs.partition.PartitionSpec.blank.Statement.{statement}
use Rattle.records.proofs.partition.PartitionSpec.blank.Tie as tie

pub blank_spec : {M : Type 1} → statement M
unfolding no_partition_spec
blank_spec = tie.close (tie.spec (λ c κs. tt) (λ c. cc))
