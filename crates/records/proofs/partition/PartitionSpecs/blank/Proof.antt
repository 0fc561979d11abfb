-- Every slot of the table is the spec that `PartitionSpec::blank` gives.
use Rattle.records.specs.Blanks.{no_partition_specs}
use Rattle.records.proofs.partition.PartitionSpecs.blank.Statement.{statement}
use Rattle.records.proofs.partition.PartitionSpecs.blank.Tie as tie

pub blank_spec : {M : Type 1} → statement M
unfolding no_partition_specs
blank_spec = tie.close (tie.spec (λ c κs. tt) (λ c. cc))
