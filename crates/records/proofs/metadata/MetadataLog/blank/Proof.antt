-- Every slot of the log is the entry that `MetadataLogEntry::blank` gives.
use Rattle.records.specs.Blanks.{no_metadata_log}
use Rattle.records.proofs.metadata.MetadataLog.blank.Statement.{statement}
use Rattle.records.proofs.metadata.MetadataLog.blank.Tie as tie

pub blank_spec : {M : Type 1} → statement M
unfolding no_metadata_log
blank_spec = tie.close (tie.spec (λ c κs. tt) (λ c. cc))
