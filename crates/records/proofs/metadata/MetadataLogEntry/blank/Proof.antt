-- The file name is the one that `Text::blank` gives, and the time is 0.
use Rattle.records.proofs.metadata.MetadataLogEntry.blank.Statement.{statement}
use Rattle.records.proofs.metadata.MetadataLogEntry.blank.Tie as tie

pub blank_spec : {M : Type 1} → statement M
blank_spec = tie.close (tie.spec (λ c κs. tt) (λ c. cc))
