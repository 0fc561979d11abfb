-- The fields and the nine tables are those that their own `blank` gives.
use Rattle.records.specs.Blanks.{no_metadata}
use Rattle.records.proofs.metadata.TableMetadata.blank.Statement.{statement}
use Rattle.records.proofs.metadata.TableMetadata.blank.Tie as tie

pub blank_spec : {M : Type 1} → statement M
unfolding no_metadata
blank_spec = tie.close (tie.spec (λ c κs. tt) (λ c κs. tt) (λ c κs. tt) (λ c κs. tt) (λ c κs. tt) (λ c κs. tt) (λ c κs. tt) (λ c κs. tt) (λ c κs. tt) (λ c κs. tt) (λ c. cc))
