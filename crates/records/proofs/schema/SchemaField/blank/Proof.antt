-- The name is the one that `Name::blank` gives.
use Rattle.records.proofs.schema.SchemaField.blank.Statement.{statement}
use Rattle.records.proofs.schema.SchemaField.blank.Tie as tie

pub blank_spec : {M : Type 1} → statement M
blank_spec = tie.close (tie.spec (λ c κs. tt) (λ c. cc))
