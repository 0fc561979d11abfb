-- Every field of the schema is the one that `SchemaField::blank` gives.
use Rattle.records.specs.Blanks.{no_schema}
use Rattle.records.proofs.schema.Schema.blank.Statement.{statement}
use Rattle.records.proofs.schema.Schema.blank.Tie as tie

pub blank_spec : {M : Type 1} → statement M
unfolding no_schema
blank_spec = tie.close (tie.spec (λ c κs. tt) (λ c. cc))
