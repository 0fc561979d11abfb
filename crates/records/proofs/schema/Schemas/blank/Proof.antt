-- Every slot of the table is the schema that `Schema::blank` gives.
use Rattle.records.specs.Blanks.{no_schemas}
use Rattle.records.proofs.schema.Schemas.blank.Statement.{statement}
use Rattle.records.proofs.schema.Schemas.blank.Tie as tie

pub blank_spec : {M : Type 1} → statement M
unfolding no_schemas
blank_spec = tie.close (tie.spec (λ c κs. tt) (λ c. cc))
