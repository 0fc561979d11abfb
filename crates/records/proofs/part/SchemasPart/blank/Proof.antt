-- The offer and the ids are those that their own `blank` gives, and the chosen id is 0.
use Rattle.records.specs.Blanks.{no_schemas_part}
use Rattle.records.proofs.part.SchemasPart.blank.Statement.{statement}
use Rattle.records.proofs.part.SchemasPart.blank.Tie as tie

pub blank_spec : {M : Type 1} → statement M
unfolding no_schemas_part
blank_spec = tie.close (tie.spec (λ c κs. tt) (λ c κs. tt) (λ c. cc))
