-- The location is the one that `Text::blank` gives, and every other field is written out.
use Rattle.records.specs.Blanks.{no_fields}
use Rattle.records.proofs.metadata.SingleFields.blank.Statement.{statement}
use Rattle.records.proofs.metadata.SingleFields.blank.Tie as tie

pub blank_spec : {M : Type 1} → statement M
unfolding no_fields
blank_spec = tie.close (tie.spec (λ c κs. tt) (λ c. cc))
