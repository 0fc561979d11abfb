-- The location is the one that `Text::blank` gives, and the rest is 0.
use Rattle.records.specs.Blanks.{no_fields_part}
use Rattle.records.proofs.part.FieldsPart.blank.Statement.{statement}
use Rattle.records.proofs.part.FieldsPart.blank.Tie as tie

pub blank_spec : {M : Type 1} → statement M
unfolding no_fields_part
blank_spec = tie.close (tie.spec (λ c κs. tt) (λ c. cc))
