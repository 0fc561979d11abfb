-- Every id of the offer is the one that `OfferedId::blank` gives.
use Rattle.records.proofs.partition.SpecOffer.blank.Statement.{statement}
use Rattle.records.proofs.partition.SpecOffer.blank.Tie as tie

pub blank_spec : {M : Type 1} → statement M
blank_spec = tie.close (tie.spec (λ c κs. tt) (λ c. cc))
