-- Every slot of the list is the update that `TableUpdate::blank` gives.
use Rattle.records.specs.Blanks.{no_updates}
use Rattle.records.proofs.update.UpdateList.blank.Statement.{statement}
use Rattle.records.proofs.update.UpdateList.blank.Tie as tie

pub blank_spec : {M : Type 1} → statement M
unfolding no_updates
blank_spec = tie.close (tie.spec (λ c κs. tt) (λ c. cc))
