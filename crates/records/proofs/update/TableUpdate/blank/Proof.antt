-- Each part is the one that its own `blank` gives, and the kind is 0.
use Rattle.records.specs.Blanks.{no_update}
use Rattle.records.proofs.update.TableUpdate.blank.Statement.{statement}
use Rattle.records.proofs.update.TableUpdate.blank.Tie as tie

pub blank_spec : {M : Type 1} → statement M
unfolding no_update
blank_spec = tie.close (tie.spec (λ c κs. tt) (λ c κs. tt) (λ c κs. tt) (λ c κs. tt) (λ c κs. tt) (λ c κs. tt) (λ c κs. tt) (λ c. cc))
