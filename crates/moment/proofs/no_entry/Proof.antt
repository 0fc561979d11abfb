-- The entry is the blank one.
use Rattle.moment.proofs.no_entry.Statement.{statement}
use Rattle.moment.proofs.no_entry.Tie as tie

pub no_entry_spec : {M : Type 1} → statement M
no_entry_spec = tie.close (tie.spec (λ c κs. tt) (λ c. rw c.blank-entry.ensures))
