-- The snapshot and the ids are those that their own `blank` gives.
use Rattle.records.specs.Blanks.{no_snapshots_part}
use Rattle.records.proofs.part.SnapshotsPart.blank.Statement.{statement}
use Rattle.records.proofs.part.SnapshotsPart.blank.Tie as tie

pub blank_spec : {M : Type 1} → statement M
unfolding no_snapshots_part
blank_spec = tie.close (tie.spec (λ c κs. tt) (λ c κs. tt) (λ c. cc))
