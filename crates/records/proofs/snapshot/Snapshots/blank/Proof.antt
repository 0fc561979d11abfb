-- Every slot of the table is the snapshot that `Snapshot::blank` gives.
use Rattle.records.specs.Blanks.{no_snapshots}
use Rattle.records.proofs.snapshot.Snapshots.blank.Statement.{statement}
use Rattle.records.proofs.snapshot.Snapshots.blank.Tie as tie

pub blank_spec : {M : Type 1} → statement M
unfolding no_snapshots
blank_spec = tie.close (tie.spec (λ c κs. tt) (λ c. cc))
