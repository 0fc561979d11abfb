-- Every slot of the log is the entry that `SnapshotLogEntry::blank` gives.
use Rattle.records.specs.Blanks.{no_snapshot_log}
use Rattle.records.proofs.snapshot.SnapshotLog.blank.Statement.{statement}
use Rattle.records.proofs.snapshot.SnapshotLog.blank.Tie as tie

pub blank_spec : {M : Type 1} → statement M
unfolding no_snapshot_log
blank_spec = tie.close (tie.spec (λ c κs. tt) (λ c. cc))
