-- Metadata as it is shown: of its tables those that say what the other office needs.
use Rattle.std.specs.Prelude.{◌≡◌}
use Rattle.records.specs.declared.reference.Refs.{Refs}
use Rattle.records.specs.declared.snapshot.Snapshots.{Snapshots}
use Rattle.records.specs.declared.snapshot.SnapshotLog.{SnapshotLog}
use Rattle.rules.specs.Register.{Metadata}
use Rattle.rules.specs.Layout.{read_refs, read_snapshots, read_snapshot_log}

pub record Shown (m : Metadata) (refs : Refs) (snapshots : Snapshots) (log : SnapshotLog) : Type 0 where
  pub named : read_refs refs ≡ m.refs
  pub held : read_snapshots snapshots ≡ m.snapshots
  pub history : read_snapshot_log log ≡ m.snapshot_log
