-- What is asked of an update here, laid out where its kind uses it.
use Rattle.std.specs.Prelude.{◌≡◌}
use Rattle.records.specs.declared.update.TableUpdate.{TableUpdate}
use Rattle.rules.specs.Kinds.{set_branch_snapshot_kind, remove_snapshots_kind, set_ref_kind, remove_ref_kind}
use Rattle.tables.specs.Laid.{LaidName, LaidSnapshotIds}

pub record Used (u : TableUpdate) : Type 0 where
  pub branch : u.kind ≡ set_branch_snapshot_kind → LaidName u.refs.name
  pub ref : u.kind ≡ set_ref_kind → LaidName u.refs.name
  pub gone : u.kind ≡ remove_ref_kind → LaidName u.refs.name
  pub removed : u.kind ≡ remove_snapshots_kind → LaidSnapshotIds u.snapshots.removed
