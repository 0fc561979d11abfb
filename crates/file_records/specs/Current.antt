-- The current snapshot as an `Option`, and `main` at it.
use Rattle.std.proofs.Math.Option as math
use Rattle.std.proofs.Math.Option.{none, some}
use Rattle.std.specs.Prelude.{ℤ, Option, Some, None}
use Rattle.records.specs.declared.counters.SnapshotId.{SnapshotId}
use Rattle.rules.specs.Names.{main_name}
use Rattle.rules.specs.WellFormed.{branch}
use Rattle.rules.specs.Register.{NamedRef}

abbrev pub laid_current : math.Option ℤ → Option SnapshotId
laid_current none = None
laid_current (some id) = Some (record { 0 = id })

-- `main`, a plain branch, at a snapshot
abbrev pub main_ref : ℤ → NamedRef
main_ref id = record { name = main_name; owner = 1; reference = record { snapshot = id; kind = branch; min_snapshots = none; max_snapshot_age = none; max_ref_age = none } }
