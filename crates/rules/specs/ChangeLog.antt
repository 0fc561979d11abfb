-- What a run's change log says of snapshots: all that later updates and the close read from it.
-- Document 01, "Set ref": "If this run logged the addition ..", and "The close": "whose addition is logged, to which a logged `main` ref went", "logged snapshot removal".
use Rattle.std.specs.Prelude.{Bool, cond, List, [], ℕ, ℤ}
use Rattle.std.proofs.Math.Option.{Option, none, some}
use Rattle.rules.specs.Words.{eq_z, is_some, or_else, some_with, any, collect}
use Rattle.rules.specs.Names.{is_main}
use Rattle.rules.specs.Register.{Snapshot, Update}
use Rattle.rules.specs.Register.Update.{AssignUuid, UpgradeFormatVersion, SetLocation, AddSnapshot, SetBranchSnapshot, RemoveSnapshots, SetRef, RemoveRef, AddSchema, SetCurrentSchema, RemoveSchemas, AddSortOrder, SetDefaultSortOrder, SetStatistics, RemoveStatistics, AddPartitionSpec, SetDefaultPartitionSpec, RemovePartitionSpecs, NotFormed}

-- ---- what one update says of snapshots

-- it adds one; commits one to a branch, as a list may and a log does not; removes some; points a ref of this name to one; or says nothing of them
pub data OfSnapshots : Type 0 where
  Adds : Snapshot → OfSnapshots
  Commits : Snapshot → OfSnapshots
  Removes : List ℤ → OfSnapshots
  Points : List ℕ → ℤ → OfSnapshots
  Nothing : OfSnapshots

-- one line a kind: all that is asked of an update below is asked of this
abbrev pub of_snapshots : Update → OfSnapshots
of_snapshots (AssignUuid uuid) = Nothing
of_snapshots (UpgradeFormatVersion v) = Nothing
of_snapshots (SetLocation location) = Nothing
of_snapshots (AddSnapshot s) = Adds s
of_snapshots (SetBranchSnapshot name s) = Commits s
of_snapshots (RemoveSnapshots ids) = Removes ids
of_snapshots (SetRef name r) = Points name r.snapshot
of_snapshots (RemoveRef name) = Nothing
of_snapshots (AddSchema s) = Nothing
of_snapshots (SetCurrentSchema id) = Nothing
of_snapshots (RemoveSchemas ids) = Nothing
of_snapshots (AddSortOrder o) = Nothing
of_snapshots (SetDefaultSortOrder id) = Nothing
of_snapshots (SetStatistics which f) = Nothing
of_snapshots (RemoveStatistics which id) = Nothing
of_snapshots (AddPartitionSpec o) = Nothing
of_snapshots (SetDefaultPartitionSpec id) = Nothing
of_snapshots (RemovePartitionSpecs ids) = Nothing
of_snapshots (NotFormed counts) = Nothing

-- the snapshot that it adds; a log has no branch commits
abbrev pub addition : Update → Option ℤ
addition u = elim (of_snapshots u) [ Adds s ↦ some s.id | Commits s ↦ none | Removes ids ↦ none | Points name id ↦ none | Nothing ↦ none ]

-- it adds the snapshot
abbrev pub is_addition : ℤ → Update → Bool
is_addition id u = some_with (λ added. eq_z added id) (addition u)

-- the snapshot that it is to add: a list may have branch commits
abbrev pub new_snapshot : Update → Option Snapshot
new_snapshot u = elim (of_snapshots u) [ Adds s ↦ some s | Commits s ↦ some s | Removes ids ↦ none | Points name id ↦ none | Nothing ↦ none ]

-- the snapshot to which it sets `main`
abbrev pub main_target : Update → Option ℤ
main_target u = elim (of_snapshots u) [ Adds s ↦ none | Commits s ↦ none | Removes ids ↦ none | Points name id ↦ cond (is_main name) (some id) none | Nothing ↦ none ]

-- the ids that it removes, where it removes snapshots
abbrev pub removal : Update → Option (List ℤ)
removal u = elim (of_snapshots u) [ Adds s ↦ none | Commits s ↦ none | Removes ids ↦ some ids | Points name id ↦ none | Nothing ↦ none ]

-- it removes snapshots
abbrev pub is_snapshot_removal : Update → Bool
is_snapshot_removal u = is_some (removal u)

-- the snapshots that it removes
abbrev pub removed_ids : Update → List ℤ
removed_ids u = or_else (removal u) []

-- ---- what a log says of them

-- "this run logged the addition of that snapshot"
unfoldable pub logs_addition : List Update → ℤ → Bool
logs_addition log id = any (is_addition id) log

-- "to which a logged `main` ref went"
unfoldable pub logs_main : List Update → List ℤ
logs_main log = collect main_target log

-- "a logged snapshot removal"
unfoldable pub logs_removal : List Update → Bool
logs_removal log = any is_snapshot_removal log
