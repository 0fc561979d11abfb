-- What an office may not touch: document 02, request (xi), number 35. It is asked by the state of the moment, of every update, whatever else would come of it.
use Rattle.std.specs.Prelude.{ℕ, Bool, false, not, ◌&&◌, ◌||◌, List, eqb, ℤ}
use Rattle.rules.specs.Words.{eq_z, some_with, any, keep, is_in}
use Rattle.rules.specs.Names.{is_main}
use Rattle.rules.specs.Offices.{second_office}
use Rattle.rules.specs.Register.{Snapshot, NamedRef, LogEntry, Metadata, Update}
use Rattle.rules.specs.Register.Update.{AssignUuid, UpgradeFormatVersion, SetLocation, AddSnapshot, SetBranchSnapshot, RemoveSnapshots, SetRef, RemoveRef, AddSchema, SetCurrentSchema, RemoveSchemas, AddSortOrder, SetDefaultSortOrder, SetStatistics, RemoveStatistics, AddPartitionSpec, SetDefaultPartitionSpec, RemovePartitionSpecs, NotFormed}
use Rattle.rules.specs.Walk.{reach}
use Rattle.rules.specs.SnapshotUpdates.{held_snapshots}
use Rattle.rules.specs.RefUpdates.{ref_named}

-- the run is the second office's
abbrev pub is_second : ℕ → Bool
is_second office = eqb office second_office

-- the ref is the other office's
abbrev pub is_others_ref : ℕ → NamedRef → Bool
is_others_ref office r = not (eqb r.owner office)

-- the refs of the other office, in table order
abbrev pub others_refs : ℕ → List NamedRef → List NamedRef
others_refs office l = keep (is_others_ref office) l

-- "touching the other's ref": one that is held under the name; "`main` belongs to office 1", held or not
abbrev pub names_others : ℕ → List ℕ → Metadata → Bool
names_others office name m = (is_second office && is_main name) || some_with (is_others_ref office) (ref_named name m.refs)

-- a snapshot "that one names or reaches by parents"
abbrev pub others_reach : ℕ → Metadata → ℤ → Bool
others_reach office m id = any (λ (r : NamedRef). is_in (reach m.snapshots r.reference.snapshot) id) (others_refs office m.refs)

-- "office 2 removing a snapshot that the snapshot log names"
abbrev pub is_logged : Metadata → ℤ → Bool
is_logged m id = any (λ (e : LogEntry). eq_z e.snapshot id) m.snapshot_log

-- the snapshot has to stay for the other office
abbrev pub is_needed : ℕ → Metadata → ℤ → Bool
is_needed office m id = others_reach office m id || (is_second office && is_logged m id)

-- 35. "Schemas, orders, specs, version, location and uuid are office 1's to change"; statistics files are neither's.
unfoldable pub is_others : ℕ → Update → Metadata → Bool
is_others office (AssignUuid uuid) m = is_second office
is_others office (UpgradeFormatVersion v) m = is_second office
is_others office (SetLocation location) m = is_second office
is_others office (AddSnapshot s) m = false
is_others office (SetBranchSnapshot name s) m = names_others office name m
is_others office (RemoveSnapshots ids) m = any (is_needed office m) (held_snapshots ids m.snapshots)
is_others office (SetRef name r) m = names_others office name m
is_others office (RemoveRef name) m = names_others office name m
is_others office (AddSchema o) m = is_second office
is_others office (SetCurrentSchema id) m = is_second office
is_others office (RemoveSchemas ids) m = is_second office
is_others office (AddSortOrder o) m = is_second office
is_others office (SetDefaultSortOrder id) m = is_second office
is_others office (SetStatistics which f) m = false
is_others office (RemoveStatistics which id) m = false
is_others office (AddPartitionSpec o) m = is_second office
is_others office (SetDefaultPartitionSpec id) m = is_second office
is_others office (RemovePartitionSpecs ids) m = is_second office
is_others office (NotFormed counts) m = false
