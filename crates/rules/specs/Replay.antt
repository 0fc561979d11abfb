-- What the replay of a run's change log leaves out: document 01, P10, "removing unknown schema 7 logs an empty removal; its replay logs none".
use Rattle.std.specs.Prelude.{Bool, false, not, List}
use Rattle.rules.specs.Words.{keep, is_empty}
use Rattle.rules.specs.Register.{Update}
use Rattle.rules.specs.Register.Update.{AssignUuid, UpgradeFormatVersion, SetLocation, AddSnapshot, SetBranchSnapshot, RemoveSnapshots, SetRef, RemoveRef, AddSchema, SetCurrentSchema, RemoveSchemas, AddSortOrder, SetDefaultSortOrder, SetStatistics, RemoveStatistics, AddPartitionSpec, SetDefaultPartitionSpec, RemovePartitionSpecs, NotFormed}

-- it removes schemas, and names none
abbrev pub is_empty_schema_removal : Update → Bool
is_empty_schema_removal (AssignUuid uuid) = false
is_empty_schema_removal (UpgradeFormatVersion v) = false
is_empty_schema_removal (SetLocation location) = false
is_empty_schema_removal (AddSnapshot s) = false
is_empty_schema_removal (SetBranchSnapshot name s) = false
is_empty_schema_removal (RemoveSnapshots ids) = false
is_empty_schema_removal (SetRef name r) = false
is_empty_schema_removal (RemoveRef name) = false
is_empty_schema_removal (AddSchema s) = false
is_empty_schema_removal (SetCurrentSchema id) = false
is_empty_schema_removal (RemoveSchemas ids) = is_empty ids
is_empty_schema_removal (AddSortOrder o) = false
is_empty_schema_removal (SetDefaultSortOrder id) = false
is_empty_schema_removal (SetStatistics which f) = false
is_empty_schema_removal (RemoveStatistics which id) = false
is_empty_schema_removal (AddPartitionSpec o) = false
is_empty_schema_removal (SetDefaultPartitionSpec id) = false
is_empty_schema_removal (RemovePartitionSpecs ids) = false
is_empty_schema_removal (NotFormed counts) = false

-- the log without its schema removals that name no schema
unfoldable pub strip : List Update → List Update
strip log = keep (λ u. not (is_empty_schema_removal u)) log
