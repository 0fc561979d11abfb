-- Logs whose numbers fit the fields that hold them, and whose uuids are sixteen bytes: what is true of every log that records hold. What is offered has its
-- own bounds.
use Rattle.std.specs.Prelude.{Bool, true, ◌&&◌, List}
use Rattle.rules.specs.Words.{if_some, all}
use Rattle.rules.specs.Register.{Update}
use Rattle.rules.specs.Register.Update.{AssignUuid, UpgradeFormatVersion, SetLocation, AddSnapshot, SetBranchSnapshot, RemoveSnapshots, SetRef, RemoveRef, AddSchema, SetCurrentSchema, RemoveSchemas, AddSortOrder, SetDefaultSortOrder, SetStatistics, RemoveStatistics, AddPartitionSpec, SetDefaultPartitionSpec, RemovePartitionSpecs, NotFormed}
use Rattle.file_rule.specs.Fits.{fits32, fits64, uuid_fits, snapshot_fits, reference_fits, order_fits, statistics_fits}

unfoldable pub update_fits : Update → Bool
update_fits (AssignUuid uuid) = uuid_fits uuid
update_fits (UpgradeFormatVersion v) = true
update_fits (SetLocation location) = true
update_fits (AddSnapshot s) = snapshot_fits s
update_fits (SetBranchSnapshot name s) = snapshot_fits s
update_fits (RemoveSnapshots ids) = all fits64 ids
update_fits (SetRef name r) = reference_fits r
update_fits (RemoveRef name) = true
update_fits (AddSchema o) = fits32 o.id
update_fits (SetCurrentSchema id) = fits32 id
update_fits (RemoveSchemas ids) = all fits32 ids
update_fits (AddSortOrder o) = order_fits o
update_fits (SetDefaultSortOrder id) = fits64 id
update_fits (SetStatistics which f) = statistics_fits f
update_fits (RemoveStatistics which id) = fits64 id
update_fits (AddPartitionSpec o) = fits32 o.id && all (if_some fits32) o.ids
update_fits (SetDefaultPartitionSpec id) = fits32 id
update_fits (RemovePartitionSpecs ids) = all fits32 ids
update_fits (NotFormed counts) = true

abbrev pub log_fits : List Update → Bool
log_fits log = all update_fits log
