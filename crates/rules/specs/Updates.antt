-- Any update: document 01, "Rules for each update": "An update that takes effect is logged once, as given, unless said below."
use Rattle.std.specs.Prelude.{ℕ, Bool, true, not, List, [], ◌∷◌}
use Rattle.rules.specs.Words.{first_of, Check}
use Rattle.rules.specs.Replies.{update_not_formed, others_to_change}
use Rattle.rules.specs.Register.{Update, Terms, State}
use Rattle.rules.specs.Register.Update.{AssignUuid, UpgradeFormatVersion, SetLocation, AddSnapshot, SetBranchSnapshot, RemoveSnapshots, SetRef, RemoveRef, AddSchema, SetCurrentSchema, RemoveSchemas, AddSortOrder, SetDefaultSortOrder, SetStatistics, RemoveStatistics, AddPartitionSpec, SetDefaultPartitionSpec, RemovePartitionSpecs, NotFormed}
use Rattle.rules.specs.WellFormed.{update_formed}
use Rattle.rules.specs.Offers.{offered_schema, offer_formed, offered_spec, spec_offer_formed}
use Rattle.rules.specs.Others.{is_others}
use Rattle.rules.specs.SingleUpdates.{assign_uuid, upgrade_format_version_checks, upgrade_format_version, set_location}
use Rattle.rules.specs.SnapshotUpdates.{add_snapshot_checks, add_snapshot, remove_snapshots}
use Rattle.rules.specs.RefUpdates.{set_ref_checks, set_ref, set_branch_snapshot_checks, set_branch_snapshot, remove_ref}
use Rattle.rules.specs.SchemaUpdates.{add_schema_checks, add_schema, set_current_schema_checks, set_current_schema, remove_schemas_checks, remove_schemas}
use Rattle.rules.specs.OrderUpdates.{add_sort_order_checks, add_sort_order, set_default_sort_order_checks, set_default_sort_order}
use Rattle.rules.specs.StatisticsUpdates.{set_statistics_checks, set_statistics, remove_statistics}
use Rattle.rules.specs.SpecUpdates.{add_partition_spec_checks, add_partition_spec, set_default_partition_spec_checks, set_default_partition_spec, remove_partition_specs_checks, remove_partition_specs}

-- what an update offers has its form in the offers
unfoldable pub offers_formed : Terms → Update → Bool
offers_formed terms (AssignUuid uuid) = true
offers_formed terms (UpgradeFormatVersion v) = true
offers_formed terms (SetLocation location) = true
offers_formed terms (AddSnapshot s) = true
offers_formed terms (SetBranchSnapshot name s) = true
offers_formed terms (RemoveSnapshots ids) = true
offers_formed terms (SetRef name r) = true
offers_formed terms (RemoveRef name) = true
offers_formed terms (AddSchema o) = offer_formed terms.offers o
offers_formed terms (SetCurrentSchema id) = true
offers_formed terms (RemoveSchemas ids) = true
offers_formed terms (AddSortOrder o) = true
offers_formed terms (SetDefaultSortOrder id) = true
offers_formed terms (SetStatistics which f) = true
offers_formed terms (RemoveStatistics which id) = true
offers_formed terms (AddPartitionSpec o) = spec_offer_formed terms.offers o
offers_formed terms (SetDefaultPartitionSpec id) = true
offers_formed terms (RemovePartitionSpecs ids) = true
offers_formed terms (NotFormed counts) = true

-- the checks of an update beside its form and its office
unfoldable pub checks : Terms → Update → State → List Check
checks terms (AssignUuid uuid) st = []
checks terms (UpgradeFormatVersion v) st = upgrade_format_version_checks v st
checks terms (SetLocation location) st = []
checks terms (AddSnapshot s) st = add_snapshot_checks terms.tolerance s st
checks terms (SetBranchSnapshot name s) st = set_branch_snapshot_checks terms.tolerance name s st
checks terms (RemoveSnapshots ids) st = []
checks terms (SetRef name r) st = set_ref_checks name r st
checks terms (RemoveRef name) st = []
checks terms (AddSchema o) st = add_schema_checks (offered_schema terms.offers o) st
checks terms (SetCurrentSchema id) st = set_current_schema_checks id st
checks terms (RemoveSchemas ids) st = remove_schemas_checks ids st
checks terms (AddSortOrder o) st = add_sort_order_checks o st
checks terms (SetDefaultSortOrder id) st = set_default_sort_order_checks id st
checks terms (SetStatistics which f) st = set_statistics_checks which f st
checks terms (RemoveStatistics which id) st = []
checks terms (AddPartitionSpec o) st = add_partition_spec_checks (offered_spec terms.offers o) st
checks terms (SetDefaultPartitionSpec id) st = set_default_partition_spec_checks id st
checks terms (RemovePartitionSpecs ids) st = remove_partition_specs_checks ids st
checks terms (NotFormed counts) st = []

-- the form of what it offers, and its own checks
abbrev pub offer_checks : Terms → Update → State → List Check
offer_checks terms u st = (not (offers_formed terms u), update_not_formed) ∷ checks terms u st

-- "3 comes first within an update."; document 02, request (xi): "35, after 3 and before the update's other checks"
unfoldable pub update_number : Terms → Update → State → ℕ
update_number terms u st =
    first_of
    ((not (update_formed u), update_not_formed)
    ∷ (not (offers_formed terms u), update_not_formed)
    ∷ (is_others terms.office u st.metadata, others_to_change)
    ∷ checks terms u st)

-- what an accepted update does
unfoldable pub effect : Terms → Update → State → State
effect terms (AssignUuid uuid) st = assign_uuid uuid st
effect terms (UpgradeFormatVersion v) st = upgrade_format_version v st
effect terms (SetLocation location) st = set_location location st
effect terms (AddSnapshot s) st = add_snapshot s st
effect terms (SetBranchSnapshot name s) st = set_branch_snapshot terms name s st
effect terms (RemoveSnapshots ids) st = remove_snapshots ids st
effect terms (SetRef name r) st = set_ref terms name r st
effect terms (RemoveRef name) st = remove_ref name st
effect terms (AddSchema o) st = add_schema o (offered_schema terms.offers o) st
effect terms (SetCurrentSchema id) st = set_current_schema id st
effect terms (RemoveSchemas ids) st = remove_schemas ids st
effect terms (AddSortOrder o) st = add_sort_order o st
effect terms (SetDefaultSortOrder id) st = set_default_sort_order id st
effect terms (SetStatistics which f) st = set_statistics which f st
effect terms (RemoveStatistics which id) st = remove_statistics which id st
effect terms (AddPartitionSpec o) st = add_partition_spec o (offered_spec terms.offers o) st
effect terms (SetDefaultPartitionSpec id) st = set_default_partition_spec id st
effect terms (RemovePartitionSpecs ids) st = remove_partition_specs ids st
effect terms (NotFormed counts) st = st
