-- Updates as records: the number of each kind, which records of its parts a kind uses, what is read of an update, and how one is laid out.
-- Document 01, "`TableUpdate` with its strings becomes a kind with records beside it", and "An update is well formed if its kind, lengths, .. blanks ..".
use Rattle.std.specs.Prelude.{ℕ, Bool, cond, ◌&&◌, ◌||◌, List, [], ◌∷◌, map, eqb, length}
use Rattle.records.specs.Blanks.{no_fields_part, no_snapshots_part, no_refs_part, no_schemas_part, no_sort_orders_part, no_statistics_part, no_partition_specs_part, no_update}
use Rattle.records.specs.declared.update.TableUpdate.{TableUpdate}
use Rattle.records.specs.declared.update.UpdateList.{UpdateList}
use Rattle.records.specs.declared.part.FieldsPart.{FieldsPart}
use Rattle.records.specs.declared.part.SnapshotsPart.{SnapshotsPart}
use Rattle.records.specs.declared.part.SchemasPart.{SchemasPart}
use Rattle.records.specs.declared.part.SortOrdersPart.{SortOrdersPart}
use Rattle.records.specs.declared.part.StatisticsPart.{StatisticsPart}
use Rattle.records.specs.declared.part.PartitionSpecsPart.{PartitionSpecsPart}
use Rattle.records.specs.declared.counters.SchemaId.{SchemaId}
use Rattle.records.specs.declared.counters.SnapshotId.{SnapshotId}
use Rattle.records.specs.declared.counters.SortOrderId.{SortOrderId}
use Rattle.records.specs.declared.counters.SpecId.{SpecId}
use Rattle.records.specs.declared.text.Text.{Text}
use Rattle.records.specs.declared.text.Name.{Name}
use Rattle.records.specs.declared.snapshot.Snapshot.{Snapshot}
use Rattle.records.specs.declared.snapshot.SnapshotIds.{SnapshotIds}
use Rattle.records.specs.declared.reference.SnapshotReference.{SnapshotReference}
use Rattle.records.specs.declared.part.RefsPart.{RefsPart}
use Rattle.records.specs.declared.schema.SchemaOffer.{SchemaOffer}
use Rattle.records.specs.declared.schema.SchemaIds.{SchemaIds}
use Rattle.records.specs.declared.sort_order.SortOrder.{SortOrder}
use Rattle.records.specs.declared.statistics.StatisticsFile.{StatisticsFile}
use Rattle.records.specs.declared.partition.SpecOffer.{SpecOffer}
use Rattle.records.specs.declared.partition.SpecIds.{SpecIds}
use Rattle.rules.specs.Words.{any}
use Rattle.rules.specs.Capacities.{list_room}
use Rattle.rules.specs.Register.{StatisticsTable, Update}
use Rattle.rules.specs.Register.StatisticsTable.{Statistics, PartitionStatistics}
use Rattle.rules.specs.Register.Update.{AssignUuid, UpgradeFormatVersion, SetLocation, AddSnapshot, SetBranchSnapshot, RemoveSnapshots, SetRef, RemoveRef, AddSchema, SetCurrentSchema, RemoveSchemas, AddSortOrder, SetDefaultSortOrder, SetStatistics, RemoveStatistics, AddPartitionSpec, SetDefaultPartitionSpec, RemovePartitionSpecs, NotFormed}
use Rattle.rules.specs.Blanks.{is_zero, is_zero_z, is_blank_uuid, is_tidy_text, is_blank_text, is_tidy_snapshot, is_blank_snapshot, is_tidy_snapshot_ids, is_blank_snapshot_ids, is_tidy_name, is_blank_name, is_tidy_reference, is_blank_reference, is_blank_schema_offer, is_tidy_schema_ids, is_blank_schema_ids, is_tidy_sort_order, is_blank_sort_order, is_tidy_statistics_file, is_blank_statistics_file, is_tidy_spec_offer, is_blank_spec_offer, is_tidy_spec_ids, is_blank_spec_ids}
use Rattle.rules.specs.Layout.{counted, pad, read_name, laid_name, read_text, laid_text, read_snapshot, laid_snapshot, read_snapshot_ids, laid_snapshot_ids, read_reference, laid_reference, read_schema_offer, laid_schema_offer, read_schema_ids, laid_schema_ids, read_sort_order, laid_sort_order, read_statistics_file, laid_statistics_file, read_spec_offer, laid_spec_offer, read_spec_ids, laid_spec_ids}

-- ---- the kinds, in the order of a table's life

abbrev pub assign_uuid_kind : ℕ
assign_uuid_kind = 1

abbrev pub upgrade_format_version_kind : ℕ
upgrade_format_version_kind = 2

abbrev pub set_location_kind : ℕ
set_location_kind = 3

abbrev pub add_snapshot_kind : ℕ
add_snapshot_kind = 4

abbrev pub set_branch_snapshot_kind : ℕ
set_branch_snapshot_kind = 5

abbrev pub remove_snapshots_kind : ℕ
remove_snapshots_kind = 6

abbrev pub set_ref_kind : ℕ
set_ref_kind = 7

abbrev pub remove_ref_kind : ℕ
remove_ref_kind = 8

abbrev pub add_schema_kind : ℕ
add_schema_kind = 9

abbrev pub set_current_schema_kind : ℕ
set_current_schema_kind = 10

abbrev pub remove_schemas_kind : ℕ
remove_schemas_kind = 11

abbrev pub add_sort_order_kind : ℕ
add_sort_order_kind = 12

abbrev pub set_default_sort_order_kind : ℕ
set_default_sort_order_kind = 13

abbrev pub set_statistics_kind : ℕ
set_statistics_kind = 14

abbrev pub remove_statistics_kind : ℕ
remove_statistics_kind = 15

abbrev pub set_partition_statistics_kind : ℕ
set_partition_statistics_kind = 16

abbrev pub remove_partition_statistics_kind : ℕ
remove_partition_statistics_kind = 17

abbrev pub add_partition_spec_kind : ℕ
add_partition_spec_kind = 18

abbrev pub set_default_partition_spec_kind : ℕ
set_default_partition_spec_kind = 19

abbrev pub remove_partition_specs_kind : ℕ
remove_partition_specs_kind = 20

-- ---- what a kind uses

-- the update is of one of the kinds that use the record, or the record is blank
abbrev pub used_by : List ℕ → ℕ → Bool → Bool
used_by kinds kind isBlank = any (eqb kind) kinds || isBlank

-- the same, and the record is tidy, as a blank one is
abbrev pub fits_kinds : List ℕ → ℕ → Bool → Bool → Bool
fits_kinds kinds kind isBlank isTidy = used_by kinds kind isBlank && isTidy

-- part by part, the kinds that use each record, and what is asked of the part

abbrev pub uuid_kinds : List ℕ
uuid_kinds = assign_uuid_kind ∷ []

abbrev pub version_kinds : List ℕ
version_kinds = upgrade_format_version_kind ∷ []

abbrev pub location_kinds : List ℕ
location_kinds = set_location_kind ∷ []

unfoldable pub is_tidy_fields_part : ℕ → FieldsPart → Bool
is_tidy_fields_part kind p =
    used_by uuid_kinds kind (is_blank_uuid p.uuid)
    && used_by version_kinds kind (is_zero p.format_version)
    && fits_kinds location_kinds kind (is_blank_text p.location) (is_tidy_text p.location)

abbrev pub snapshot_kinds : List ℕ
snapshot_kinds = add_snapshot_kind ∷ set_branch_snapshot_kind ∷ []

abbrev pub snapshot_ids_kinds : List ℕ
snapshot_ids_kinds = remove_snapshots_kind ∷ []

unfoldable pub is_tidy_snapshots_part : ℕ → SnapshotsPart → Bool
is_tidy_snapshots_part kind p =
    fits_kinds snapshot_kinds kind (is_blank_snapshot p.added) (is_tidy_snapshot p.added)
    && fits_kinds snapshot_ids_kinds kind (is_blank_snapshot_ids p.removed) (is_tidy_snapshot_ids p.removed)

abbrev pub ref_name_kinds : List ℕ
ref_name_kinds = set_branch_snapshot_kind ∷ set_ref_kind ∷ remove_ref_kind ∷ []

abbrev pub reference_kinds : List ℕ
reference_kinds = set_ref_kind ∷ []

unfoldable pub is_tidy_refs_part : ℕ → RefsPart → Bool
is_tidy_refs_part kind p =
    fits_kinds ref_name_kinds kind (is_blank_name p.name) (is_tidy_name p.name)
    && fits_kinds reference_kinds kind (is_blank_reference p.reference) (is_tidy_reference p.reference)

abbrev pub schema_kinds : List ℕ
schema_kinds = add_schema_kind ∷ []

abbrev pub schema_id_kinds : List ℕ
schema_id_kinds = set_current_schema_kind ∷ []

abbrev pub schema_ids_kinds : List ℕ
schema_ids_kinds = remove_schemas_kind ∷ []

unfoldable pub is_tidy_schemas_part : ℕ → SchemasPart → Bool
is_tidy_schemas_part kind p =
    used_by schema_kinds kind (is_blank_schema_offer p.added)
    && used_by schema_id_kinds kind (is_zero_z p.chosen.0)
    && fits_kinds schema_ids_kinds kind (is_blank_schema_ids p.removed) (is_tidy_schema_ids p.removed)

abbrev pub sort_order_kinds : List ℕ
sort_order_kinds = add_sort_order_kind ∷ []

abbrev pub sort_order_id_kinds : List ℕ
sort_order_id_kinds = set_default_sort_order_kind ∷ []

unfoldable pub is_tidy_sort_orders_part : ℕ → SortOrdersPart → Bool
is_tidy_sort_orders_part kind p =
    fits_kinds sort_order_kinds kind (is_blank_sort_order p.added) (is_tidy_sort_order p.added)
    && used_by sort_order_id_kinds kind (is_zero_z p.chosen.0)

abbrev pub statistics_file_kinds : List ℕ
statistics_file_kinds = set_statistics_kind ∷ set_partition_statistics_kind ∷ []

abbrev pub statistics_id_kinds : List ℕ
statistics_id_kinds = remove_statistics_kind ∷ remove_partition_statistics_kind ∷ []

unfoldable pub is_tidy_statistics_part : ℕ → StatisticsPart → Bool
is_tidy_statistics_part kind p =
    fits_kinds statistics_file_kinds kind (is_blank_statistics_file p.file) (is_tidy_statistics_file p.file)
    && used_by statistics_id_kinds kind (is_zero_z p.removed.0)

abbrev pub spec_kinds : List ℕ
spec_kinds = add_partition_spec_kind ∷ []

abbrev pub spec_id_kinds : List ℕ
spec_id_kinds = set_default_partition_spec_kind ∷ []

abbrev pub spec_ids_kinds : List ℕ
spec_ids_kinds = remove_partition_specs_kind ∷ []

unfoldable pub is_tidy_partition_specs_part : ℕ → PartitionSpecsPart → Bool
is_tidy_partition_specs_part kind p =
    fits_kinds spec_kinds kind (is_blank_spec_offer p.added) (is_tidy_spec_offer p.added)
    && used_by spec_id_kinds kind (is_zero_z p.chosen.0)
    && fits_kinds spec_ids_kinds kind (is_blank_spec_ids p.removed) (is_tidy_spec_ids p.removed)

abbrev pub is_tidy_update : TableUpdate → Bool
is_tidy_update u =
    is_tidy_fields_part u.kind u.fields
    && is_tidy_snapshots_part u.kind u.snapshots
    && is_tidy_refs_part u.kind u.refs
    && is_tidy_schemas_part u.kind u.schemas
    && is_tidy_sort_orders_part u.kind u.sort_orders
    && is_tidy_statistics_part u.kind u.statistics
    && is_tidy_partition_specs_part u.kind u.partition_specs

-- ---- reading

-- "The updates of a list count 1 each, a branch commit 2", by the kind alone
abbrev pub kind_weight : ℕ → ℕ
kind_weight kind = cond (eqb kind set_branch_snapshot_kind) 2 1

-- what stands at the kind; no kind but these is well formed
abbrev pub at_kind : ℕ → List (ℕ × Update) → Update
at_kind kind [] = NotFormed 1
at_kind kind (x ∷ xs) = cond (eqb kind x.0) x.1 (at_kind kind xs)

-- what each kind says
abbrev pub readings : TableUpdate → List (ℕ × Update)
readings u =
    (assign_uuid_kind, AssignUuid u.fields.uuid)
    ∷ (upgrade_format_version_kind, UpgradeFormatVersion u.fields.format_version)
    ∷ (set_location_kind, SetLocation (read_text u.fields.location))
    ∷ (add_snapshot_kind, AddSnapshot (read_snapshot u.snapshots.added))
    ∷ (set_branch_snapshot_kind, SetBranchSnapshot (read_name u.refs.name) (read_snapshot u.snapshots.added))
    ∷ (remove_snapshots_kind, RemoveSnapshots (read_snapshot_ids u.snapshots.removed))
    ∷ (set_ref_kind, SetRef (read_name u.refs.name) (read_reference u.refs.reference))
    ∷ (remove_ref_kind, RemoveRef (read_name u.refs.name))
    ∷ (add_schema_kind, AddSchema (read_schema_offer u.schemas.added))
    ∷ (set_current_schema_kind, SetCurrentSchema u.schemas.chosen.0)
    ∷ (remove_schemas_kind, RemoveSchemas (read_schema_ids u.schemas.removed))
    ∷ (add_sort_order_kind, AddSortOrder (read_sort_order u.sort_orders.added))
    ∷ (set_default_sort_order_kind, SetDefaultSortOrder u.sort_orders.chosen.0)
    ∷ (set_statistics_kind, SetStatistics Statistics (read_statistics_file u.statistics.file))
    ∷ (remove_statistics_kind, RemoveStatistics Statistics u.statistics.removed.0)
    ∷ (set_partition_statistics_kind, SetStatistics PartitionStatistics (read_statistics_file u.statistics.file))
    ∷ (remove_partition_statistics_kind, RemoveStatistics PartitionStatistics u.statistics.removed.0)
    ∷ (add_partition_spec_kind, AddPartitionSpec (read_spec_offer u.partition_specs.added))
    ∷ (set_default_partition_spec_kind, SetDefaultPartitionSpec u.partition_specs.chosen.0)
    ∷ (remove_partition_specs_kind, RemovePartitionSpecs (read_spec_ids u.partition_specs.removed))
    ∷ []

abbrev pub read_kind : TableUpdate → Update
read_kind u = at_kind u.kind (readings u)

unfoldable pub read_update : TableUpdate → Update
read_update u = cond (is_tidy_update u) (read_kind u) (NotFormed (kind_weight u.kind))

-- as many updates as the count says; one for which there is no slot reads as a blank record, which is not well formed
unfoldable pub read_updates : UpdateList → List Update
read_updates t = map read_update (counted no_update t.items t.count)

-- ---- laying out: a blank update of a kind, with the records that the kind uses

abbrev pub of_kind : ℕ → TableUpdate
of_kind kind = record { kind = kind; fields = no_fields_part; snapshots = no_snapshots_part; refs = no_refs_part; schemas = no_schemas_part; sort_orders = no_sort_orders_part; statistics = no_statistics_part; partition_specs = no_partition_specs_part }

abbrev pub with_fields_part : FieldsPart → TableUpdate → TableUpdate
with_fields_part x u = record { kind = u.kind; fields = x; snapshots = u.snapshots; refs = u.refs; schemas = u.schemas; sort_orders = u.sort_orders; statistics = u.statistics; partition_specs = u.partition_specs }

abbrev pub with_snapshots_part : SnapshotsPart → TableUpdate → TableUpdate
with_snapshots_part x u = record { kind = u.kind; fields = u.fields; snapshots = x; refs = u.refs; schemas = u.schemas; sort_orders = u.sort_orders; statistics = u.statistics; partition_specs = u.partition_specs }

abbrev pub with_refs_part : RefsPart → TableUpdate → TableUpdate
with_refs_part x u = record { kind = u.kind; fields = u.fields; snapshots = u.snapshots; refs = x; schemas = u.schemas; sort_orders = u.sort_orders; statistics = u.statistics; partition_specs = u.partition_specs }

abbrev pub with_schemas_part : SchemasPart → TableUpdate → TableUpdate
with_schemas_part x u = record { kind = u.kind; fields = u.fields; snapshots = u.snapshots; refs = u.refs; schemas = x; sort_orders = u.sort_orders; statistics = u.statistics; partition_specs = u.partition_specs }

abbrev pub with_sort_orders_part : SortOrdersPart → TableUpdate → TableUpdate
with_sort_orders_part x u = record { kind = u.kind; fields = u.fields; snapshots = u.snapshots; refs = u.refs; schemas = u.schemas; sort_orders = x; statistics = u.statistics; partition_specs = u.partition_specs }

abbrev pub with_statistics_part : StatisticsPart → TableUpdate → TableUpdate
with_statistics_part x u = record { kind = u.kind; fields = u.fields; snapshots = u.snapshots; refs = u.refs; schemas = u.schemas; sort_orders = u.sort_orders; statistics = x; partition_specs = u.partition_specs }

abbrev pub with_partition_specs_part : PartitionSpecsPart → TableUpdate → TableUpdate
with_partition_specs_part x u = record { kind = u.kind; fields = u.fields; snapshots = u.snapshots; refs = u.refs; schemas = u.schemas; sort_orders = u.sort_orders; statistics = u.statistics; partition_specs = x }

-- ---- a part with another record

abbrev pub with_uuid : List ℕ → FieldsPart → FieldsPart
with_uuid x p = record { uuid = x; format_version = p.format_version; location = p.location }

abbrev pub with_format_version : ℕ → FieldsPart → FieldsPart
with_format_version x p = record { uuid = p.uuid; format_version = x; location = p.location }

abbrev pub with_location : Text → FieldsPart → FieldsPart
with_location x p = record { uuid = p.uuid; format_version = p.format_version; location = x }

abbrev pub with_snapshot : Snapshot → SnapshotsPart → SnapshotsPart
with_snapshot x p = record { added = x; removed = p.removed }

abbrev pub with_snapshot_ids : SnapshotIds → SnapshotsPart → SnapshotsPart
with_snapshot_ids x p = record { added = p.added; removed = x }

abbrev pub with_ref_name : Name → RefsPart → RefsPart
with_ref_name x p = record { name = x; reference = p.reference }

abbrev pub with_reference : SnapshotReference → RefsPart → RefsPart
with_reference x p = record { name = p.name; reference = x }

abbrev pub with_schema_offer : SchemaOffer → SchemasPart → SchemasPart
with_schema_offer x p = record { added = x; chosen = p.chosen; removed = p.removed }

abbrev pub with_schema_id : SchemaId → SchemasPart → SchemasPart
with_schema_id x p = record { added = p.added; chosen = x; removed = p.removed }

abbrev pub with_schema_ids : SchemaIds → SchemasPart → SchemasPart
with_schema_ids x p = record { added = p.added; chosen = p.chosen; removed = x }

abbrev pub with_sort_order : SortOrder → SortOrdersPart → SortOrdersPart
with_sort_order x p = record { added = x; chosen = p.chosen }

abbrev pub with_sort_order_id : SortOrderId → SortOrdersPart → SortOrdersPart
with_sort_order_id x p = record { added = p.added; chosen = x }

abbrev pub with_statistics_file : StatisticsFile → StatisticsPart → StatisticsPart
with_statistics_file x p = record { file = x; removed = p.removed }

abbrev pub with_statistics_id : SnapshotId → StatisticsPart → StatisticsPart
with_statistics_id x p = record { file = p.file; removed = x }

abbrev pub with_spec_offer : SpecOffer → PartitionSpecsPart → PartitionSpecsPart
with_spec_offer x p = record { added = x; chosen = p.chosen; removed = p.removed }

abbrev pub with_spec_id : SpecId → PartitionSpecsPart → PartitionSpecsPart
with_spec_id x p = record { added = p.added; chosen = x; removed = p.removed }

abbrev pub with_spec_ids : SpecIds → PartitionSpecsPart → PartitionSpecsPart
with_spec_ids x p = record { added = p.added; chosen = p.chosen; removed = x }

-- ---- an update laid out

-- the kinds of the two tables
abbrev pub setting_kind_lem : StatisticsTable → ℕ
setting_kind_lem Statistics = set_statistics_kind
setting_kind_lem PartitionStatistics = set_partition_statistics_kind

abbrev pub removing_kind : StatisticsTable → ℕ
removing_kind Statistics = remove_statistics_kind
removing_kind PartitionStatistics = remove_partition_statistics_kind

unfoldable pub laid_update : Update → TableUpdate
laid_update (AssignUuid uuid) = with_fields_part (with_uuid uuid no_fields_part) (of_kind assign_uuid_kind)
laid_update (UpgradeFormatVersion v) = with_fields_part (with_format_version v no_fields_part) (of_kind upgrade_format_version_kind)
laid_update (SetLocation location) = with_fields_part (with_location (laid_text location) no_fields_part) (of_kind set_location_kind)
laid_update (AddSnapshot s) = with_snapshots_part (with_snapshot (laid_snapshot s) no_snapshots_part) (of_kind add_snapshot_kind)
laid_update (SetBranchSnapshot name s) = with_refs_part (with_ref_name (laid_name name) no_refs_part) (with_snapshots_part (with_snapshot (laid_snapshot s) no_snapshots_part) (of_kind set_branch_snapshot_kind))
laid_update (RemoveSnapshots ids) = with_snapshots_part (with_snapshot_ids (laid_snapshot_ids ids) no_snapshots_part) (of_kind remove_snapshots_kind)
laid_update (SetRef name r) = with_refs_part (record { name = laid_name name; reference = laid_reference r }) (of_kind set_ref_kind)
laid_update (RemoveRef name) = with_refs_part (with_ref_name (laid_name name) no_refs_part) (of_kind remove_ref_kind)
laid_update (AddSchema o) = with_schemas_part (with_schema_offer (laid_schema_offer o) no_schemas_part) (of_kind add_schema_kind)
laid_update (SetCurrentSchema id) = with_schemas_part (with_schema_id (record { 0 = id }) no_schemas_part) (of_kind set_current_schema_kind)
laid_update (RemoveSchemas ids) = with_schemas_part (with_schema_ids (laid_schema_ids ids) no_schemas_part) (of_kind remove_schemas_kind)
laid_update (AddSortOrder o) = with_sort_orders_part (with_sort_order (laid_sort_order o) no_sort_orders_part) (of_kind add_sort_order_kind)
laid_update (SetDefaultSortOrder id) = with_sort_orders_part (with_sort_order_id (record { 0 = id }) no_sort_orders_part) (of_kind set_default_sort_order_kind)
laid_update (SetStatistics which f) = with_statistics_part (with_statistics_file (laid_statistics_file f) no_statistics_part) (of_kind (setting_kind_lem which))
laid_update (RemoveStatistics which id) = with_statistics_part (with_statistics_id (record { 0 = id }) no_statistics_part) (of_kind (removing_kind which))
laid_update (AddPartitionSpec o) = with_partition_specs_part (with_spec_offer (laid_spec_offer o) no_partition_specs_part) (of_kind add_partition_spec_kind)
laid_update (SetDefaultPartitionSpec id) = with_partition_specs_part (with_spec_id (record { 0 = id }) no_partition_specs_part) (of_kind set_default_partition_spec_kind)
laid_update (RemovePartitionSpecs ids) = with_partition_specs_part (with_spec_ids (laid_spec_ids ids) no_partition_specs_part) (of_kind remove_partition_specs_kind)
laid_update (NotFormed counts) = no_update

unfoldable pub laid_updates : List Update → UpdateList
laid_updates l = record { items = pad list_room no_update (map laid_update l); count = length l }
