-- Well-formed metadata and updates: document 01, "Capacities and well-formed records", second and third paragraphs.
-- A record of a table is well formed by itself; a table by its count, its records and its order; metadata by its tables, its single
-- fields, and what they say of each other.
use Rattle.std.specs.Prelude.{ℕ, Bool, true, false, not, ◌&&◌, ◌||◌, List, map, eqb, leb, ℤ, pos, length}
use Rattle.std.specs.Bool.{beq}
use Rattle.std.proofs.Math.Option.{Option, none, some}
use Rattle.std.specs.Int.Signed.{lt_z, le_z, non_neg}
use Rattle.rules.specs.Words.{eq_z, is_some, if_some, same_option, all, any, first, is_empty, unequal_by, same_bytes, unequal, ascending}
use Rattle.rules.specs.Capacities.{snapshot_room, ref_room, snapshot_log_room, metadata_log_room, schema_room, schema_field_room, sort_order_room, sort_field_room, spec_room, partition_field_room, statistics_room, removal_room, name_room, location_room, file_name_room}
use Rattle.rules.specs.Names.{name_below, is_main}
use Rattle.rules.specs.Offices.{first_office, second_office}
use Rattle.rules.specs.Register.{Snapshot, Reference, NamedRef, LogEntry, FileEntry, SchemaField, Schema, SortField, SortOrder, PartitionField, PartitionSpec, SpecOffer, StatisticsFile, SingleFields, Metadata, Update, last_added}
use Rattle.rules.specs.Register.Update.{AssignUuid, UpgradeFormatVersion, SetLocation, AddSnapshot, SetBranchSnapshot, RemoveSnapshots, SetRef, RemoveRef, AddSchema, SetCurrentSchema, RemoveSchemas, AddSortOrder, SetDefaultSortOrder, SetStatistics, RemoveStatistics, AddPartitionSpec, SetDefaultPartitionSpec, RemovePartitionSpecs, NotFormed}
use Rattle.rules.specs.Partitions.{identity, day, bucket, is_redundant, partition_names, partition_ids}

-- ---- the bounds that records and updates share

-- a number of at least 1
abbrev pub at_least_one : ℤ → Bool
at_least_one x = le_z (pos 1) x

-- "The version is 1 to 3."
abbrev pub version_formed : ℕ → Bool
version_formed v = leb 1 v && leb v 3

abbrev pub name_formed : List ℕ → Bool
name_formed name = leb (length name) name_room

abbrev pub location_formed : List ℕ → Bool
location_formed location = leb (length location) location_room

abbrev pub file_name_formed : List ℕ → Bool
file_name_formed name = leb (length name) file_name_room

-- "Snapshot .. ids and sequence numbers are at least 0"; a parent is a snapshot id
abbrev pub snapshot_formed : Snapshot → Bool
snapshot_formed s = non_neg s.id && if_some non_neg s.parent && non_neg s.sequence.0

abbrev pub branch : ℕ
branch = 1

abbrev pub tag : ℕ
tag = 2

-- a tag keeps no snapshots and no snapshot age
abbrev pub kind_formed : Reference → Bool
kind_formed r = eqb r.kind branch || (eqb r.kind tag && not (is_some r.min_snapshots) && not (is_some r.max_snapshot_age))

-- "its retention numbers, where present, are at least 1"
abbrev pub retention_formed : Reference → Bool
retention_formed r = if_some at_least_one r.min_snapshots && if_some at_least_one r.max_snapshot_age && if_some at_least_one r.max_ref_age

abbrev pub reference_formed : Reference → Bool
reference_formed r = non_neg r.snapshot && kind_formed r && retention_formed r

-- document 02, request (xi): the owner is "1 or 2", and "`main` belongs to office 1"
abbrev pub owner_formed : NamedRef → Bool
owner_formed r = eqb r.owner first_office || (eqb r.owner second_office && not (is_main r.name))

abbrev pub ref_formed : NamedRef → Bool
ref_formed r = name_formed r.name && reference_formed r.reference && owner_formed r

abbrev pub field_ids : Schema → List ℤ
field_ids s = map (λ (f : SchemaField). f.id) s.fields

abbrev pub field_names : Schema → List (List ℕ)
field_names s = map (λ (f : SchemaField). f.name) s.fields

abbrev pub long : ℕ
long = 1

abbrev pub timestamp : ℕ
timestamp = 2

abbrev pub field_type_formed : ℕ → Bool
field_type_formed t = eqb t long || eqb t timestamp

-- "Field ids are at least 1"; document 02, request (ix): "names of up to 32 bytes and a type, long or timestamp"
abbrev pub schema_field_formed : SchemaField → Bool
schema_field_formed f = at_least_one f.id && field_type_formed f.field_type && name_formed f.name

-- ids "unequal within a schema"; document 02, request (ix): "Schema fields get unequal names of up to 32 bytes and a type, long or timestamp"
abbrev pub schema_formed : Schema → Bool
schema_formed s =
    non_neg s.id
    && leb (length s.fields) schema_field_room
    && all schema_field_formed s.fields
    && unequal (field_ids s)
    && unequal_by same_bytes (field_names s)

abbrev pub sort_field_formed : SortField → Bool
sort_field_formed f = at_least_one f.source && leb f.direction 1 && leb f.nulls 1

-- an order that is offered: "own id need only be at least 0"
abbrev pub offered_order_formed : SortOrder → Bool
offered_order_formed o = non_neg o.id && leb (length o.fields) sort_field_room && all sort_field_formed o.fields

-- one that is held: "An order has no fields exactly if its id is 0."
abbrev pub order_formed : SortOrder → Bool
order_formed o = offered_order_formed o && beq (is_empty o.fields) (eq_z o.id (pos 0))

-- a bucket has a number of at least 1, and no other transform has one
abbrev pub transform_formed : ℕ → ℤ → Bool
transform_formed t buckets = (leb identity t && leb t day && eq_z buckets (pos 0)) || (eqb t bucket && at_least_one buckets)

-- field ids are at least 1, and a partition has a name
abbrev pub partition_field_formed : PartitionField → Bool
partition_field_formed f =
    at_least_one f.source
    && if_some at_least_one f.id
    && transform_formed f.transform f.buckets
    && leb 1 (length f.name)
    && name_formed f.name

-- a spec that is offered
abbrev pub offered_spec_formed : PartitionSpec → Bool
offered_spec_formed s = non_neg s.id && leb (length s.fields) partition_field_room && all partition_field_formed s.fields

-- one that is held: every field has an id, and what 31 refuses in adding a spec does not stand in it: two equal names, one field id twice, a redundant field
abbrev pub spec_formed : PartitionSpec → Bool
spec_formed s =
    offered_spec_formed s
    && all (λ (f : PartitionField). is_some f.id) s.fields
    && unequal_by same_bytes (partition_names s)
    && unequal (partition_ids s)
    && unequal_by is_redundant s.fields

-- a statistics file: "snapshot id, path up to 96 bytes, size", and neither number is below 0
abbrev pub statistics_file_formed : StatisticsFile → Bool
statistics_file_formed f = non_neg f.snapshot && file_name_formed f.path && non_neg f.size

-- ---- the tables: "ascending by key (names by bytes, a prefix first), keys unequal; both logs keep history order"

abbrev pub snapshot_below : Snapshot → Snapshot → Bool
snapshot_below a b = lt_z a.id b.id

abbrev pub ref_below : NamedRef → NamedRef → Bool
ref_below a b = name_below a.name b.name

abbrev pub schema_below : Schema → Schema → Bool
schema_below a b = lt_z a.id b.id

abbrev pub order_below : SortOrder → SortOrder → Bool
order_below a b = lt_z a.id b.id

abbrev pub statistics_below : StatisticsFile → StatisticsFile → Bool
statistics_below a b = lt_z a.snapshot b.snapshot

abbrev pub spec_below : PartitionSpec → PartitionSpec → Bool
spec_below a b = lt_z a.id b.id

unfoldable pub snapshots_formed : List Snapshot → Bool
snapshots_formed l = leb (length l) snapshot_room && all snapshot_formed l && ascending snapshot_below l

unfoldable pub refs_formed : List NamedRef → Bool
refs_formed l = leb (length l) ref_room && all ref_formed l && ascending ref_below l

unfoldable pub snapshot_log_formed : List LogEntry → Bool
snapshot_log_formed l = leb (length l) snapshot_log_room && all (λ (e : LogEntry). non_neg e.snapshot) l

unfoldable pub metadata_log_formed : List FileEntry → Bool
metadata_log_formed l = leb (length l) metadata_log_room && all (λ (e : FileEntry). file_name_formed e.file) l

unfoldable pub schemas_formed : List Schema → Bool
schemas_formed l = leb (length l) schema_room && all schema_formed l && ascending schema_below l

unfoldable pub orders_formed : List SortOrder → Bool
orders_formed l = leb (length l) sort_order_room && all order_formed l && ascending order_below l

unfoldable pub statistics_formed : List StatisticsFile → Bool
statistics_formed l = leb (length l) statistics_room && all statistics_file_formed l && ascending statistics_below l

unfoldable pub specs_formed : List PartitionSpec → Bool
specs_formed l = leb (length l) spec_room && all spec_formed l && ascending spec_below l

-- ---- what metadata says of itself

abbrev pub has_snapshot : ℤ → Snapshot → Bool
has_snapshot id s = eq_z s.id id

-- the snapshot is held
abbrev pub holds_snapshot : List Snapshot → ℤ → Bool
holds_snapshot l id = any (has_snapshot id) l

abbrev pub points_in : List Snapshot → NamedRef → Bool
points_in l r = holds_snapshot l r.reference.snapshot

-- "Every ref names a held snapshot"
unfoldable pub refs_held : Metadata → Bool
refs_held m = all (points_in m.snapshots) m.refs

abbrev pub main_ref : List NamedRef → Option NamedRef
main_ref l = first (λ r. is_main r.name) l

abbrev pub main_snapshot : List NamedRef → Option ℤ
main_snapshot l = elim (main_ref l) [ none ↦ none | some r ↦ some r.reference.snapshot ]

-- "A current snapshot is set exactly if ref `main` exists, and `main` names it."
unfoldable pub main_agrees : Metadata → Bool
main_agrees m = same_option eq_z m.fields.current (main_snapshot m.refs)

abbrev pub has_schema : ℤ → Schema → Bool
has_schema id s = eq_z s.id id

abbrev pub has_order : ℤ → SortOrder → Bool
has_order id o = eq_z o.id id

abbrev pub has_spec : ℤ → PartitionSpec → Bool
has_spec id s = eq_z s.id id

-- "The current schema and default order exist."
unfoldable pub current_schema_held : Metadata → Bool
current_schema_held m = any (has_schema m.fields.current_schema) m.schemas

unfoldable pub default_order_held : Metadata → Bool
default_order_held m = any (has_order m.fields.default_order) m.orders

-- so does the default spec
unfoldable pub default_spec_held : Metadata → Bool
default_spec_held m = any (has_spec m.fields.default_spec) m.specs

-- the single fields by themselves; sequence numbers "are at least 0", and so is the last partition id
unfoldable pub fields_formed : SingleFields → Bool
fields_formed f = version_formed f.version && location_formed f.location && non_neg f.last_sequence.0 && non_neg f.last_partition

-- every part, in the order of the tables
unfoldable pub metadata_formed : Metadata → Bool
metadata_formed m =
    snapshots_formed m.snapshots
    && refs_formed m.refs
    && snapshot_log_formed m.snapshot_log
    && metadata_log_formed m.metadata_log
    && schemas_formed m.schemas
    && orders_formed m.orders
    && statistics_formed m.statistics
    && statistics_formed m.partition_statistics
    && specs_formed m.specs
    && fields_formed m.fields
    && refs_held m
    && main_agrees m
    && current_schema_held m
    && default_order_held m
    && default_spec_held m

-- ---- updates

-- "ids in one removal 16"
abbrev pub removal_formed : List ℤ → Bool
removal_formed ids = leb (length ids) removal_room && all non_neg ids

-- what is asked of an offered spec before its fields are read: its "own id need only be at least 0", and a field id that is there is at least 1
abbrev pub offered_ids_formed : SpecOffer → Bool
offered_ids_formed o = non_neg o.id && leb (length o.ids) partition_field_room && all (if_some at_least_one) o.ids

-- "-1 stands for last added only in setting the schema or default order"
abbrev pub choice_formed : ℤ → Bool
choice_formed id = le_z last_added id

-- "An update is well formed if its kind, lengths, version (1 to 3), blanks and numbers keep the same bounds"
unfoldable pub update_formed : Update → Bool
update_formed (AssignUuid uuid) = true
update_formed (UpgradeFormatVersion v) = version_formed v
update_formed (SetLocation location) = location_formed location
update_formed (AddSnapshot s) = snapshot_formed s
update_formed (SetBranchSnapshot name s) = name_formed name && snapshot_formed s
update_formed (RemoveSnapshots ids) = removal_formed ids
update_formed (SetRef name r) = name_formed name && reference_formed r
update_formed (RemoveRef name) = name_formed name
update_formed (AddSchema o) = non_neg o.id
update_formed (SetCurrentSchema id) = choice_formed id
update_formed (RemoveSchemas ids) = removal_formed ids
update_formed (AddSortOrder o) = offered_order_formed o
update_formed (SetDefaultSortOrder id) = choice_formed id
update_formed (SetStatistics which f) = statistics_file_formed f
update_formed (RemoveStatistics which id) = non_neg id
update_formed (AddPartitionSpec o) = offered_ids_formed o
update_formed (SetDefaultPartitionSpec id) = choice_formed id
update_formed (RemovePartitionSpecs ids) = removal_formed ids
update_formed (NotFormed counts) = false
