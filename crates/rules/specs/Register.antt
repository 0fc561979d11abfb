-- What the register holds, over plain lists and whole numbers: metadata, updates, what a run is given, its state and its outcome.
-- Document 01, "What is carried over", and the public table format, "Table Metadata", "Snapshots", "Snapshot References", "Sort Orders", "Partitioning".
use Rattle.std.specs.Prelude.{ℕ, List, [], ◌∷◌, ◌++◌, ℤ, negsuc}
use Rattle.std.proofs.Math.Option.{Option}
use Rattle.records.specs.declared.counters.SequenceNumber.{SequenceNumber}
use Rattle.records.specs.declared.counters.RowId.{RowId}

-- ---- the tables' records. "Sequence numbers and row ids are separate counters; neither may stand where the other is meant."

-- the rows that a snapshot adds: the first one's id, and how many
pub record RowRange : Type 0 where
  pub first : RowId
  pub added : ℕ

pub record Snapshot : Type 0 where
  pub id : ℤ
  pub parent : Option ℤ
  pub sequence : SequenceNumber
  pub time : ℤ
  pub rows : Option RowRange

-- where a ref points and what it keeps; its kind is 1 for a branch and 2 for a tag
pub record Reference : Type 0 where
  pub snapshot : ℤ
  pub kind : ℕ
  pub min_snapshots : Option ℤ
  pub max_snapshot_age : Option ℤ
  pub max_ref_age : Option ℤ

-- document 02, request (xi): "Each ref has an owner, 1 or 2, fixed when made"
pub record NamedRef : Type 0 where
  pub name : List ℕ
  pub owner : ℕ
  pub reference : Reference

pub record LogEntry : Type 0 where
  pub snapshot : ℤ
  pub time : ℤ

-- an entry of the metadata log
pub record FileEntry : Type 0 where
  pub file : List ℕ
  pub time : ℤ

-- its type is 1 for a long and 2 for a timestamp
pub record SchemaField : Type 0 where
  pub id : ℤ
  pub field_type : ℕ
  pub name : List ℕ

pub record Schema : Type 0 where
  pub id : ℤ
  pub fields : List SchemaField

-- a schema as an update offers it: its id, where its fields stand among the offers of the run, and how many they are
pub record SchemaOffer : Type 0 where
  pub id : ℤ
  pub at : ℕ
  pub count : ℕ

-- direction: 0 ascending, 1 descending; nulls: 0 first, 1 last
pub record SortField : Type 0 where
  pub source : ℤ
  pub direction : ℕ
  pub nulls : ℕ

pub record SortOrder : Type 0 where
  pub id : ℤ
  pub fields : List SortField

-- a field of a partition spec: the field of a schema that it is made from, and how. Its transform is 1 identity, 2 year, 3 month, 4 day or 5 bucket, and
-- the number of buckets is 0 with every other one. One that is held has an id; one that is offered may leave it out.
pub record PartitionField : Type 0 where
  pub source : ℤ
  pub id : Option ℤ
  pub transform : ℕ
  pub buckets : ℤ
  pub name : List ℕ

pub record PartitionSpec : Type 0 where
  pub id : ℤ
  pub fields : List PartitionField

-- a spec as an update offers it: its id, where its fields stand among the offers of the run, and of each field the id, where it does not leave it out
pub record SpecOffer : Type 0 where
  pub id : ℤ
  pub at : ℕ
  pub ids : List (Option ℤ)

-- document 02, request (ii): "snapshot id, path up to 96 bytes, size"
pub record StatisticsFile : Type 0 where
  pub snapshot : ℤ
  pub path : List ℕ
  pub size : ℤ

-- ---- metadata

pub record SingleFields : Type 0 where
  pub version : ℕ
  pub uuid : List ℕ
  pub location : List ℕ
  pub last_updated : ℤ
  pub last_sequence : SequenceNumber
  pub next_row : RowId
  pub last_column : ℤ
  pub current : Option ℤ
  pub current_schema : ℤ
  pub default_order : ℤ
  pub default_spec : ℤ
  pub last_partition : ℤ

pub record Metadata : Type 0 where
  pub fields : SingleFields
  pub snapshots : List Snapshot
  pub refs : List NamedRef
  pub snapshot_log : List LogEntry
  pub metadata_log : List FileEntry
  pub schemas : List Schema
  pub orders : List SortOrder
  pub statistics : List StatisticsFile
  pub partition_statistics : List StatisticsFile
  pub specs : List PartitionSpec

-- which of the two tables of statistics files
pub data StatisticsTable : Type 0 where
  Statistics PartitionStatistics : StatisticsTable

-- ---- updates

pub data Update : Type 0 where
  AssignUuid : List ℕ → Update
  UpgradeFormatVersion : ℕ → Update
  SetLocation : List ℕ → Update
  AddSnapshot : Snapshot → Update
  SetBranchSnapshot : List ℕ → Snapshot → Update
  RemoveSnapshots : List ℤ → Update
  SetRef : List ℕ → Reference → Update
  RemoveRef : List ℕ → Update
  AddSchema : SchemaOffer → Update
  SetCurrentSchema : ℤ → Update
  RemoveSchemas : List ℤ → Update
  AddSortOrder : SortOrder → Update
  SetDefaultSortOrder : ℤ → Update
  SetStatistics : StatisticsTable → StatisticsFile → Update
  RemoveStatistics : StatisticsTable → ℤ → Update
  AddPartitionSpec : SpecOffer → Update
  SetDefaultPartitionSpec : ℤ → Update
  RemovePartitionSpecs : List ℤ → Update
  -- a record of unknown kind, or with an unused place that is not blank; the number is what it counts
  NotFormed : ℕ → Update

-- ---- a run

-- "a clock reading, an optional name of the current metadata file, and the optional text of the property that limits the metadata log";
-- document 02, request (v): "a tolerance in milliseconds"; request (xi): "Each run names its office"; beside them the bytes of all that the updates of the list offer, which Offers reads
pub record Terms : Type 0 where
  pub clock : ℤ
  pub tolerance : ℤ
  pub file : Option (List ℕ)
  pub limit : Option (List ℕ)
  pub office : ℕ
  pub offers : List ℕ

-- the ids that the run added last
pub record LastAdded : Type 0 where
  pub schema : Option ℤ
  pub order : Option ℤ
  pub spec : Option ℤ

-- own: the run's own last update, where it has one yet
pub record State : Type 0 where
  pub metadata : Metadata
  pub own : Option ℤ
  pub added : LastAdded
  pub log : List Update

-- number and place; or new metadata, the change log and the expired entries
pub data Outcome : Type 0 where
  Refused : ℕ → ℕ → Outcome
  Accepted : Metadata → List Update → List FileEntry → Outcome

-- ---- one part changed, the others kept

abbrev pub with_fields : SingleFields → Metadata → Metadata
with_fields f m = record { fields = f; snapshots = m.snapshots; refs = m.refs; snapshot_log = m.snapshot_log; metadata_log = m.metadata_log; schemas = m.schemas; orders = m.orders; statistics = m.statistics; partition_statistics = m.partition_statistics; specs = m.specs }

abbrev pub with_snapshots : List Snapshot → Metadata → Metadata
with_snapshots l m = record { fields = m.fields; snapshots = l; refs = m.refs; snapshot_log = m.snapshot_log; metadata_log = m.metadata_log; schemas = m.schemas; orders = m.orders; statistics = m.statistics; partition_statistics = m.partition_statistics; specs = m.specs }

abbrev pub with_refs : List NamedRef → Metadata → Metadata
with_refs l m = record { fields = m.fields; snapshots = m.snapshots; refs = l; snapshot_log = m.snapshot_log; metadata_log = m.metadata_log; schemas = m.schemas; orders = m.orders; statistics = m.statistics; partition_statistics = m.partition_statistics; specs = m.specs }

abbrev pub with_snapshot_log : List LogEntry → Metadata → Metadata
with_snapshot_log l m = record { fields = m.fields; snapshots = m.snapshots; refs = m.refs; snapshot_log = l; metadata_log = m.metadata_log; schemas = m.schemas; orders = m.orders; statistics = m.statistics; partition_statistics = m.partition_statistics; specs = m.specs }

abbrev pub with_metadata_log : List FileEntry → Metadata → Metadata
with_metadata_log l m = record { fields = m.fields; snapshots = m.snapshots; refs = m.refs; snapshot_log = m.snapshot_log; metadata_log = l; schemas = m.schemas; orders = m.orders; statistics = m.statistics; partition_statistics = m.partition_statistics; specs = m.specs }

abbrev pub with_schemas : List Schema → Metadata → Metadata
with_schemas l m = record { fields = m.fields; snapshots = m.snapshots; refs = m.refs; snapshot_log = m.snapshot_log; metadata_log = m.metadata_log; schemas = l; orders = m.orders; statistics = m.statistics; partition_statistics = m.partition_statistics; specs = m.specs }

abbrev pub with_orders : List SortOrder → Metadata → Metadata
with_orders l m = record { fields = m.fields; snapshots = m.snapshots; refs = m.refs; snapshot_log = m.snapshot_log; metadata_log = m.metadata_log; schemas = m.schemas; orders = l; statistics = m.statistics; partition_statistics = m.partition_statistics; specs = m.specs }

abbrev pub statistics_of : StatisticsTable → Metadata → List StatisticsFile
statistics_of Statistics m = m.statistics
statistics_of PartitionStatistics m = m.partition_statistics

abbrev pub with_statistics : StatisticsTable → List StatisticsFile → Metadata → Metadata
with_statistics Statistics l m = record { fields = m.fields; snapshots = m.snapshots; refs = m.refs; snapshot_log = m.snapshot_log; metadata_log = m.metadata_log; schemas = m.schemas; orders = m.orders; statistics = l; partition_statistics = m.partition_statistics; specs = m.specs }
with_statistics PartitionStatistics l m = record { fields = m.fields; snapshots = m.snapshots; refs = m.refs; snapshot_log = m.snapshot_log; metadata_log = m.metadata_log; schemas = m.schemas; orders = m.orders; statistics = m.statistics; partition_statistics = l; specs = m.specs }

abbrev pub with_specs : List PartitionSpec → Metadata → Metadata
with_specs l m = record { fields = m.fields; snapshots = m.snapshots; refs = m.refs; snapshot_log = m.snapshot_log; metadata_log = m.metadata_log; schemas = m.schemas; orders = m.orders; statistics = m.statistics; partition_statistics = m.partition_statistics; specs = l }

abbrev pub with_uuid : List ℕ → SingleFields → SingleFields
with_uuid uuid f = record { version = f.version; uuid = uuid; location = f.location; last_updated = f.last_updated; last_sequence = f.last_sequence; next_row = f.next_row; last_column = f.last_column; current = f.current; current_schema = f.current_schema; default_order = f.default_order; default_spec = f.default_spec; last_partition = f.last_partition }

abbrev pub with_version : ℕ → RowId → SingleFields → SingleFields
with_version v next f = record { version = v; uuid = f.uuid; location = f.location; last_updated = f.last_updated; last_sequence = f.last_sequence; next_row = next; last_column = f.last_column; current = f.current; current_schema = f.current_schema; default_order = f.default_order; default_spec = f.default_spec; last_partition = f.last_partition }

abbrev pub with_location : List ℕ → SingleFields → SingleFields
with_location location f = record { version = f.version; uuid = f.uuid; location = location; last_updated = f.last_updated; last_sequence = f.last_sequence; next_row = f.next_row; last_column = f.last_column; current = f.current; current_schema = f.current_schema; default_order = f.default_order; default_spec = f.default_spec; last_partition = f.last_partition }

abbrev pub with_last_updated : ℤ → SingleFields → SingleFields
with_last_updated time f = record { version = f.version; uuid = f.uuid; location = f.location; last_updated = time; last_sequence = f.last_sequence; next_row = f.next_row; last_column = f.last_column; current = f.current; current_schema = f.current_schema; default_order = f.default_order; default_spec = f.default_spec; last_partition = f.last_partition }

abbrev pub with_last_sequence : SequenceNumber → RowId → SingleFields → SingleFields
with_last_sequence sequence next f = record { version = f.version; uuid = f.uuid; location = f.location; last_updated = f.last_updated; last_sequence = sequence; next_row = next; last_column = f.last_column; current = f.current; current_schema = f.current_schema; default_order = f.default_order; default_spec = f.default_spec; last_partition = f.last_partition }

abbrev pub with_current : Option ℤ → SingleFields → SingleFields
with_current current f = record { version = f.version; uuid = f.uuid; location = f.location; last_updated = f.last_updated; last_sequence = f.last_sequence; next_row = f.next_row; last_column = f.last_column; current = current; current_schema = f.current_schema; default_order = f.default_order; default_spec = f.default_spec; last_partition = f.last_partition }

abbrev pub with_last_column : ℤ → SingleFields → SingleFields
with_last_column column f = record { version = f.version; uuid = f.uuid; location = f.location; last_updated = f.last_updated; last_sequence = f.last_sequence; next_row = f.next_row; last_column = column; current = f.current; current_schema = f.current_schema; default_order = f.default_order; default_spec = f.default_spec; last_partition = f.last_partition }

abbrev pub with_current_schema : ℤ → SingleFields → SingleFields
with_current_schema id f = record { version = f.version; uuid = f.uuid; location = f.location; last_updated = f.last_updated; last_sequence = f.last_sequence; next_row = f.next_row; last_column = f.last_column; current = f.current; current_schema = id; default_order = f.default_order; default_spec = f.default_spec; last_partition = f.last_partition }

abbrev pub with_default_order : ℤ → SingleFields → SingleFields
with_default_order id f = record { version = f.version; uuid = f.uuid; location = f.location; last_updated = f.last_updated; last_sequence = f.last_sequence; next_row = f.next_row; last_column = f.last_column; current = f.current; current_schema = f.current_schema; default_order = id; default_spec = f.default_spec; last_partition = f.last_partition }

abbrev pub with_default_spec : ℤ → SingleFields → SingleFields
with_default_spec id f = record { version = f.version; uuid = f.uuid; location = f.location; last_updated = f.last_updated; last_sequence = f.last_sequence; next_row = f.next_row; last_column = f.last_column; current = f.current; current_schema = f.current_schema; default_order = f.default_order; default_spec = id; last_partition = f.last_partition }

abbrev pub with_last_partition : ℤ → SingleFields → SingleFields
with_last_partition id f = record { version = f.version; uuid = f.uuid; location = f.location; last_updated = f.last_updated; last_sequence = f.last_sequence; next_row = f.next_row; last_column = f.last_column; current = f.current; current_schema = f.current_schema; default_order = f.default_order; default_spec = f.default_spec; last_partition = id }

abbrev pub with_metadata : Metadata → State → State
with_metadata m st = record { metadata = m; own = st.own; added = st.added; log = st.log }

abbrev pub with_own : Option ℤ → State → State
with_own t st = record { metadata = st.metadata; own = t; added = st.added; log = st.log }

abbrev pub with_added : LastAdded → State → State
with_added a st = record { metadata = st.metadata; own = st.own; added = a; log = st.log }

-- the update is logged
abbrev pub logged : Update → State → State
logged u st = record { metadata = st.metadata; own = st.own; added = st.added; log = st.log ++ (u ∷ []) }

-- the state with its single fields changed
abbrev pub on_fields : (SingleFields → SingleFields) → State → State
on_fields f st = with_metadata (with_fields (f st.metadata.fields) st.metadata) st

-- ---- "-1 stands for last added"

abbrev pub last_added : ℤ
last_added = negsuc 0
