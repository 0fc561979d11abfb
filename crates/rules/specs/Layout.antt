-- From records with slots to plain lists (`read`) and back (`laid`), defined once. What is read of a count is as many elements as the
-- count says: a slot that is not there reads as blank, so nothing is lost of a count above the capacity. Laying pads with blanks.
-- For well-formed metadata going there and back changes nothing (`relaid`, in proofs/Relaid).
use Rattle.std.specs.Prelude.{ℕ, ◌-◌, Bool, true, false, List, ◌++◌, map, ℤ, pos, length, take, replicate}
use Rattle.std.proofs.Math.Option.{Option, none, some}
use Rattle.records.specs.Blanks.{no_snapshot_id, no_snapshot, no_log_entry, no_ref, no_schema_field, no_schema, no_schema_id, no_sort_field, no_sort_order, no_partition_field, no_partition_spec, no_offered_id, no_spec_id, no_statistics_file, no_metadata_log_entry}
use Rattle.records.specs.declared.counters.RowId.{RowId}
use Rattle.records.specs.declared.counters.SnapshotId.{SnapshotId}
use Rattle.records.specs.declared.counters.SchemaId.{SchemaId}
use Rattle.records.specs.declared.counters.SpecId.{SpecId}
use Rattle.records.specs.declared.text.Name.{Name}
use Rattle.records.specs.declared.text.Text.{Text}
use Rattle.records.specs.declared.snapshot.Snapshot.{Snapshot}
use Rattle.records.specs.declared.snapshot.Snapshots.{Snapshots}
use Rattle.records.specs.declared.snapshot.SnapshotIds.{SnapshotIds}
use Rattle.records.specs.declared.snapshot.SnapshotLogEntry.{SnapshotLogEntry}
use Rattle.records.specs.declared.snapshot.SnapshotLog.{SnapshotLog}
use Rattle.records.specs.declared.reference.SnapshotReference.{SnapshotReference}
use Rattle.records.specs.declared.reference.NamedRef.{NamedRef}
use Rattle.records.specs.declared.reference.Refs.{Refs}
use Rattle.records.specs.declared.schema.SchemaField.{SchemaField}
use Rattle.records.specs.declared.schema.Schema.{Schema}
use Rattle.records.specs.declared.schema.SchemaOffer.{SchemaOffer}
use Rattle.records.specs.declared.schema.Schemas.{Schemas}
use Rattle.records.specs.declared.schema.SchemaIds.{SchemaIds}
use Rattle.records.specs.declared.sort_order.SortField.{SortField}
use Rattle.records.specs.declared.sort_order.SortOrder.{SortOrder}
use Rattle.records.specs.declared.sort_order.SortOrders.{SortOrders}
use Rattle.records.specs.declared.partition.PartitionField.{PartitionField}
use Rattle.records.specs.declared.partition.PartitionSpec.{PartitionSpec}
use Rattle.records.specs.declared.partition.PartitionSpecs.{PartitionSpecs}
use Rattle.records.specs.declared.partition.OfferedId.{OfferedId}
use Rattle.records.specs.declared.partition.SpecOffer.{SpecOffer}
use Rattle.records.specs.declared.partition.SpecIds.{SpecIds}
use Rattle.records.specs.declared.statistics.StatisticsFile.{StatisticsFile}
use Rattle.records.specs.declared.statistics.StatisticsFiles.{StatisticsFiles}
use Rattle.records.specs.declared.metadata.MetadataLogEntry.{MetadataLogEntry}
use Rattle.records.specs.declared.metadata.MetadataLog.{MetadataLog}
use Rattle.records.specs.declared.metadata.SingleFields.{SingleFields}
use Rattle.records.specs.declared.metadata.TableMetadata.{TableMetadata}
use Rattle.rules.specs.Words.{is_some, or_else}
use Rattle.rules.specs.Capacities.{snapshot_room, ref_room, snapshot_log_room, metadata_log_room, schema_room, schema_field_room, sort_order_room, sort_field_room, spec_room, partition_field_room, statistics_room, removal_room, name_room, text_room}
use Rattle.rules.specs.Register as plain

-- ---- slots and flags

module _ {A : Type 0} where
  -- the first n slots; one that is not there reads as blank
  abbrev pub counted : A → List A → ℕ → List A
  counted blank items n = take n items ++ replicate (n - length items) blank

  -- the list, and blanks up to so many slots
  abbrev pub pad : ℕ → A → List A → List A
  pad room blank l = l ++ replicate (room - length l) blank

  -- a value behind a flag
  abbrev pub given : Bool → A → Option A
  given true a = some a
  given false a = none

-- ---- texts

abbrev pub read_name : Name → List ℕ
read_name t = counted 0 t.bytes t.len

unfoldable pub laid_name : List ℕ → Name
laid_name l = record { bytes = pad name_room 0 l; len = length l }

abbrev pub read_text : Text → List ℕ
read_text t = counted 0 t.bytes t.len

unfoldable pub laid_text : List ℕ → Text
laid_text l = record { bytes = pad text_room 0 l; len = length l }

-- ---- snapshots

abbrev pub read_snapshot : Snapshot → plain.Snapshot
read_snapshot s =
    record {
      id = s.snapshot_id.0;
      parent = given s.has_parent s.parent_snapshot_id.0;
      sequence = s.sequence_number;
      time = s.timestamp_ms.0;
      rows = given s.has_rows (record { first = s.first_row_id; added = s.added_rows });
    }

abbrev pub first_row : Option plain.RowRange → RowId
first_row none = record { 0 = 0 }
first_row (some r) = r.first

abbrev pub added_rows : Option plain.RowRange → ℕ
added_rows none = 0
added_rows (some r) = r.added

unfoldable pub laid_snapshot : plain.Snapshot → Snapshot
laid_snapshot s =
    record {
      snapshot_id = record { 0 = s.id };
      has_parent = is_some s.parent;
      parent_snapshot_id = record { 0 = or_else s.parent (pos 0) };
      sequence_number = s.sequence;
      timestamp_ms = record { 0 = s.time };
      has_rows = is_some s.rows;
      first_row_id = first_row s.rows;
      added_rows = added_rows s.rows;
    }

abbrev pub read_snapshots : Snapshots → List plain.Snapshot
read_snapshots t = map read_snapshot (counted no_snapshot t.items t.count)

unfoldable pub laid_snapshots : List plain.Snapshot → Snapshots
laid_snapshots l = record { items = pad snapshot_room no_snapshot (map laid_snapshot l); count = length l }

abbrev pub read_snapshot_ids : SnapshotIds → List ℤ
read_snapshot_ids t = map (λ (i : SnapshotId). i.0) (counted no_snapshot_id t.items t.count)

unfoldable pub laid_snapshot_ids : List ℤ → SnapshotIds
laid_snapshot_ids l = record { items = pad removal_room no_snapshot_id (map (λ (z : ℤ). record { 0 = z }) l); count = length l }

abbrev pub read_log_entry : SnapshotLogEntry → plain.LogEntry
read_log_entry e = record { snapshot = e.snapshot_id.0; time = e.timestamp_ms.0 }

abbrev pub laid_log_entry : plain.LogEntry → SnapshotLogEntry
laid_log_entry e = record { snapshot_id = record { 0 = e.snapshot }; timestamp_ms = record { 0 = e.time } }

abbrev pub read_snapshot_log : SnapshotLog → List plain.LogEntry
read_snapshot_log t = map read_log_entry (counted no_log_entry t.items t.count)

unfoldable pub laid_snapshot_log : List plain.LogEntry → SnapshotLog
laid_snapshot_log l = record { items = pad snapshot_log_room no_log_entry (map laid_log_entry l); count = length l }

-- ---- refs

abbrev pub read_reference : SnapshotReference → plain.Reference
read_reference r =
    record {
      snapshot = r.snapshot_id.0;
      kind = r.kind;
      min_snapshots = given r.has_min r.min_snapshots_to_keep.0;
      max_snapshot_age = given r.has_age r.max_snapshot_age_ms.0;
      max_ref_age = given r.has_ref_age r.max_ref_age_ms.0;
    }

unfoldable pub laid_reference : plain.Reference → SnapshotReference
laid_reference r =
    record {
      snapshot_id = record { 0 = r.snapshot };
      kind = r.kind;
      has_min = is_some r.min_snapshots;
      min_snapshots_to_keep = record { 0 = or_else r.min_snapshots (pos 0) };
      has_age = is_some r.max_snapshot_age;
      max_snapshot_age_ms = record { 0 = or_else r.max_snapshot_age (pos 0) };
      has_ref_age = is_some r.max_ref_age;
      max_ref_age_ms = record { 0 = or_else r.max_ref_age (pos 0) };
    }

abbrev pub read_ref : NamedRef → plain.NamedRef
read_ref r = record { name = read_name r.name; owner = r.owner; reference = read_reference r.reference }

unfoldable pub laid_ref : plain.NamedRef → NamedRef
laid_ref r = record { name = laid_name r.name; reference = laid_reference r.reference; owner = r.owner }

abbrev pub read_refs : Refs → List plain.NamedRef
read_refs t = map read_ref (counted no_ref t.items t.count)

unfoldable pub laid_refs : List plain.NamedRef → Refs
laid_refs l = record { items = pad ref_room no_ref (map laid_ref l); count = length l }

-- ---- schemas

abbrev pub read_schema_field : SchemaField → plain.SchemaField
read_schema_field f = record { id = f.id.0; field_type = f.field_type; name = read_name f.name }

unfoldable pub laid_schema_field : plain.SchemaField → SchemaField
laid_schema_field f = record { id = record { 0 = f.id }; field_type = f.field_type; name = laid_name f.name }

abbrev pub read_schema : Schema → plain.Schema
read_schema s = record { id = s.schema_id.0; fields = map read_schema_field (counted no_schema_field s.items s.count) }

unfoldable pub laid_schema : plain.Schema → Schema
laid_schema s = record { schema_id = record { 0 = s.id }; items = pad schema_field_room no_schema_field (map laid_schema_field s.fields); count = length s.fields }

abbrev pub read_schemas : Schemas → List plain.Schema
read_schemas t = map read_schema (counted no_schema t.items t.count)

unfoldable pub laid_schemas : List plain.Schema → Schemas
laid_schemas l = record { items = pad schema_room no_schema (map laid_schema l); count = length l }

abbrev pub read_schema_offer : SchemaOffer → plain.SchemaOffer
read_schema_offer o = record { id = o.schema_id.0; at = o.at; count = o.count }

abbrev pub laid_schema_offer : plain.SchemaOffer → SchemaOffer
laid_schema_offer o = record { schema_id = record { 0 = o.id }; at = o.at; count = o.count }

abbrev pub read_schema_ids : SchemaIds → List ℤ
read_schema_ids t = map (λ (i : SchemaId). i.0) (counted no_schema_id t.items t.count)

unfoldable pub laid_schema_ids : List ℤ → SchemaIds
laid_schema_ids l = record { items = pad removal_room no_schema_id (map (λ (z : ℤ). record { 0 = z }) l); count = length l }

-- ---- sort orders

abbrev pub read_sort_field : SortField → plain.SortField
read_sort_field f = record { source = f.source_id.0; direction = f.direction; nulls = f.null_order }

abbrev pub laid_sort_field : plain.SortField → SortField
laid_sort_field f = record { source_id = record { 0 = f.source }; direction = f.direction; null_order = f.nulls }

abbrev pub read_sort_order : SortOrder → plain.SortOrder
read_sort_order o = record { id = o.order_id.0; fields = map read_sort_field (counted no_sort_field o.items o.count) }

unfoldable pub laid_sort_order : plain.SortOrder → SortOrder
laid_sort_order o = record { order_id = record { 0 = o.id }; items = pad sort_field_room no_sort_field (map laid_sort_field o.fields); count = length o.fields }

abbrev pub read_sort_orders : SortOrders → List plain.SortOrder
read_sort_orders t = map read_sort_order (counted no_sort_order t.items t.count)

unfoldable pub laid_sort_orders : List plain.SortOrder → SortOrders
laid_sort_orders l = record { items = pad sort_order_room no_sort_order (map laid_sort_order l); count = length l }

-- ---- partition specs

abbrev pub read_partition_field : PartitionField → plain.PartitionField
read_partition_field f =
    record {
      source = f.source_id.0;
      id = given f.has_id f.field_id.0;
      transform = f.transform;
      buckets = f.buckets.0;
      name = read_name f.name;
    }

unfoldable pub laid_partition_field : plain.PartitionField → PartitionField
laid_partition_field f =
    record {
      source_id = record { 0 = f.source };
      field_id = record { 0 = or_else f.id (pos 0) };
      buckets = record { 0 = f.buckets };
      transform = f.transform;
      has_id = is_some f.id;
      name = laid_name f.name;
    }

abbrev pub read_partition_spec : PartitionSpec → plain.PartitionSpec
read_partition_spec s = record { id = s.spec_id.0; fields = map read_partition_field (counted no_partition_field s.items s.count) }

unfoldable pub laid_partition_spec : plain.PartitionSpec → PartitionSpec
laid_partition_spec s = record { spec_id = record { 0 = s.id }; items = pad partition_field_room no_partition_field (map laid_partition_field s.fields); count = length s.fields }

abbrev pub read_partition_specs : PartitionSpecs → List plain.PartitionSpec
read_partition_specs t = map read_partition_spec (counted no_partition_spec t.items t.count)

unfoldable pub laid_partition_specs : List plain.PartitionSpec → PartitionSpecs
laid_partition_specs l = record { items = pad spec_room no_partition_spec (map laid_partition_spec l); count = length l }

abbrev pub read_offered_id : OfferedId → Option ℤ
read_offered_id i = given i.given i.id.0

abbrev pub laid_offered_id : Option ℤ → OfferedId
laid_offered_id id = record { given = is_some id; id = record { 0 = or_else id (pos 0) } }

abbrev pub read_spec_offer : SpecOffer → plain.SpecOffer
read_spec_offer o = record { id = o.spec_id.0; at = o.at; ids = map read_offered_id (counted no_offered_id o.ids o.count) }

unfoldable pub laid_spec_offer : plain.SpecOffer → SpecOffer
laid_spec_offer o = record { spec_id = record { 0 = o.id }; at = o.at; count = length o.ids; ids = pad partition_field_room no_offered_id (map laid_offered_id o.ids) }

abbrev pub read_spec_ids : SpecIds → List ℤ
read_spec_ids t = map (λ (i : SpecId). i.0) (counted no_spec_id t.items t.count)

unfoldable pub laid_spec_ids : List ℤ → SpecIds
laid_spec_ids l = record { items = pad removal_room no_spec_id (map (λ (z : ℤ). record { 0 = z }) l); count = length l }

-- ---- statistics files

abbrev pub read_statistics_file : StatisticsFile → plain.StatisticsFile
read_statistics_file f = record { snapshot = f.snapshot_id.0; path = read_text f.statistics_path; size = f.file_size_in_bytes.0 }

unfoldable pub laid_statistics_file : plain.StatisticsFile → StatisticsFile
laid_statistics_file f = record { snapshot_id = record { 0 = f.snapshot }; statistics_path = laid_text f.path; file_size_in_bytes = record { 0 = f.size } }

abbrev pub read_statistics : StatisticsFiles → List plain.StatisticsFile
read_statistics t = map read_statistics_file (counted no_statistics_file t.items t.count)

unfoldable pub laid_statistics : List plain.StatisticsFile → StatisticsFiles
laid_statistics l = record { items = pad statistics_room no_statistics_file (map laid_statistics_file l); count = length l }

-- ---- metadata

abbrev pub read_metadata_log_entry : MetadataLogEntry → plain.FileEntry
read_metadata_log_entry e = record { file = read_text e.metadata_file; time = e.timestamp_ms.0 }

unfoldable pub laid_metadata_log_entry : plain.FileEntry → MetadataLogEntry
laid_metadata_log_entry e = record { metadata_file = laid_text e.file; timestamp_ms = record { 0 = e.time } }

abbrev pub read_metadata_log : MetadataLog → List plain.FileEntry
read_metadata_log t = map read_metadata_log_entry (counted no_metadata_log_entry t.items t.count)

unfoldable pub laid_metadata_log : List plain.FileEntry → MetadataLog
laid_metadata_log l = record { items = pad metadata_log_room no_metadata_log_entry (map laid_metadata_log_entry l); count = length l }

abbrev pub read_fields : SingleFields → plain.SingleFields
read_fields f =
    record {
      version = f.format_version;
      uuid = f.table_uuid;
      location = read_text f.location;
      last_updated = f.last_updated_ms.0;
      last_sequence = f.last_sequence_number;
      next_row = f.next_row_id;
      last_column = f.last_column_id.0;
      current = given f.has_current f.current_snapshot_id.0;
      current_schema = f.current_schema_id.0;
      default_order = f.default_sort_order_id.0;
      default_spec = f.default_spec_id.0;
      last_partition = f.last_partition_id.0;
    }

unfoldable pub laid_fields : plain.SingleFields → SingleFields
laid_fields f =
    record {
      format_version = f.version;
      table_uuid = f.uuid;
      location = laid_text f.location;
      last_updated_ms = record { 0 = f.last_updated };
      last_sequence_number = f.last_sequence;
      next_row_id = f.next_row;
      last_column_id = record { 0 = f.last_column };
      has_current = is_some f.current;
      current_snapshot_id = record { 0 = or_else f.current (pos 0) };
      current_schema_id = record { 0 = f.current_schema };
      default_sort_order_id = record { 0 = f.default_order };
      default_spec_id = record { 0 = f.default_spec };
      last_partition_id = record { 0 = f.last_partition };
    }

abbrev pub read_metadata : TableMetadata → plain.Metadata
read_metadata m =
    record {
      fields = read_fields m.fields;
      snapshots = read_snapshots m.snapshots;
      refs = read_refs m.refs;
      snapshot_log = read_snapshot_log m.snapshot_log;
      metadata_log = read_metadata_log m.metadata_log;
      schemas = read_schemas m.schemas;
      orders = read_sort_orders m.sort_orders;
      statistics = read_statistics m.statistics;
      partition_statistics = read_statistics m.partition_statistics;
      specs = read_partition_specs m.partition_specs;
    }

unfoldable pub laid_metadata : plain.Metadata → TableMetadata
laid_metadata m =
    record {
      fields = laid_fields m.fields;
      snapshots = laid_snapshots m.snapshots;
      refs = laid_refs m.refs;
      snapshot_log = laid_snapshot_log m.snapshot_log;
      metadata_log = laid_metadata_log m.metadata_log;
      schemas = laid_schemas m.schemas;
      sort_orders = laid_sort_orders m.orders;
      statistics = laid_statistics m.statistics;
      partition_statistics = laid_statistics m.partition_statistics;
      partition_specs = laid_partition_specs m.specs;
    }
