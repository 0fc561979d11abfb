-- What of a record is not used is blank: document 01, "Unused slots and name bytes are zero or blank". An array's slots past its count
-- are blank, and a number behind a flag that is not set is 0. (That an array has its slots is so of every value of the type.)
use Rattle.std.specs.Prelude.{ℕ, Bool, not, ◌&&◌, ◌||◌, List, eqb, ℤ, pos, length, take, drop}
use Rattle.records.specs.declared.counters.SnapshotId.{SnapshotId}
use Rattle.records.specs.declared.counters.SchemaId.{SchemaId}
use Rattle.records.specs.declared.counters.SpecId.{SpecId}
use Rattle.records.specs.declared.text.Name.{Name}
use Rattle.records.specs.declared.text.Text.{Text}
use Rattle.records.specs.declared.snapshot.Snapshot.{Snapshot}
use Rattle.records.specs.declared.snapshot.Snapshots.{Snapshots}
use Rattle.records.specs.declared.snapshot.SnapshotIds.{SnapshotIds}
use Rattle.records.specs.declared.snapshot.SnapshotLogEntry.{SnapshotLogEntry}
use Rattle.records.specs.declared.snapshot.SnapshotLog.{SnapshotLog}
use Rattle.records.specs.declared.reference.SnapshotReference.{SnapshotReference}
use Rattle.records.specs.declared.reference.NamedRef.{NamedRef}
use Rattle.records.specs.declared.reference.Refs.{Refs}
use Rattle.records.specs.declared.schema.SchemaField.{SchemaField}
use Rattle.records.specs.declared.schema.Schema.{Schema}
use Rattle.records.specs.declared.schema.Schemas.{Schemas}
use Rattle.records.specs.declared.schema.SchemaOffer.{SchemaOffer}
use Rattle.records.specs.declared.schema.SchemaIds.{SchemaIds}
use Rattle.records.specs.declared.sort_order.SortField.{SortField}
use Rattle.records.specs.declared.sort_order.SortOrder.{SortOrder}
use Rattle.records.specs.declared.sort_order.SortOrders.{SortOrders}
use Rattle.records.specs.declared.partition.PartitionField.{PartitionField}
use Rattle.records.specs.declared.partition.PartitionSpec.{PartitionSpec}
use Rattle.records.specs.declared.partition.PartitionSpecs.{PartitionSpecs}
use Rattle.records.specs.declared.partition.OfferedId.{OfferedId}
use Rattle.records.specs.declared.partition.SpecOffer.{SpecOffer}
use Rattle.records.specs.declared.partition.SpecIds.{SpecIds}
use Rattle.records.specs.declared.statistics.StatisticsFile.{StatisticsFile}
use Rattle.records.specs.declared.statistics.StatisticsFiles.{StatisticsFiles}
use Rattle.records.specs.declared.metadata.MetadataLogEntry.{MetadataLogEntry}
use Rattle.records.specs.declared.metadata.MetadataLog.{MetadataLog}
use Rattle.records.specs.declared.metadata.SingleFields.{SingleFields}
use Rattle.records.specs.declared.metadata.TableMetadata.{TableMetadata}
use Rattle.rules.specs.Words.{eq_z, all}
use Rattle.rules.specs.Capacities.{snapshot_room, ref_room, snapshot_log_room, metadata_log_room, schema_room, schema_field_room, sort_order_room, sort_field_room, spec_room, partition_field_room, statistics_room, removal_room, name_room, text_room}

-- ---- numbers and slots

abbrev pub is_zero : ℕ → Bool
is_zero n = eqb n 0

abbrev pub is_zero_z : ℤ → Bool
is_zero_z z = eq_z z (pos 0)

-- an array of so many slots, of which those past the first n are blank
abbrev pub rest_blank : {A : Type 0} → ℕ → (A → Bool) → List A → ℕ → Bool
rest_blank room isBlank items n = eqb (length items) room && all isBlank (drop n items)

-- an array of so many slots, the first n of them tidy and the rest blank
abbrev pub tidy_slots : {A : Type 0} → ℕ → (A → Bool) → (A → Bool) → List A → ℕ → Bool
tidy_slots room isTidy isBlank items n = rest_blank room isBlank items n && all isTidy (take n items)

-- no slot used: as many as there are, and all blank
abbrev pub none_used : {A : Type 0} → ℕ → (A → Bool) → List A → ℕ → Bool
none_used room isBlank items n = is_zero n && rest_blank room isBlank items 0

-- ---- texts

abbrev pub is_blank_uuid : List ℕ → Bool
is_blank_uuid uuid = rest_blank 16 is_zero uuid 0

abbrev pub is_tidy_name : Name → Bool
is_tidy_name t = rest_blank name_room is_zero t.bytes t.len

abbrev pub is_blank_name : Name → Bool
is_blank_name t = none_used name_room is_zero t.bytes t.len

abbrev pub is_tidy_text : Text → Bool
is_tidy_text t = rest_blank text_room is_zero t.bytes t.len

abbrev pub is_blank_text : Text → Bool
is_blank_text t = none_used text_room is_zero t.bytes t.len

-- ---- snapshots

unfoldable pub is_tidy_snapshot : Snapshot → Bool
is_tidy_snapshot s =
    (s.has_parent || is_zero_z s.parent_snapshot_id.0)
    && (s.has_rows || (is_zero s.first_row_id.0 && is_zero s.added_rows))

unfoldable pub is_blank_snapshot : Snapshot → Bool
is_blank_snapshot s =
    is_zero_z s.snapshot_id.0
    && not s.has_parent
    && is_zero_z s.parent_snapshot_id.0
    && is_zero_z s.sequence_number.0
    && is_zero_z s.timestamp_ms.0
    && not s.has_rows
    && is_zero s.first_row_id.0
    && is_zero s.added_rows

unfoldable pub is_tidy_snapshots : Snapshots → Bool
is_tidy_snapshots t = tidy_slots snapshot_room is_tidy_snapshot is_blank_snapshot t.items t.count

abbrev pub is_blank_snapshot_id : SnapshotId → Bool
is_blank_snapshot_id i = is_zero_z i.0

unfoldable pub is_tidy_snapshot_ids : SnapshotIds → Bool
is_tidy_snapshot_ids t = rest_blank removal_room is_blank_snapshot_id t.items t.count

unfoldable pub is_blank_snapshot_ids : SnapshotIds → Bool
is_blank_snapshot_ids t = none_used removal_room is_blank_snapshot_id t.items t.count

unfoldable pub is_blank_log_entry : SnapshotLogEntry → Bool
is_blank_log_entry e = is_zero_z e.snapshot_id.0 && is_zero_z e.timestamp_ms.0

unfoldable pub is_tidy_snapshot_log : SnapshotLog → Bool
is_tidy_snapshot_log t = rest_blank snapshot_log_room is_blank_log_entry t.items t.count

-- ---- refs

unfoldable pub is_tidy_reference : SnapshotReference → Bool
is_tidy_reference r =
    (r.has_min || is_zero_z r.min_snapshots_to_keep.0)
    && (r.has_age || is_zero_z r.max_snapshot_age_ms.0)
    && (r.has_ref_age || is_zero_z r.max_ref_age_ms.0)

unfoldable pub is_blank_reference : SnapshotReference → Bool
is_blank_reference r =
    is_zero_z r.snapshot_id.0
    && is_zero r.kind
    && not r.has_min
    && is_zero_z r.min_snapshots_to_keep.0
    && not r.has_age
    && is_zero_z r.max_snapshot_age_ms.0
    && not r.has_ref_age
    && is_zero_z r.max_ref_age_ms.0

unfoldable pub is_tidy_ref : NamedRef → Bool
is_tidy_ref r = is_tidy_name r.name && is_tidy_reference r.reference

unfoldable pub is_blank_ref : NamedRef → Bool
is_blank_ref r = is_blank_name r.name && is_blank_reference r.reference && is_zero r.owner

unfoldable pub is_tidy_refs : Refs → Bool
is_tidy_refs t = tidy_slots ref_room is_tidy_ref is_blank_ref t.items t.count

-- ---- schemas

unfoldable pub is_tidy_schema_field : SchemaField → Bool
is_tidy_schema_field f = is_tidy_name f.name

unfoldable pub is_blank_schema_field : SchemaField → Bool
is_blank_schema_field f = is_zero_z f.id.0 && is_zero f.field_type && is_blank_name f.name

unfoldable pub is_tidy_schema : Schema → Bool
is_tidy_schema s = tidy_slots schema_field_room is_tidy_schema_field is_blank_schema_field s.items s.count

unfoldable pub is_blank_schema : Schema → Bool
is_blank_schema s = is_zero_z s.schema_id.0 && none_used schema_field_room is_blank_schema_field s.items s.count

unfoldable pub is_tidy_schemas : Schemas → Bool
is_tidy_schemas t = tidy_slots schema_room is_tidy_schema is_blank_schema t.items t.count

abbrev pub is_blank_schema_offer : SchemaOffer → Bool
is_blank_schema_offer o = is_zero_z o.schema_id.0 && is_zero o.at && is_zero o.count

abbrev pub is_blank_schema_id : SchemaId → Bool
is_blank_schema_id i = is_zero_z i.0

unfoldable pub is_tidy_schema_ids : SchemaIds → Bool
is_tidy_schema_ids t = rest_blank removal_room is_blank_schema_id t.items t.count

unfoldable pub is_blank_schema_ids : SchemaIds → Bool
is_blank_schema_ids t = none_used removal_room is_blank_schema_id t.items t.count

-- ---- sort orders

unfoldable pub is_blank_sort_field : SortField → Bool
is_blank_sort_field f = is_zero_z f.source_id.0 && is_zero f.direction && is_zero f.null_order

unfoldable pub is_tidy_sort_order : SortOrder → Bool
is_tidy_sort_order o = rest_blank sort_field_room is_blank_sort_field o.items o.count

unfoldable pub is_blank_sort_order : SortOrder → Bool
is_blank_sort_order o = is_zero_z o.order_id.0 && none_used sort_field_room is_blank_sort_field o.items o.count

unfoldable pub is_tidy_sort_orders : SortOrders → Bool
is_tidy_sort_orders t = tidy_slots sort_order_room is_tidy_sort_order is_blank_sort_order t.items t.count

-- ---- partition specs

unfoldable pub is_tidy_partition_field : PartitionField → Bool
is_tidy_partition_field f = (f.has_id || is_zero_z f.field_id.0) && is_tidy_name f.name

unfoldable pub is_blank_partition_field : PartitionField → Bool
is_blank_partition_field f =
    is_zero_z f.source_id.0
    && is_zero_z f.field_id.0
    && is_zero_z f.buckets.0
    && is_zero f.transform
    && not f.has_id
    && is_blank_name f.name

unfoldable pub is_tidy_partition_spec : PartitionSpec → Bool
is_tidy_partition_spec s = tidy_slots partition_field_room is_tidy_partition_field is_blank_partition_field s.items s.count

unfoldable pub is_blank_partition_spec : PartitionSpec → Bool
is_blank_partition_spec s = is_zero_z s.spec_id.0 && none_used partition_field_room is_blank_partition_field s.items s.count

unfoldable pub is_tidy_partition_specs : PartitionSpecs → Bool
is_tidy_partition_specs t = tidy_slots spec_room is_tidy_partition_spec is_blank_partition_spec t.items t.count

abbrev pub is_tidy_offered_id : OfferedId → Bool
is_tidy_offered_id i = i.given || is_zero_z i.id.0

abbrev pub is_blank_offered_id : OfferedId → Bool
is_blank_offered_id i = not i.given && is_zero_z i.id.0

unfoldable pub is_tidy_spec_offer : SpecOffer → Bool
is_tidy_spec_offer o = tidy_slots partition_field_room is_tidy_offered_id is_blank_offered_id o.ids o.count

unfoldable pub is_blank_spec_offer : SpecOffer → Bool
is_blank_spec_offer o = is_zero_z o.spec_id.0 && is_zero o.at && none_used partition_field_room is_blank_offered_id o.ids o.count

abbrev pub is_blank_spec_id : SpecId → Bool
is_blank_spec_id i = is_zero_z i.0

unfoldable pub is_tidy_spec_ids : SpecIds → Bool
is_tidy_spec_ids t = rest_blank removal_room is_blank_spec_id t.items t.count

unfoldable pub is_blank_spec_ids : SpecIds → Bool
is_blank_spec_ids t = none_used removal_room is_blank_spec_id t.items t.count

-- ---- statistics files

unfoldable pub is_tidy_statistics_file : StatisticsFile → Bool
is_tidy_statistics_file f = is_tidy_text f.statistics_path

unfoldable pub is_blank_statistics_file : StatisticsFile → Bool
is_blank_statistics_file f = is_zero_z f.snapshot_id.0 && is_blank_text f.statistics_path && is_zero_z f.file_size_in_bytes.0

unfoldable pub is_tidy_statistics : StatisticsFiles → Bool
is_tidy_statistics t = tidy_slots statistics_room is_tidy_statistics_file is_blank_statistics_file t.items t.count

-- ---- metadata

unfoldable pub is_tidy_metadata_log_entry : MetadataLogEntry → Bool
is_tidy_metadata_log_entry e = is_tidy_text e.metadata_file

unfoldable pub is_blank_metadata_log_entry : MetadataLogEntry → Bool
is_blank_metadata_log_entry e = is_blank_text e.metadata_file && is_zero_z e.timestamp_ms.0

-- "blank slots follow the counted ones"
unfoldable pub is_tidy_metadata_log : MetadataLog → Bool
is_tidy_metadata_log t = tidy_slots metadata_log_room is_tidy_metadata_log_entry is_blank_metadata_log_entry t.items t.count

unfoldable pub is_tidy_fields : SingleFields → Bool
is_tidy_fields f = is_tidy_text f.location && (f.has_current || is_zero_z f.current_snapshot_id.0)

unfoldable pub is_tidy_metadata : TableMetadata → Bool
is_tidy_metadata m =
    is_tidy_snapshots m.snapshots
    && is_tidy_refs m.refs
    && is_tidy_snapshot_log m.snapshot_log
    && is_tidy_metadata_log m.metadata_log
    && is_tidy_schemas m.schemas
    && is_tidy_sort_orders m.sort_orders
    && is_tidy_statistics m.statistics
    && is_tidy_statistics m.partition_statistics
    && is_tidy_partition_specs m.partition_specs
    && is_tidy_fields m.fields
