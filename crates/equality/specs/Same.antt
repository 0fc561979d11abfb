-- Two records are the same if each of their fields is: also behind a flag that is not set, and in slots past a count.
use Rattle.std.specs.Prelude.{Bool, ◌&&◌, eqb}
use Rattle.std.specs.Bool.{beq}
use Rattle.rules.specs.Words.{eq_z, same_list, same_bytes}
use Rattle.records.specs.declared.text.Name.{Name}
use Rattle.records.specs.declared.text.Text.{Text}
use Rattle.records.specs.declared.snapshot.Snapshot.{Snapshot}
use Rattle.records.specs.declared.snapshot.SnapshotLogEntry.{SnapshotLogEntry}
use Rattle.records.specs.declared.reference.SnapshotReference.{SnapshotReference}
use Rattle.records.specs.declared.reference.NamedRef.{NamedRef}
use Rattle.records.specs.declared.schema.SchemaField.{SchemaField}
use Rattle.records.specs.declared.schema.Schema.{Schema}
use Rattle.records.specs.declared.sort_order.SortField.{SortField}
use Rattle.records.specs.declared.sort_order.SortOrder.{SortOrder}
use Rattle.records.specs.declared.partition.PartitionField.{PartitionField}
use Rattle.records.specs.declared.partition.PartitionSpec.{PartitionSpec}
use Rattle.records.specs.declared.statistics.StatisticsFile.{StatisticsFile}
use Rattle.records.specs.declared.metadata.MetadataLogEntry.{MetadataLogEntry}

-- ---- texts

unfoldable pub same_name : Name → Name → Bool
same_name a b = eqb a.len b.len && same_bytes a.bytes b.bytes

unfoldable pub same_text : Text → Text → Bool
same_text a b = eqb a.len b.len && same_bytes a.bytes b.bytes

-- ---- snapshots

unfoldable pub same_snapshot : Snapshot → Snapshot → Bool
same_snapshot a b =
    eq_z a.snapshot_id.0 b.snapshot_id.0
    && beq a.has_parent b.has_parent
    && eq_z a.parent_snapshot_id.0 b.parent_snapshot_id.0
    && eq_z a.sequence_number.0 b.sequence_number.0
    && eq_z a.timestamp_ms.0 b.timestamp_ms.0
    && beq a.has_rows b.has_rows
    && eqb a.first_row_id.0 b.first_row_id.0
    && eqb a.added_rows b.added_rows

unfoldable pub same_log_entry : SnapshotLogEntry → SnapshotLogEntry → Bool
same_log_entry a b = eq_z a.snapshot_id.0 b.snapshot_id.0 && eq_z a.timestamp_ms.0 b.timestamp_ms.0

-- ---- refs

unfoldable pub same_reference : SnapshotReference → SnapshotReference → Bool
same_reference a b =
    eq_z a.snapshot_id.0 b.snapshot_id.0
    && eqb a.kind b.kind
    && beq a.has_min b.has_min
    && eq_z a.min_snapshots_to_keep.0 b.min_snapshots_to_keep.0
    && beq a.has_age b.has_age
    && eq_z a.max_snapshot_age_ms.0 b.max_snapshot_age_ms.0
    && beq a.has_ref_age b.has_ref_age
    && eq_z a.max_ref_age_ms.0 b.max_ref_age_ms.0

unfoldable pub same_ref : NamedRef → NamedRef → Bool
same_ref a b = same_name a.name b.name && same_reference a.reference b.reference && eqb a.owner b.owner

-- ---- the metadata log

unfoldable pub same_file_entry : MetadataLogEntry → MetadataLogEntry → Bool
same_file_entry a b = same_text a.metadata_file b.metadata_file && eq_z a.timestamp_ms.0 b.timestamp_ms.0

-- ---- schemas and sort orders

unfoldable pub same_schema_field : SchemaField → SchemaField → Bool
same_schema_field a b = eq_z a.id.0 b.id.0 && eqb a.field_type b.field_type && same_name a.name b.name

unfoldable pub same_schema : Schema → Schema → Bool
same_schema a b = eq_z a.schema_id.0 b.schema_id.0 && eqb a.count b.count && same_list same_schema_field a.items b.items

unfoldable pub same_sort_field : SortField → SortField → Bool
same_sort_field a b =
    eq_z a.source_id.0 b.source_id.0
    && eqb a.direction b.direction
    && eqb a.null_order b.null_order

unfoldable pub same_sort_order : SortOrder → SortOrder → Bool
same_sort_order a b = eq_z a.order_id.0 b.order_id.0 && eqb a.count b.count && same_list same_sort_field a.items b.items

-- ---- partition specs

unfoldable pub same_partition_field : PartitionField → PartitionField → Bool
same_partition_field a b =
    eq_z a.source_id.0 b.source_id.0
    && eq_z a.field_id.0 b.field_id.0
    && eq_z a.buckets.0 b.buckets.0
    && eqb a.transform b.transform
    && beq a.has_id b.has_id
    && same_name a.name b.name

unfoldable pub same_partition_spec : PartitionSpec → PartitionSpec → Bool
same_partition_spec a b = eq_z a.spec_id.0 b.spec_id.0 && eqb a.count b.count && same_list same_partition_field a.items b.items

-- the same but for the id: what the rules compare of two fields (`same_partition`), here as they are laid out
unfoldable pub alike_partition : PartitionField → PartitionField → Bool
alike_partition a b =
    eq_z a.source_id.0 b.source_id.0
    && (eqb a.transform b.transform && eq_z a.buckets.0 b.buckets.0)
    && same_name a.name b.name

-- ---- statistics files

unfoldable pub same_statistics_file : StatisticsFile → StatisticsFile → Bool
same_statistics_file a b =
    eq_z a.snapshot_id.0 b.snapshot_id.0
    && same_text a.statistics_path b.statistics_path
    && eq_z a.file_size_in_bytes.0 b.file_size_in_bytes.0
