-- The blank of every record: no bytes, no number but 0, no flag set, nothing counted.
use Rattle.std.specs.Prelude.{false, pos, replicate}
use Rattle.records.specs.declared.counters.SnapshotId.{SnapshotId}
use Rattle.records.specs.declared.counters.SchemaId.{SchemaId}
use Rattle.records.specs.declared.counters.SpecId.{SpecId}
use Rattle.records.specs.declared.text.Name.{Name}
use Rattle.records.specs.declared.text.Text.{Text}
use Rattle.records.specs.declared.snapshot.Snapshot.{Snapshot}
use Rattle.records.specs.declared.snapshot.Snapshots.{Snapshots}
use Rattle.records.specs.declared.snapshot.SnapshotIds.{SnapshotIds}
use Rattle.records.specs.declared.snapshot.SnapshotLogEntry.{SnapshotLogEntry}
use Rattle.records.specs.declared.snapshot.SnapshotLog.{SnapshotLog}
use Rattle.records.specs.declared.reference.SnapshotReference.{SnapshotReference}
use Rattle.records.specs.declared.reference.NamedRef.{NamedRef}
use Rattle.records.specs.declared.reference.Refs.{Refs}
use Rattle.records.specs.declared.schema.SchemaField.{SchemaField}
use Rattle.records.specs.declared.schema.Schema.{Schema}
use Rattle.records.specs.declared.schema.Schemas.{Schemas}
use Rattle.records.specs.declared.schema.SchemaOffer.{SchemaOffer}
use Rattle.records.specs.declared.schema.SchemaIds.{SchemaIds}
use Rattle.records.specs.declared.sort_order.SortField.{SortField}
use Rattle.records.specs.declared.sort_order.SortOrder.{SortOrder}
use Rattle.records.specs.declared.sort_order.SortOrders.{SortOrders}
use Rattle.records.specs.declared.partition.PartitionField.{PartitionField}
use Rattle.records.specs.declared.partition.PartitionSpec.{PartitionSpec}
use Rattle.records.specs.declared.partition.PartitionSpecs.{PartitionSpecs}
use Rattle.records.specs.declared.partition.OfferedId.{OfferedId}
use Rattle.records.specs.declared.partition.SpecOffer.{SpecOffer}
use Rattle.records.specs.declared.partition.SpecIds.{SpecIds}
use Rattle.records.specs.declared.statistics.StatisticsFile.{StatisticsFile}
use Rattle.records.specs.declared.statistics.StatisticsFiles.{StatisticsFiles}
use Rattle.records.specs.declared.metadata.MetadataLogEntry.{MetadataLogEntry}
use Rattle.records.specs.declared.metadata.MetadataLog.{MetadataLog}
use Rattle.records.specs.declared.metadata.SingleFields.{SingleFields}
use Rattle.records.specs.declared.metadata.TableMetadata.{TableMetadata}
use Rattle.records.specs.declared.part.FieldsPart.{FieldsPart}
use Rattle.records.specs.declared.part.SnapshotsPart.{SnapshotsPart}
use Rattle.records.specs.declared.part.RefsPart.{RefsPart}
use Rattle.records.specs.declared.part.SchemasPart.{SchemasPart}
use Rattle.records.specs.declared.part.SortOrdersPart.{SortOrdersPart}
use Rattle.records.specs.declared.part.StatisticsPart.{StatisticsPart}
use Rattle.records.specs.declared.part.PartitionSpecsPart.{PartitionSpecsPart}
use Rattle.records.specs.declared.update.TableUpdate.{TableUpdate}
use Rattle.records.specs.declared.update.UpdateList.{UpdateList}

-- ---- texts

abbrev pub no_name : Name
no_name = record { bytes = replicate 32 0; len = 0 }

abbrev pub no_text : Text
no_text = record { bytes = replicate 96 0; len = 0 }

-- ---- snapshots

abbrev pub no_snapshot_id : SnapshotId
no_snapshot_id = record { 0 = pos 0 }

abbrev pub no_snapshot : Snapshot
no_snapshot = record {
  snapshot_id = no_snapshot_id;
  has_parent = false;
  parent_snapshot_id = no_snapshot_id;
  sequence_number = record { 0 = pos 0 };
  timestamp_ms = record { 0 = pos 0 };
  has_rows = false;
  first_row_id = record { 0 = 0 };
  added_rows = 0;
}

unfoldable pub no_snapshots : Snapshots
no_snapshots = record { items = replicate 64 no_snapshot; count = 0 }

abbrev pub no_snapshot_ids : SnapshotIds
no_snapshot_ids = record { items = replicate 16 no_snapshot_id; count = 0 }

abbrev pub no_log_entry : SnapshotLogEntry
no_log_entry = record { snapshot_id = no_snapshot_id; timestamp_ms = record { 0 = pos 0 } }

unfoldable pub no_snapshot_log : SnapshotLog
no_snapshot_log = record { items = replicate 128 no_log_entry; count = 0 }

-- ---- refs

abbrev pub no_reference : SnapshotReference
no_reference = record {
  snapshot_id = no_snapshot_id;
  kind = 0;
  has_min = false;
  min_snapshots_to_keep = record { 0 = pos 0 };
  has_age = false;
  max_snapshot_age_ms = record { 0 = pos 0 };
  has_ref_age = false;
  max_ref_age_ms = record { 0 = pos 0 };
}

abbrev pub no_ref : NamedRef
no_ref = record { name = no_name; reference = no_reference; owner = 0 }

unfoldable pub no_refs : Refs
no_refs = record { items = replicate 16 no_ref; count = 0 }

-- ---- schemas

abbrev pub no_schema_field : SchemaField
no_schema_field = record { id = record { 0 = pos 0 }; field_type = 0; name = no_name }

unfoldable pub no_schema : Schema
no_schema = record { schema_id = record { 0 = pos 0 }; items = replicate 32 no_schema_field; count = 0 }

unfoldable pub no_schemas : Schemas
no_schemas = record { items = replicate 16 no_schema; count = 0 }

abbrev pub no_schema_id : SchemaId
no_schema_id = record { 0 = pos 0 }

abbrev pub no_schema_offer : SchemaOffer
no_schema_offer = record { schema_id = no_schema_id; at = 0; count = 0 }

abbrev pub no_schema_ids : SchemaIds
no_schema_ids = record { items = replicate 16 no_schema_id; count = 0 }

-- ---- sort orders

abbrev pub no_sort_field : SortField
no_sort_field = record { source_id = record { 0 = pos 0 }; direction = 0; null_order = 0 }

unfoldable pub no_sort_order : SortOrder
no_sort_order = record { order_id = record { 0 = pos 0 }; items = replicate 8 no_sort_field; count = 0 }

unfoldable pub no_sort_orders : SortOrders
no_sort_orders = record { items = replicate 16 no_sort_order; count = 0 }

-- ---- partition specs

abbrev pub no_partition_field : PartitionField
no_partition_field = record { source_id = record { 0 = pos 0 }; field_id = record { 0 = pos 0 }; buckets = record { 0 = pos 0 }; transform = 0; has_id = false; name = no_name }

unfoldable pub no_partition_spec : PartitionSpec
no_partition_spec = record { spec_id = record { 0 = pos 0 }; items = replicate 8 no_partition_field; count = 0 }

unfoldable pub no_partition_specs : PartitionSpecs
no_partition_specs = record { items = replicate 16 no_partition_spec; count = 0 }

abbrev pub no_offered_id : OfferedId
no_offered_id = record { given = false; id = record { 0 = pos 0 } }

abbrev pub no_spec_id : SpecId
no_spec_id = record { 0 = pos 0 }

abbrev pub no_spec_offer : SpecOffer
no_spec_offer = record { spec_id = no_spec_id; at = 0; count = 0; ids = replicate 8 no_offered_id }

abbrev pub no_spec_ids : SpecIds
no_spec_ids = record { items = replicate 16 no_spec_id; count = 0 }

-- ---- statistics files

abbrev pub no_statistics_file : StatisticsFile
no_statistics_file = record { snapshot_id = no_snapshot_id; statistics_path = no_text; file_size_in_bytes = record { 0 = pos 0 } }

unfoldable pub no_statistics_files : StatisticsFiles
no_statistics_files = record { items = replicate 32 no_statistics_file; count = 0 }

-- ---- metadata

abbrev pub no_metadata_log_entry : MetadataLogEntry
no_metadata_log_entry = record { metadata_file = no_text; timestamp_ms = record { 0 = pos 0 } }

-- 01, "Forms we want to see": the log starts as a blank entry repeated 128 times
unfoldable pub no_metadata_log : MetadataLog
no_metadata_log = record { items = replicate 128 no_metadata_log_entry; count = 0 }

unfoldable pub no_fields : SingleFields
no_fields = record {
  format_version = 0;
  table_uuid = replicate 16 0;
  location = no_text;
  last_updated_ms = record { 0 = pos 0 };
  last_sequence_number = record { 0 = pos 0 };
  next_row_id = record { 0 = 0 };
  last_column_id = record { 0 = pos 0 };
  has_current = false;
  current_snapshot_id = no_snapshot_id;
  current_schema_id = record { 0 = pos 0 };
  default_sort_order_id = record { 0 = pos 0 };
  default_spec_id = record { 0 = pos 0 };
  last_partition_id = record { 0 = pos 0 };
}

unfoldable pub no_metadata : TableMetadata
no_metadata = record {
  fields = no_fields;
  snapshots = no_snapshots;
  refs = no_refs;
  snapshot_log = no_snapshot_log;
  metadata_log = no_metadata_log;
  schemas = no_schemas;
  sort_orders = no_sort_orders;
  statistics = no_statistics_files;
  partition_statistics = no_statistics_files;
  partition_specs = no_partition_specs;
}

-- ---- updates

unfoldable pub no_fields_part : FieldsPart
no_fields_part = record { uuid = replicate 16 0; format_version = 0; location = no_text }

unfoldable pub no_snapshots_part : SnapshotsPart
no_snapshots_part = record { added = no_snapshot; removed = no_snapshot_ids }

abbrev pub no_refs_part : RefsPart
no_refs_part = record { name = no_name; reference = no_reference }

unfoldable pub no_schemas_part : SchemasPart
no_schemas_part = record { added = no_schema_offer; chosen = no_schema_id; removed = no_schema_ids }

unfoldable pub no_sort_orders_part : SortOrdersPart
no_sort_orders_part = record { added = no_sort_order; chosen = record { 0 = pos 0 } }

unfoldable pub no_statistics_part : StatisticsPart
no_statistics_part = record { file = no_statistics_file; removed = no_snapshot_id }

unfoldable pub no_partition_specs_part : PartitionSpecsPart
no_partition_specs_part = record { added = no_spec_offer; chosen = no_spec_id; removed = no_spec_ids }

unfoldable pub no_update : TableUpdate
no_update = record { kind = 0; fields = no_fields_part; snapshots = no_snapshots_part; refs = no_refs_part; schemas = no_schemas_part; sort_orders = no_sort_orders_part; statistics = no_statistics_part; partition_specs = no_partition_specs_part }

unfoldable pub no_updates : UpdateList
no_updates = record { items = replicate 64 no_update; count = 0 }
