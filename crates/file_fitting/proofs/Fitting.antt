-- All metadata that a function is given fits a file.
use mathlib.Core.Path.{◌≡◌, refl}
use mathlib.Core.Bool.{true}
use mathlib.Core.List.{List}
use mir.Val.{Val}
use denote.Laws.{Is}
use denote.Struct.Declared.{row}
use Rattle.records.specs.Blanks.{no_snapshot, no_ref, no_log_entry, no_metadata_log_entry, no_schema, no_sort_order, no_statistics_file, no_partition_spec}
use Rattle.records.specs.declared.metadata.SingleFields.{SingleFields}
use Rattle.records.specs.declared.metadata.TableMetadata.{TableMetadata}
use Rattle.records.specs.contracts.snapshot.Snapshot as snapshot
use Rattle.records.specs.contracts.snapshot.SnapshotLogEntry as logEntry
use Rattle.records.specs.contracts.reference.NamedRef as ref
use Rattle.records.specs.contracts.schema.Schema as schema
use Rattle.records.specs.contracts.sort_order.SortOrder as order
use Rattle.records.specs.contracts.partition.PartitionSpec as spec
use Rattle.records.specs.contracts.statistics.StatisticsFile as statistics
use Rattle.records.specs.contracts.metadata.MetadataLogEntry as fileEntry
use Rattle.records.specs.contracts.metadata.SingleFields as fields
use Rattle.records.specs.contracts.metadata.TableMetadata as metadata
use Rattle.rules.specs.Capacities.{snapshot_room, ref_room, snapshot_log_room, metadata_log_room, schema_room, sort_order_room, statistics_room, spec_room}
use Rattle.rules.specs.Layout.{read_fields, read_snapshot, read_ref, read_log_entry, read_metadata_log_entry, read_schema, read_sort_order, read_statistics_file, read_partition_spec, read_metadata}
use Rattle.rules.proofs.Checks.{both}
use Rattle.file_rule.specs.Fits.{fits64, snapshot_fits, reference_fits, ref_fits, log_entry_fits, file_entry_fits, schema_fits, order_fits, statistics_fits, spec_fits, fields_fit, metadata_fits}
use Rattle.file_fitting.proofs.Slots.{number32, number64, unsigned, given_fits, uuid_fits_lem, table_fits}
use Rattle.file_fitting.proofs.Records.{snapshot_fits_lem, ref_fits_lem, log_entry_fits_lem, file_entry_fits_lem, schema_fits_lem, order_fits_lem, statistics_fit, spec_fits_lem}

fields_fit_lem : (f : SingleFields) (vs : List Val) → Is (row fields.the_type) f vs → fields_fit (read_fields f) ≡ true
unfolding fields_fit
fields_fit_lem f vs k =
    let updated = k.1.1.1.1.1 in
    let column = updated.1.1.1 in
    let current = column.1.1 in
    let order = current.1.1 in
    both
    (both
    (both
    (both
    (both
    (both
    (both
    (both
    (both (uuid_fits_lem f.table_uuid k.0.1.0 k.1.1.1.0) (number64 f.last_updated_ms.0 updated.0.1.1.0.1))
    (number64 f.last_sequence_number.0 updated.1.0.1.1.0.1))
    (unsigned f.next_row_id.0 updated.1.1.0.1.1.0.1))
    (number32 f.last_column_id.0 column.0.1.1.0.1))
    (given_fits fits64 f.has_current f.current_snapshot_id.0 (number64 f.current_snapshot_id.0 current.0.1.1.0.1)))
    (number32 f.current_schema_id.0 current.1.0.1.1.0.1))
    (number64 f.default_sort_order_id.0 order.0.1.1.0.1))
    (number32 f.default_spec_id.0 order.1.0.1.1.0.1))
    (number32 f.last_partition_id.0 order.1.1.0.1.1.0.1)

-- The bounds are those of the types of the fields. Nothing else is asked of the metadata: neither that it is well formed, nor that its counts are within the
-- capacities.
pub metadata_fits_lem : (m : TableMetadata) (vs : List Val) → Is (row metadata.the_type) m vs → metadata_fits (read_metadata m) ≡ true
unfolding metadata_fits snapshot_fits reference_fits no_schema no_sort_order no_partition_spec
metadata_fits_lem m vs k =
    let tables = k.1.1.1 in
    let schemas = tables.1.1.1.1 in
    both
    (both
    (both
    (both
    (both
    (both
    (both
    (both
    (both (fields_fit_lem m.fields k.0.0 k.1.1.0)
    (table_fits snapshot.the_type read_snapshot snapshot_fits snapshot_fits_lem no_snapshot refl snapshot_room m.snapshots.count m.snapshots.items tables.0.0.0 tables.0.1.1.0))
    (table_fits ref.the_type read_ref ref_fits ref_fits_lem no_ref refl ref_room m.refs.count m.refs.items tables.1.0.0.0 tables.1.0.1.1.0))
    (table_fits logEntry.the_type read_log_entry log_entry_fits log_entry_fits_lem no_log_entry refl snapshot_log_room m.snapshot_log.count m.snapshot_log.items tables.1.1.0.0.0 tables.1.1.0.1.1.0))
    (table_fits fileEntry.the_type read_metadata_log_entry file_entry_fits file_entry_fits_lem no_metadata_log_entry refl metadata_log_room m.metadata_log.count m.metadata_log.items tables.1.1.1.0.0.0 tables.1.1.1.0.1.1.0))
    (table_fits schema.the_type read_schema schema_fits schema_fits_lem no_schema refl schema_room m.schemas.count m.schemas.items schemas.0.0.0 schemas.0.1.1.0))
    (table_fits order.the_type read_sort_order order_fits order_fits_lem no_sort_order refl sort_order_room m.sort_orders.count m.sort_orders.items schemas.1.0.0.0 schemas.1.0.1.1.0))
    (table_fits statistics.the_type read_statistics_file statistics_fits statistics_fit no_statistics_file refl statistics_room m.statistics.count m.statistics.items schemas.1.1.0.0.0 schemas.1.1.0.1.1.0))
    (table_fits statistics.the_type read_statistics_file statistics_fits statistics_fit no_statistics_file refl statistics_room m.partition_statistics.count m.partition_statistics.items schemas.1.1.1.0.0.0 schemas.1.1.1.0.1.1.0))
    (table_fits spec.the_type read_partition_spec spec_fits spec_fits_lem no_partition_spec refl spec_room m.partition_specs.count m.partition_specs.items schemas.1.1.1.1.0.0.0 schemas.1.1.1.1.0.1.1.0)
