-- Each record that a function is given fits a file: its numbers are looked up among what owning the record tells, field by field in the order of the record.
use mathlib.Core.Path.{◌≡◌, refl}
use mathlib.Core.Bool.{true}
use mathlib.Core.List.{List}
use mir.Val.{Val}
use denote.Laws.{Is}
use denote.Struct.Declared.{row}
use Rattle.records.specs.Blanks.{no_schema_field, no_sort_field, no_partition_field}
use Rattle.records.specs.declared.snapshot.Snapshot.{Snapshot}
use Rattle.records.specs.declared.snapshot.SnapshotLogEntry.{SnapshotLogEntry}
use Rattle.records.specs.declared.reference.SnapshotReference.{SnapshotReference}
use Rattle.records.specs.declared.reference.NamedRef.{NamedRef}
use Rattle.records.specs.declared.schema.SchemaField.{SchemaField}
use Rattle.records.specs.declared.schema.Schema.{Schema}
use Rattle.records.specs.declared.sort_order.SortField.{SortField}
use Rattle.records.specs.declared.sort_order.SortOrder.{SortOrder}
use Rattle.records.specs.declared.partition.PartitionField.{PartitionField}
use Rattle.records.specs.declared.partition.PartitionSpec.{PartitionSpec}
use Rattle.records.specs.declared.statistics.StatisticsFile.{StatisticsFile}
use Rattle.records.specs.declared.metadata.MetadataLogEntry.{MetadataLogEntry}
use Rattle.records.specs.contracts.snapshot.Snapshot as snapshot
use Rattle.records.specs.contracts.snapshot.SnapshotLogEntry as logEntry
use Rattle.records.specs.contracts.reference.SnapshotReference as reference
use Rattle.records.specs.contracts.reference.NamedRef as ref
use Rattle.records.specs.contracts.schema.SchemaField as schemaField
use Rattle.records.specs.contracts.schema.Schema as schema
use Rattle.records.specs.contracts.sort_order.SortField as sort_field
use Rattle.records.specs.contracts.sort_order.SortOrder as order
use Rattle.records.specs.contracts.partition.PartitionField as partition_field
use Rattle.records.specs.contracts.partition.PartitionSpec as spec
use Rattle.records.specs.contracts.statistics.StatisticsFile as statistics
use Rattle.records.specs.contracts.metadata.MetadataLogEntry as fileEntry
use Rattle.rules.specs.Capacities.{schema_field_room, sort_field_room, partition_field_room}
use Rattle.rules.specs.Layout.{read_snapshot, read_log_entry, read_reference, read_ref, read_schema_field, read_schema, read_sort_field, read_sort_order, read_partition_field, read_partition_spec, read_statistics_file, read_metadata_log_entry}
use Rattle.rules.proofs.Checks.{both}
use Rattle.file_rule.specs.Fits.{fits32, fits64, range_fits, snapshot_fits, reference_fits, ref_fits, log_entry_fits, file_entry_fits, field_fits, schema_fits, sort_field_fits, order_fits, partition_field_fits, spec_fits, statistics_fits}
use Rattle.file_fitting.proofs.Slots.{number32, number64, unsigned, given_fits, table_fits}

pub snapshot_fits_lem : (s : Snapshot) (vs : List Val) → Is (row snapshot.the_type) s vs → snapshot_fits (read_snapshot s) ≡ true
unfolding snapshot_fits
snapshot_fits_lem s vs k =
    let id = k.1.1.0 in
    let parent = k.1.1.1.1.0 in
    let rest = k.1.1.1.1.1 in
    let sequence = rest.0 in
    let time = rest.1.0 in
    let first = rest.1.1.1.0 in
    let added = rest.1.1.1.1.0 in
    both
    (both
    (both (both (number64 s.snapshot_id.0 id.1.1.0.1) (given_fits fits64 s.has_parent s.parent_snapshot_id.0 (number64 s.parent_snapshot_id.0 parent.1.1.0.1)))
    (number64 s.sequence_number.0 sequence.1.1.0.1))
    (number64 s.timestamp_ms.0 time.1.1.0.1))
    (given_fits range_fits s.has_rows (record { first = s.first_row_id; added = s.added_rows }) (both (unsigned s.first_row_id.0 first.1.1.0.1) (unsigned s.added_rows added.1)))

pub log_entry_fits_lem : (e : SnapshotLogEntry) (vs : List Val) → Is (row logEntry.the_type) e vs → log_entry_fits (read_log_entry e) ≡ true
log_entry_fits_lem e vs k = both (number64 e.snapshot_id.0 k.1.1.0.1.1.0.1) (number64 e.timestamp_ms.0 k.1.1.1.0.1.1.0.1)

pub reference_fits_lem : (r : SnapshotReference) (vs : List Val) → Is (row reference.the_type) r vs → reference_fits (read_reference r) ≡ true
unfolding reference_fits
reference_fits_lem r vs k =
    let least = k.1.1.1.1.1.0 in
    let rest = k.1.1.1.1.1.1.1 in
    let age = rest.0 in
    let ref_age = rest.1.1.0 in
    both
    (both
    (both (number64 r.snapshot_id.0 k.1.1.0.1.1.0.1) (given_fits fits32 r.has_min r.min_snapshots_to_keep.0 (number32 r.min_snapshots_to_keep.0 least.1.1.0.1)))
    (given_fits fits64 r.has_age r.max_snapshot_age_ms.0 (number64 r.max_snapshot_age_ms.0 age.1.1.0.1)))
    (given_fits fits64 r.has_ref_age r.max_ref_age_ms.0 (number64 r.max_ref_age_ms.0 ref_age.1.1.0.1))

pub ref_fits_lem : (r : NamedRef) (vs : List Val) → Is (row ref.the_type) r vs → ref_fits (read_ref r) ≡ true
ref_fits_lem r vs k = reference_fits_lem r.reference k.0.1.0 k.1.1.1.0

field_fits_lem : (f : SchemaField) (vs : List Val) → Is (row schemaField.the_type) f vs → field_fits (read_schema_field f) ≡ true
field_fits_lem f vs k = number32 f.id.0 k.1.1.0.1.1.0.1

pub schema_fits_lem : (s : Schema) (vs : List Val) → Is (row schema.the_type) s vs → schema_fits (read_schema s) ≡ true
schema_fits_lem s vs k =
    both (number32 s.schema_id.0 k.1.1.0.1.1.0.1)
    (table_fits schemaField.the_type read_schema_field field_fits field_fits_lem no_schema_field refl schema_field_room s.count s.items k.0.1.0 k.1.1.1.0)

sort_field_fits_lem : (f : SortField) (vs : List Val) → Is (row sort_field.the_type) f vs → sort_field_fits (read_sort_field f) ≡ true
sort_field_fits_lem f vs k = number32 f.source_id.0 k.1.1.0.1.1.0.1

pub order_fits_lem : (o : SortOrder) (vs : List Val) → Is (row order.the_type) o vs → order_fits (read_sort_order o) ≡ true
order_fits_lem o vs k =
    both (number64 o.order_id.0 k.1.1.0.1.1.0.1)
    (table_fits sort_field.the_type read_sort_field sort_field_fits sort_field_fits_lem no_sort_field refl sort_field_room o.count o.items k.0.1.0 k.1.1.1.0)

partition_field_fits_lem : (f : PartitionField) (vs : List Val) → Is (row partition_field.the_type) f vs → partition_field_fits (read_partition_field f) ≡ true
partition_field_fits_lem f vs k =
    let id = k.1.1.1.0 in
    let buckets = k.1.1.1.1.0 in
    both (both (number32 f.source_id.0 k.1.1.0.1.1.0.1) (given_fits fits32 f.has_id f.field_id.0 (number32 f.field_id.0 id.1.1.0.1))) (number32 f.buckets.0 buckets.1.1.0.1)

pub spec_fits_lem : (s : PartitionSpec) (vs : List Val) → Is (row spec.the_type) s vs → spec_fits (read_partition_spec s) ≡ true
spec_fits_lem s vs k =
    both (number32 s.spec_id.0 k.1.1.0.1.1.0.1)
    (table_fits partition_field.the_type read_partition_field partition_field_fits partition_field_fits_lem no_partition_field refl partition_field_room s.count s.items k.0.1.0 k.1.1.1.0)

pub statistics_fit : (f : StatisticsFile) (vs : List Val) → Is (row statistics.the_type) f vs → statistics_fits (read_statistics_file f) ≡ true
statistics_fit f vs k = both (number64 f.snapshot_id.0 k.1.1.0.1.1.0.1) (number64 f.file_size_in_bytes.0 k.1.1.1.1.0.1.1.0.1)

pub file_entry_fits_lem : (e : MetadataLogEntry) (vs : List Val) → Is (row fileEntry.the_type) e vs → file_entry_fits (read_metadata_log_entry e) ≡ true
file_entry_fits_lem e vs k = number64 e.timestamp_ms.0 k.1.1.1.0.1.1.0.1
