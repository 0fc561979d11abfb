-- Metadata that fits into its slots is laid out tidily.
use mathlib.Core.Path.{◌≡◌, refl}
use mathlib.Core.Bool.{true, ◌||◌}
use mathlib.Core.List.{List, [], ◌∷◌}
use mathlib.Core.Option.{Option, none, some}
use lib.Dec.{leb}
use lib.IntN.{ℤ, pos}
use lib.ListN.{length}
use Rattle.records.specs.Blanks.{no_snapshot, no_log_entry, no_ref, no_schema, no_sort_field, no_sort_order, no_partition_field, no_partition_spec, no_statistics_file, no_metadata_log_entry}
use Rattle.rules.specs.Words.{is_some, or_else, all}
use Rattle.rules.specs.Capacities.{text_room, snapshot_room, ref_room, snapshot_log_room, metadata_log_room, schema_room, schema_field_room, sort_order_room, sort_field_room, spec_room, partition_field_room, statistics_room}
use Rattle.rules.specs.Register.{Snapshot, NamedRef, LogEntry, FileEntry, Schema, SortOrder, PartitionField, PartitionSpec, StatisticsFile, SingleFields, Metadata}
use Rattle.rules.specs.Blanks.{is_zero_z, is_tidy_snapshot, is_blank_snapshot, is_tidy_snapshots, is_blank_log_entry, is_tidy_snapshot_log, is_tidy_ref, is_blank_reference, is_blank_ref, is_tidy_refs, is_blank_schema_field, is_tidy_schema, is_blank_schema, is_tidy_schemas, is_blank_sort_field, is_tidy_sort_order, is_blank_sort_order, is_tidy_sort_orders, is_tidy_partition_field, is_blank_partition_field, is_tidy_partition_spec, is_blank_partition_spec, is_tidy_partition_specs, is_tidy_statistics_file, is_blank_statistics_file, is_tidy_statistics, is_tidy_metadata_log_entry, is_blank_metadata_log_entry, is_tidy_metadata_log, is_tidy_fields, is_tidy_metadata}
use Rattle.rules.specs.Layout.{laid_snapshot, laid_snapshots, laid_log_entry, laid_snapshot_log, laid_ref, laid_refs, laid_schema, laid_schemas, laid_sort_field, laid_sort_order, laid_sort_orders, laid_partition_field, laid_partition_spec, laid_partition_specs, laid_statistics_file, laid_statistics, laid_metadata_log_entry, laid_metadata_log, laid_fields, laid_metadata}
use Rattle.rules.proofs.Checks.{both, and_left, and_right}
use Rattle.rules.proofs.Slots.Laid.{fields_tidy, table_tidy, tidy_ref_name, tidy_text, tidy_snapshot, tidy_reference, tidy_names, tidy_metadata_log_entry}
use Rattle.file_laid.specs.Fits.{ref_fits, file_entry_fits, statistics_fits, field_fits, schema_fits, order_fits, partition_field_fits, spec_fits, Within, Fits}

-- a number that is absent is laid as 0
absent_zero : (o : Option ℤ) → (is_some o || is_zero_z (or_else o (pos 0))) ≡ true
absent_zero none = refl
absent_zero (some z) = refl

-- ---- snapshots and logs

no_snapshot_lem : is_blank_snapshot no_snapshot ≡ true
unfolding is_blank_snapshot
no_snapshot_lem = refl

whatever : (l : List Snapshot) → all (λ (s : Snapshot). true) l ≡ true
whatever [] = refl
whatever (s ∷ l) = whatever l

snapshots_tidy : (l : List Snapshot) → leb (length l) snapshot_room ≡ true → is_tidy_snapshots (laid_snapshots l) ≡ true
unfolding is_tidy_snapshots laid_snapshots
snapshots_tidy l h = table_tidy no_snapshot is_blank_snapshot no_snapshot_lem laid_snapshot is_tidy_snapshot (λ (s : Snapshot). true) (λ s e. tidy_snapshot s) snapshot_room l h (whatever l)

no_log_entry_lem : is_blank_log_entry no_log_entry ≡ true
unfolding is_blank_log_entry
no_log_entry_lem = refl

snapshot_log_tidy : (l : List LogEntry) → leb (length l) snapshot_log_room ≡ true → is_tidy_snapshot_log (laid_snapshot_log l) ≡ true
unfolding is_tidy_snapshot_log laid_snapshot_log
snapshot_log_tidy l h = fields_tidy no_log_entry is_blank_log_entry no_log_entry_lem laid_log_entry snapshot_log_room l h

no_file_entry : is_blank_metadata_log_entry no_metadata_log_entry ≡ true
unfolding is_blank_metadata_log_entry
no_file_entry = refl

metadata_log_tidy : (l : List FileEntry) → Within metadata_log_room file_entry_fits l → is_tidy_metadata_log (laid_metadata_log l) ≡ true
unfolding is_tidy_metadata_log laid_metadata_log
metadata_log_tidy l w = table_tidy no_metadata_log_entry is_blank_metadata_log_entry no_file_entry laid_metadata_log_entry is_tidy_metadata_log_entry file_entry_fits tidy_metadata_log_entry metadata_log_room l w.few w.each

-- ---- refs

ref_tidy : (r : NamedRef) → ref_fits r ≡ true → is_tidy_ref (laid_ref r) ≡ true
unfolding is_tidy_ref laid_ref
ref_tidy r h = both (tidy_ref_name r.name h) (tidy_reference r.reference)

no_ref_lem : is_blank_ref no_ref ≡ true
unfolding is_blank_ref is_blank_reference
no_ref_lem = refl

refs_tidy : (l : List NamedRef) → Within ref_room ref_fits l → is_tidy_refs (laid_refs l) ≡ true
unfolding is_tidy_refs laid_refs
refs_tidy l w = table_tidy no_ref is_blank_ref no_ref_lem laid_ref is_tidy_ref ref_fits ref_tidy ref_room l w.few w.each

-- ---- schemas

schema_tidy : (s : Schema) → schema_fits s ≡ true → is_tidy_schema (laid_schema s) ≡ true
schema_tidy s h = tidy_names s (and_left (leb (length s.fields) schema_field_room) (all field_fits s.fields) h) (and_right (leb (length s.fields) schema_field_room) (all field_fits s.fields) h)

no_schema_lem : is_blank_schema no_schema ≡ true
unfolding is_blank_schema no_schema is_blank_schema_field
no_schema_lem = refl

schemas_tidy : (l : List Schema) → Within schema_room schema_fits l → is_tidy_schemas (laid_schemas l) ≡ true
unfolding is_tidy_schemas laid_schemas
schemas_tidy l w = table_tidy no_schema is_blank_schema no_schema_lem laid_schema is_tidy_schema schema_fits schema_tidy schema_room l w.few w.each

-- ---- sort orders

no_sort_field_lem : is_blank_sort_field no_sort_field ≡ true
unfolding is_blank_sort_field
no_sort_field_lem = refl

order_tidy : (o : SortOrder) → order_fits o ≡ true → is_tidy_sort_order (laid_sort_order o) ≡ true
unfolding is_tidy_sort_order laid_sort_order
order_tidy o h = fields_tidy no_sort_field is_blank_sort_field no_sort_field_lem laid_sort_field sort_field_room o.fields h

no_sort_order_lem : is_blank_sort_order no_sort_order ≡ true
unfolding is_blank_sort_order no_sort_order is_blank_sort_field
no_sort_order_lem = refl

orders_tidy : (l : List SortOrder) → Within sort_order_room order_fits l → is_tidy_sort_orders (laid_sort_orders l) ≡ true
unfolding is_tidy_sort_orders laid_sort_orders
orders_tidy l w = table_tidy no_sort_order is_blank_sort_order no_sort_order_lem laid_sort_order is_tidy_sort_order order_fits order_tidy sort_order_room l w.few w.each

-- ---- partition specs

partition_field_tidy : (f : PartitionField) → partition_field_fits f ≡ true → is_tidy_partition_field (laid_partition_field f) ≡ true
unfolding is_tidy_partition_field laid_partition_field
partition_field_tidy f h = both (absent_zero f.id) (tidy_ref_name f.name h)

no_partition_field_lem : is_blank_partition_field no_partition_field ≡ true
unfolding is_blank_partition_field
no_partition_field_lem = refl

spec_tidy : (s : PartitionSpec) → spec_fits s ≡ true → is_tidy_partition_spec (laid_partition_spec s) ≡ true
unfolding is_tidy_partition_spec laid_partition_spec
spec_tidy s h =
    table_tidy no_partition_field is_blank_partition_field no_partition_field_lem laid_partition_field is_tidy_partition_field partition_field_fits partition_field_tidy partition_field_room s.fields
    (and_left (leb (length s.fields) partition_field_room) (all partition_field_fits s.fields) h)
    (and_right (leb (length s.fields) partition_field_room) (all partition_field_fits s.fields) h)

no_partition_spec_lem : is_blank_partition_spec no_partition_spec ≡ true
unfolding is_blank_partition_spec no_partition_spec is_blank_partition_field
no_partition_spec_lem = refl

specs_tidy : (l : List PartitionSpec) → Within spec_room spec_fits l → is_tidy_partition_specs (laid_partition_specs l) ≡ true
unfolding is_tidy_partition_specs laid_partition_specs
specs_tidy l w = table_tidy no_partition_spec is_blank_partition_spec no_partition_spec_lem laid_partition_spec is_tidy_partition_spec spec_fits spec_tidy spec_room l w.few w.each

-- ---- statistics files

statistics_file_tidy : (f : StatisticsFile) → statistics_fits f ≡ true → is_tidy_statistics_file (laid_statistics_file f) ≡ true
unfolding is_tidy_statistics_file laid_statistics_file
statistics_file_tidy f h = tidy_text f.path h

no_statistics_file_lem : is_blank_statistics_file no_statistics_file ≡ true
unfolding is_blank_statistics_file
no_statistics_file_lem = refl

statistics_tidy : (l : List StatisticsFile) → Within statistics_room statistics_fits l → is_tidy_statistics (laid_statistics l) ≡ true
unfolding is_tidy_statistics laid_statistics
statistics_tidy l w = table_tidy no_statistics_file is_blank_statistics_file no_statistics_file_lem laid_statistics_file is_tidy_statistics_file statistics_fits statistics_file_tidy statistics_room l w.few w.each

-- ---- metadata

fields_laid_tidy : (f : SingleFields) → leb (length f.location) text_room ≡ true → is_tidy_fields (laid_fields f) ≡ true
unfolding is_tidy_fields laid_fields
fields_laid_tidy f h = both (tidy_text f.location h) (absent_zero f.current)

-- whatever else it says
pub fits_tidy : (m : Metadata) → Fits m → is_tidy_metadata (laid_metadata m) ≡ true
unfolding is_tidy_metadata laid_metadata
fits_tidy m h =
    rw (
      snapshots_tidy m.snapshots h.snapshots,
      refs_tidy m.refs h.refs,
      snapshot_log_tidy m.snapshot_log h.snapshot_log,
      metadata_log_tidy m.metadata_log h.metadata_log,
      schemas_tidy m.schemas h.schemas,
      orders_tidy m.orders h.orders,
      statistics_tidy m.statistics h.statistics,
      statistics_tidy m.partition_statistics h.partition_statistics,
      specs_tidy m.specs h.specs,
      fields_laid_tidy m.fields h.location,
    )
