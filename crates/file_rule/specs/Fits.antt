-- Metadata whose numbers fit the fields that hold them, and whose uuid is sixteen bytes: what is true of all metadata that records hold. Which number has how many
-- bits is document 01's: field, schema and spec ids have 32, the others 64, and row ids have no sign.
use Rattle.std.specs.Prelude.{ℕ, Bool, ◌&&◌, List, eqb, leb, ltb, ℤ, pos, negsuc, length}
use Rattle.std.specs.Int.Signed.{le_z}
use Rattle.rules.specs.Words.{if_some, all}
use Rattle.rules.specs.Capacities.{largest_unsigned}
use Rattle.rules.specs.Register.{RowRange, Snapshot, Reference, NamedRef, LogEntry, FileEntry, SchemaField, Schema, SortField, SortOrder, PartitionField, PartitionSpec, StatisticsFile, SingleFields, Metadata}

abbrev pub fits32 : ℤ → Bool
fits32 z = le_z (negsuc 2147483647) z && le_z z (pos 2147483647)

abbrev pub fits64 : ℤ → Bool
fits64 z = le_z (negsuc 9223372036854775807) z && le_z z (pos 9223372036854775807)

abbrev pub fits_unsigned : ℕ → Bool
fits_unsigned n = leb n largest_unsigned

-- sixteen bytes
abbrev pub uuid_fits : List ℕ → Bool
uuid_fits bs = eqb (length bs) 16 && all (λ b. ltb b 256) bs

-- ---- records

abbrev pub range_fits : RowRange → Bool
range_fits r = fits_unsigned r.first.0 && fits_unsigned r.added

unfoldable pub snapshot_fits : Snapshot → Bool
snapshot_fits s = fits64 s.id && if_some fits64 s.parent && fits64 s.sequence.0 && fits64 s.time && if_some range_fits s.rows

unfoldable pub reference_fits : Reference → Bool
reference_fits r = fits64 r.snapshot && if_some fits32 r.min_snapshots && if_some fits64 r.max_snapshot_age && if_some fits64 r.max_ref_age

abbrev pub ref_fits : NamedRef → Bool
ref_fits r = reference_fits r.reference

abbrev pub log_entry_fits : LogEntry → Bool
log_entry_fits e = fits64 e.snapshot && fits64 e.time

abbrev pub file_entry_fits : FileEntry → Bool
file_entry_fits e = fits64 e.time

abbrev pub field_fits : SchemaField → Bool
field_fits f = fits32 f.id

abbrev pub schema_fits : Schema → Bool
schema_fits s = fits32 s.id && all field_fits s.fields

abbrev pub sort_field_fits : SortField → Bool
sort_field_fits f = fits32 f.source

abbrev pub order_fits : SortOrder → Bool
order_fits o = fits64 o.id && all sort_field_fits o.fields

abbrev pub partition_field_fits : PartitionField → Bool
partition_field_fits f = fits32 f.source && if_some fits32 f.id && fits32 f.buckets

abbrev pub spec_fits : PartitionSpec → Bool
spec_fits s = fits32 s.id && all partition_field_fits s.fields

abbrev pub statistics_fits : StatisticsFile → Bool
statistics_fits f = fits64 f.snapshot && fits64 f.size

-- ---- metadata

unfoldable pub fields_fit : SingleFields → Bool
fields_fit f =
    uuid_fits f.uuid
    && fits64 f.last_updated
    && fits64 f.last_sequence.0
    && fits_unsigned f.next_row.0
    && fits32 f.last_column
    && if_some fits64 f.current
    && fits32 f.current_schema
    && fits64 f.default_order
    && fits32 f.default_spec
    && fits32 f.last_partition

unfoldable pub metadata_fits : Metadata → Bool
metadata_fits m =
    fields_fit m.fields
    && all snapshot_fits m.snapshots
    && all ref_fits m.refs
    && all log_entry_fits m.snapshot_log
    && all file_entry_fits m.metadata_log
    && all schema_fits m.schemas
    && all order_fits m.orders
    && all statistics_fits m.statistics
    && all statistics_fits m.partition_statistics
    && all spec_fits m.specs
