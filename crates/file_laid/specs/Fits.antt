-- Metadata that fits into its slots: no table, no list of fields and no text is longer than its room. Nothing else is asked of it.
use Rattle.std.specs.Prelude.{ℕ, ◌≡◌, Bool, true, ◌&&◌, List, leb, length}
use Rattle.rules.specs.Words.{all}
use Rattle.rules.specs.Capacities.{name_room, text_room, snapshot_room, ref_room, snapshot_log_room, metadata_log_room, schema_room, schema_field_room, sort_order_room, sort_field_room, spec_room, partition_field_room, statistics_room}
use Rattle.rules.specs.Register.{NamedRef, FileEntry, SchemaField, Schema, SortOrder, PartitionField, PartitionSpec, StatisticsFile, Metadata}

-- ---- records

abbrev pub ref_fits : NamedRef → Bool
ref_fits r = leb (length r.name) name_room

abbrev pub file_entry_fits : FileEntry → Bool
file_entry_fits e = leb (length e.file) text_room

abbrev pub statistics_fits : StatisticsFile → Bool
statistics_fits f = leb (length f.path) text_room

abbrev pub field_fits : SchemaField → Bool
field_fits f = leb (length f.name) name_room

abbrev pub schema_fits : Schema → Bool
schema_fits s = leb (length s.fields) schema_field_room && all field_fits s.fields

abbrev pub order_fits : SortOrder → Bool
order_fits o = leb (length o.fields) sort_field_room

abbrev pub partition_field_fits : PartitionField → Bool
partition_field_fits f = leb (length f.name) name_room

abbrev pub spec_fits : PartitionSpec → Bool
spec_fits s = leb (length s.fields) partition_field_room && all partition_field_fits s.fields

-- ---- tables

-- there are at most so many, and each of them fits
pub record Within {A : Type 0} (room : ℕ) (fits : A → Bool) (l : List A) : Type 0 where
  pub few : leb (length l) room ≡ true
  pub each : all fits l ≡ true

pub record Fits (m : Metadata) : Type 0 where
  pub location : leb (length m.fields.location) text_room ≡ true
  pub snapshots : leb (length m.snapshots) snapshot_room ≡ true
  pub refs : Within ref_room ref_fits m.refs
  pub snapshot_log : leb (length m.snapshot_log) snapshot_log_room ≡ true
  pub metadata_log : Within metadata_log_room file_entry_fits m.metadata_log
  pub schemas : Within schema_room schema_fits m.schemas
  pub orders : Within sort_order_room order_fits m.orders
  pub statistics : Within statistics_room statistics_fits m.statistics
  pub partition_statistics : Within statistics_room statistics_fits m.partition_statistics
  pub specs : Within spec_room spec_fits m.specs
