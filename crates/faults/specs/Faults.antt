-- Which part of a start is at fault, where a run is refused with 1: the first test that fails has the number. The tests are document 01's ("Capacities and
-- well-formed records", and "current file's name too long"), as the crate `rules` writes them; their order and the numbers are ours.
-- Each part by itself comes first, in the order of the record; then what the parts say of each other; then the file's name.
use Rattle.std.specs.Prelude.{ℕ, ◌+◌, Bool, not, ◌&&◌, ◌||◌, List, [], ◌∷◌, ◌++◌, leb, length}
use Rattle.std.specs.Int.Signed.{non_neg}
use Rattle.records.specs.declared.snapshot.Snapshots.{Snapshots}
use Rattle.records.specs.declared.snapshot.SnapshotLog.{SnapshotLog}
use Rattle.records.specs.declared.reference.Refs.{Refs}
use Rattle.records.specs.declared.schema.Schemas.{Schemas}
use Rattle.records.specs.declared.sort_order.SortOrders.{SortOrders}
use Rattle.records.specs.declared.partition.PartitionSpecs.{PartitionSpecs}
use Rattle.records.specs.declared.statistics.StatisticsFiles.{StatisticsFiles}
use Rattle.records.specs.declared.metadata.MetadataLog.{MetadataLog}
use Rattle.records.specs.declared.metadata.SingleFields.{SingleFields}
use Rattle.records.specs.declared.metadata.TableMetadata.{TableMetadata}
use Rattle.records.specs.declared.run.RunTerms.{RunTerms}
use Rattle.rules.specs.Words.{if_some, all, ascending, first_of, Check}
use Rattle.rules.specs.Capacities.{snapshot_room, ref_room, snapshot_log_room, metadata_log_room, schema_room, sort_order_room, spec_room, statistics_room}
use Rattle.rules.specs.Register as plain
use Rattle.rules.specs.WellFormed.{version_formed, location_formed, file_name_formed, snapshot_formed, owner_formed, ref_formed, schema_formed, order_formed, spec_formed, statistics_file_formed, snapshot_below, ref_below, schema_below, order_below, spec_below, statistics_below, refs_held, main_agrees, current_schema_held, default_order_held, default_spec_held}
use Rattle.rules.specs.Blanks.{is_zero_z, is_tidy_text, is_tidy_snapshots, is_tidy_snapshot_log, is_tidy_refs, is_tidy_schemas, is_tidy_sort_orders, is_tidy_partition_specs, is_tidy_statistics, is_tidy_metadata_log}
use Rattle.rules.specs.Layout.{read_text, read_snapshots, read_snapshot_log, read_refs, read_schemas, read_sort_orders, read_partition_specs, read_statistics, read_metadata_log, read_metadata}
use Rattle.rules.specs.Answer.{read_terms}

-- ---- a part by itself

-- a log that is read as a list, with numbers from n on: there is room for what it counts; each entry is well formed, and what is unused is blank
abbrev pub log_faults : {A : Type 0} → ℕ → ℕ → Bool → (A → Bool) → List A → List Check
log_faults n room tidy formed l = (not (leb (length l) room), n) ∷ (not (tidy && all formed l), n + 1) ∷ []

-- a table has a third: its keys ascend
abbrev pub table_faults : {A : Type 0} → ℕ → ℕ → Bool → (A → Bool) → (A → A → Bool) → List A → List Check
table_faults n room tidy formed below l = (not (leb (length l) room), n) ∷ (not (tidy && all formed l), n + 1) ∷ (not (ascending below l), n + 2) ∷ []

unfoldable pub field_faults : SingleFields → List Check
field_faults f =
    (not (version_formed f.format_version), 1)
    ∷ (not (is_tidy_text f.location && location_formed (read_text f.location)), 2)
    ∷ (not (non_neg f.last_sequence_number.0), 3)
    ∷ (not (f.has_current || is_zero_z f.current_snapshot_id.0), 4)
    ∷ (not (non_neg f.last_partition_id.0), 5)
    ∷ []

unfoldable pub snapshot_faults : Snapshots → List Check
snapshot_faults t = table_faults 6 snapshot_room (is_tidy_snapshots t) snapshot_formed snapshot_below (read_snapshots t)

-- refs that there is room for are asked their owners first
unfoldable pub ref_faults : Refs → List Check
ref_faults t =
    (leb (length (read_refs t)) ref_room && not (all owner_formed (read_refs t)), 37)
    ∷ table_faults 9 ref_room (is_tidy_refs t) ref_formed ref_below (read_refs t)

unfoldable pub snapshot_log_faults : SnapshotLog → List Check
snapshot_log_faults t = log_faults 12 snapshot_log_room (is_tidy_snapshot_log t) (λ (e : plain.LogEntry). non_neg e.snapshot) (read_snapshot_log t)

unfoldable pub metadata_log_faults : MetadataLog → List Check
metadata_log_faults t = log_faults 14 metadata_log_room (is_tidy_metadata_log t) (λ (e : plain.FileEntry). file_name_formed e.file) (read_metadata_log t)

unfoldable pub schema_faults : Schemas → List Check
schema_faults t = table_faults 16 schema_room (is_tidy_schemas t) schema_formed schema_below (read_schemas t)

unfoldable pub order_faults : SortOrders → List Check
order_faults t = table_faults 19 sort_order_room (is_tidy_sort_orders t) order_formed order_below (read_sort_orders t)

unfoldable pub statistics_faults : ℕ → StatisticsFiles → List Check
statistics_faults n t = table_faults n statistics_room (is_tidy_statistics t) statistics_file_formed statistics_below (read_statistics t)

unfoldable pub spec_faults : PartitionSpecs → List Check
spec_faults t = table_faults 28 spec_room (is_tidy_partition_specs t) spec_formed spec_below (read_partition_specs t)

unfoldable pub part_faults : TableMetadata → List Check
part_faults m =
    field_faults m.fields
    ++ (snapshot_faults m.snapshots
    ++ (ref_faults m.refs
    ++ (snapshot_log_faults m.snapshot_log
    ++ (metadata_log_faults m.metadata_log
    ++ (schema_faults m.schemas
    ++ (order_faults m.sort_orders
    ++ (statistics_faults 22 m.statistics
    ++ (statistics_faults 25 m.partition_statistics
    ++ spec_faults m.partition_specs))))))))

-- ---- what the parts say of each other

unfoldable pub agreement_faults : plain.Metadata → List Check
agreement_faults m =
    (not (refs_held m), 31)
    ∷ (not (main_agrees m), 32)
    ∷ (not (current_schema_held m), 33)
    ∷ (not (default_order_held m), 34)
    ∷ (not (default_spec_held m), 35)
    ∷ []

-- ---- the first fault; 0 where there is none

unfoldable pub metadata_faults : TableMetadata → List Check
metadata_faults m = part_faults m ++ agreement_faults (read_metadata m)

unfoldable pub metadata_fault : TableMetadata → ℕ
metadata_fault m = first_of (metadata_faults m)

-- the limit text is not asked for: any will do
unfoldable pub file_faults : RunTerms → List Check
file_faults terms = (not (if_some file_name_formed (read_terms terms (record { text = []; offers = [] })).file), 36) ∷ []

unfoldable pub start_fault : TableMetadata → RunTerms → ℕ
start_fault m terms = first_of (metadata_faults m ++ file_faults terms)
