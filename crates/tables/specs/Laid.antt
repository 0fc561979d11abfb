-- Records that are laid out from what is read of them, within their capacities. Tables of well-formed metadata are (`relaid`, of the rules).
use Rattle.std.specs.Prelude.{ℕ, ◌≤◌, ◌≡◌, true, List, leb, length}
use Rattle.records.specs.declared.text.Name.{Name}
use Rattle.records.specs.declared.snapshot.Snapshots.{Snapshots}
use Rattle.records.specs.declared.snapshot.SnapshotIds.{SnapshotIds}
use Rattle.records.specs.declared.snapshot.SnapshotLog.{SnapshotLog}
use Rattle.records.specs.declared.reference.NamedRef.{NamedRef}
use Rattle.records.specs.declared.reference.Refs.{Refs}
use Rattle.records.specs.declared.part.RefsPart.{RefsPart}
use Rattle.records.specs.declared.schema.Schema.{Schema}
use Rattle.records.specs.declared.schema.Schemas.{Schemas}
use Rattle.records.specs.declared.schema.SchemaIds.{SchemaIds}
use Rattle.records.specs.declared.partition.SpecIds.{SpecIds}
use Rattle.records.specs.declared.sort_order.SortOrder.{SortOrder}
use Rattle.records.specs.declared.sort_order.SortOrders.{SortOrders}
use Rattle.records.specs.declared.partition.PartitionSpec.{PartitionSpec}
use Rattle.records.specs.declared.partition.PartitionSpecs.{PartitionSpecs}
use Rattle.records.specs.declared.statistics.StatisticsFile.{StatisticsFile}
use Rattle.records.specs.declared.statistics.StatisticsFiles.{StatisticsFiles}
use Rattle.records.specs.declared.metadata.MetadataLog.{MetadataLog}
use Rattle.rules.specs.Words.{all}
use Rattle.rules.specs.RefUpdates.{owner_after}
use Rattle.rules.specs.Capacities.{snapshot_room, ref_room, snapshot_log_room, metadata_log_room, schema_room, schema_field_room, sort_order_room, sort_field_room, spec_room, partition_field_room, statistics_room, removal_room, name_room}
use Rattle.rules.specs.Layout.{read_name, laid_name, read_snapshots, laid_snapshots, read_snapshot_ids, laid_snapshot_ids, read_snapshot_log, laid_snapshot_log, read_reference, laid_reference, read_ref, laid_ref, read_refs, laid_refs, read_schema, laid_schema, read_schemas, laid_schemas, read_schema_ids, laid_schema_ids, read_spec_ids, laid_spec_ids, read_sort_order, laid_sort_order, read_sort_orders, laid_sort_orders, read_partition_spec, laid_partition_spec, read_partition_specs, laid_partition_specs, read_statistics_file, laid_statistics_file, read_statistics, laid_statistics, read_metadata_log, laid_metadata_log}
use Rattle.rules.specs.Register as plain

-- ---- texts

pub record LaidName (t : Name) : Type 0 where
  pub back : laid_name (read_name t) ≡ t
  pub fits : length (read_name t) ≤ name_room

-- ---- records

pub record LaidRef (r : NamedRef) : Type 0 where
  pub back : laid_ref (read_ref r) ≡ r
  pub fits : length (read_name r.name) ≤ name_room

-- a ref as an update offers it
pub record LaidRefsPart (p : RefsPart) : Type 0 where
  pub name : LaidName p.name
  pub reference : laid_reference (read_reference p.reference) ≡ p.reference

-- the ref that it makes among some: with the owner of the one that has its name, or the office
abbrev pub owned_ref : ℕ → RefsPart → List plain.NamedRef → plain.NamedRef
owned_ref office p l = record { name = read_name p.name; owner = owner_after office (read_name p.name) l; reference = read_reference p.reference }

pub record LaidSchema (s : Schema) : Type 0 where
  pub back : laid_schema (read_schema s) ≡ s
  pub fits : length (read_schema s).fields ≤ schema_field_room

pub record LaidOrder (o : SortOrder) : Type 0 where
  pub back : laid_sort_order (read_sort_order o) ≡ o
  pub fits : length (read_sort_order o).fields ≤ sort_field_room

pub record LaidSpec (s : PartitionSpec) : Type 0 where
  pub back : laid_partition_spec (read_partition_spec s) ≡ s
  pub fits : length (read_partition_spec s).fields ≤ partition_field_room

pub record LaidStatisticsFile (f : StatisticsFile) : Type 0 where
  pub back : laid_statistics_file (read_statistics_file f) ≡ f

-- ---- tables and logs

pub record LaidSnapshots (t : Snapshots) : Type 0 where
  pub back : laid_snapshots (read_snapshots t) ≡ t
  pub fits : length (read_snapshots t) ≤ snapshot_room

pub record LaidRefs (t : Refs) : Type 0 where
  pub back : laid_refs (read_refs t) ≡ t
  pub fits : length (read_refs t) ≤ ref_room
  pub names : all (λ (r : plain.NamedRef). leb (length r.name) name_room) (read_refs t) ≡ true

pub record LaidSchemas (t : Schemas) : Type 0 where
  pub back : laid_schemas (read_schemas t) ≡ t
  pub fits : length (read_schemas t) ≤ schema_room
  pub fields : all (λ (s : plain.Schema). leb (length s.fields) schema_field_room) (read_schemas t) ≡ true

pub record LaidOrders (t : SortOrders) : Type 0 where
  pub back : laid_sort_orders (read_sort_orders t) ≡ t
  pub fits : length (read_sort_orders t) ≤ sort_order_room
  pub fields : all (λ (o : plain.SortOrder). leb (length o.fields) sort_field_room) (read_sort_orders t) ≡ true

pub record LaidSpecs (t : PartitionSpecs) : Type 0 where
  pub back : laid_partition_specs (read_partition_specs t) ≡ t
  pub fits : length (read_partition_specs t) ≤ spec_room
  pub fields : all (λ (s : plain.PartitionSpec). leb (length s.fields) partition_field_room) (read_partition_specs t) ≡ true

pub record LaidStatistics (t : StatisticsFiles) : Type 0 where
  pub back : laid_statistics (read_statistics t) ≡ t
  pub fits : length (read_statistics t) ≤ statistics_room

pub record LaidSnapshotLog (t : SnapshotLog) : Type 0 where
  pub back : laid_snapshot_log (read_snapshot_log t) ≡ t
  pub fits : length (read_snapshot_log t) ≤ snapshot_log_room

pub record LaidMetadataLog (t : MetadataLog) : Type 0 where
  pub back : laid_metadata_log (read_metadata_log t) ≡ t
  pub fits : length (read_metadata_log t) ≤ metadata_log_room

pub record LaidSnapshotIds (t : SnapshotIds) : Type 0 where
  pub back : laid_snapshot_ids (read_snapshot_ids t) ≡ t
  pub fits : length (read_snapshot_ids t) ≤ removal_room

pub record LaidSchemaIds (t : SchemaIds) : Type 0 where
  pub back : laid_schema_ids (read_schema_ids t) ≡ t
  pub fits : length (read_schema_ids t) ≤ removal_room

pub record LaidSpecIds (t : SpecIds) : Type 0 where
  pub back : laid_spec_ids (read_spec_ids t) ≡ t
  pub fits : length (read_spec_ids t) ≤ removal_room
