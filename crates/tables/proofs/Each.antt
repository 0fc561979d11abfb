-- Each table and log as a kind of table, and so are the fields of a schema, of a sort order and of a partition spec.
use Prim.Native.Nat.{ℕ, ◌<◌}
use mathlib.Core.Path.{◌≡◌, refl, sym, ap, ◌∙◌}
use native.Mathlib.Omega.{arith}
use mathlib.Core.List.{List, []}
use borrow.Author.Tests.{leb-true}
use lib.Dec.{leb}
use lib.IntN.{ℤ}
use lib.ListN.{length, get_or}
use Rattle.records.specs.Blanks.{no_snapshot_ids, no_schema_ids, no_spec_ids, no_snapshots, no_refs, no_schemas, no_statistics_files, no_snapshot_id, no_schema_id, no_spec_id, no_snapshot, no_ref, no_schema, no_sort_order, no_statistics_file, no_log_entry, no_metadata_log_entry, no_schema_field, no_sort_field, no_partition_field, no_partition_spec, no_partition_specs}
use Rattle.records.specs.declared.counters.SnapshotId.{SnapshotId}
use Rattle.records.specs.declared.counters.SchemaId.{SchemaId}
use Rattle.records.specs.declared.counters.SpecId.{SpecId}
use Rattle.records.specs.declared.snapshot.SnapshotIds.{SnapshotIds}
use Rattle.records.specs.declared.schema.SchemaIds.{SchemaIds}
use Rattle.records.specs.declared.partition.SpecIds.{SpecIds}
use Rattle.records.specs.declared.snapshot.Snapshot.{Snapshot}
use Rattle.records.specs.declared.snapshot.Snapshots.{Snapshots}
use Rattle.records.specs.declared.snapshot.SnapshotLogEntry.{SnapshotLogEntry}
use Rattle.records.specs.declared.snapshot.SnapshotLog.{SnapshotLog}
use Rattle.records.specs.declared.reference.NamedRef.{NamedRef}
use Rattle.records.specs.declared.reference.Refs.{Refs}
use Rattle.records.specs.declared.part.RefsPart.{RefsPart}
use Rattle.records.specs.declared.schema.Schema.{Schema}
use Rattle.records.specs.declared.schema.Schemas.{Schemas}
use Rattle.records.specs.declared.schema.SchemaField.{SchemaField}
use Rattle.records.specs.declared.sort_order.SortField.{SortField}
use Rattle.records.specs.declared.sort_order.SortOrder.{SortOrder}
use Rattle.records.specs.declared.sort_order.SortOrders.{SortOrders}
use Rattle.records.specs.declared.partition.PartitionField.{PartitionField}
use Rattle.records.specs.declared.partition.PartitionSpec.{PartitionSpec}
use Rattle.records.specs.declared.partition.PartitionSpecs.{PartitionSpecs}
use Rattle.records.specs.declared.statistics.StatisticsFile.{StatisticsFile}
use Rattle.records.specs.declared.statistics.StatisticsFiles.{StatisticsFiles}
use Rattle.records.specs.declared.metadata.MetadataLogEntry.{MetadataLogEntry}
use Rattle.records.specs.declared.metadata.MetadataLog.{MetadataLog}
use Rattle.rules.specs.Register as plain
use Rattle.rules.specs.Capacities.{name_room, removal_room, snapshot_room, ref_room, schema_room, sort_order_room, statistics_room, snapshot_log_room, metadata_log_room, schema_field_room, sort_field_room, spec_room, partition_field_room}
use Rattle.rules.specs.Layout.{read_snapshot_ids, laid_snapshot_ids, read_schema_ids, laid_schema_ids, read_spec_ids, laid_spec_ids, read_snapshot, laid_snapshot, laid_snapshots, read_ref, laid_ref, laid_refs, read_schema, laid_schema, laid_schemas, read_sort_order, laid_sort_order, laid_sort_orders, read_statistics_file, laid_statistics_file, laid_statistics, read_log_entry, laid_log_entry, laid_snapshot_log, read_metadata_log_entry, laid_metadata_log_entry, laid_metadata_log, read_schema_field, laid_schema_field, read_sort_field, laid_sort_field, read_partition_field, laid_partition_field, read_partition_spec, laid_partition_spec, laid_partition_specs}
use Rattle.rules.proofs.Slots.Reread.{reread_snapshot_ids, reread_schema_ids, reread_spec_ids}
use Rattle.tables.specs.Laid.{LaidName, LaidRef, LaidRefsPart, LaidSnapshotIds, LaidSchemaIds, LaidSpecIds, LaidSnapshots, LaidRefs, LaidSchemas, LaidOrders, LaidStatistics, LaidSnapshotLog, LaidMetadataLog, LaidSchema, LaidOrder, LaidSpec, LaidSpecs}
use Rattle.tables.proofs.Table.{Kind, Tidy, Made, read_length, each_at, element_back}

abbrev pub snapshot_ids : Kind
snapshot_ids = record { Slot = SnapshotId; Plain = ℤ; Whole = SnapshotIds; room = removal_room; blank = no_snapshot_id; read = λ x. x.0; lay = λ z. record { 0 = z }; items = λ t. t.items; count = λ t. t.count }

pub tidy_snapshot_ids : {t : SnapshotIds} → LaidSnapshotIds t → Tidy snapshot_ids t
unfolding laid_snapshot_ids
tidy_snapshot_ids h = record { slots = ap (λ (t : SnapshotIds). t.items) (sym h.back); fits = h.fits }

pub made_snapshot_ids : Made snapshot_ids laid_snapshot_ids
unfolding laid_snapshot_ids
made_snapshot_ids = record { laid_items = λ l. refl; laid_count = λ l. refl; same = λ p q i. record { items = p i; count = q i } }

abbrev pub schema_ids : Kind
schema_ids = record { Slot = SchemaId; Plain = ℤ; Whole = SchemaIds; room = removal_room; blank = no_schema_id; read = λ x. x.0; lay = λ z. record { 0 = z }; items = λ t. t.items; count = λ t. t.count }

pub tidy_schema_ids : {t : SchemaIds} → LaidSchemaIds t → Tidy schema_ids t
unfolding laid_schema_ids
tidy_schema_ids h = record { slots = ap (λ (t : SchemaIds). t.items) (sym h.back); fits = h.fits }

pub made_schema_ids : Made schema_ids laid_schema_ids
unfolding laid_schema_ids
made_schema_ids = record { laid_items = λ l. refl; laid_count = λ l. refl; same = λ p q i. record { items = p i; count = q i } }

abbrev pub spec_ids : Kind
spec_ids = record { Slot = SpecId; Plain = ℤ; Whole = SpecIds; room = removal_room; blank = no_spec_id; read = λ x. x.0; lay = λ z. record { 0 = z }; items = λ t. t.items; count = λ t. t.count }

pub tidy_spec_ids : {t : SpecIds} → LaidSpecIds t → Tidy spec_ids t
unfolding laid_spec_ids
tidy_spec_ids h = record { slots = ap (λ (t : SpecIds). t.items) (sym h.back); fits = h.fits }

pub made_spec_ids : Made spec_ids laid_spec_ids
unfolding laid_spec_ids
made_spec_ids = record { laid_items = λ l. refl; laid_count = λ l. refl; same = λ p q i. record { items = p i; count = q i } }

abbrev pub snapshots : Kind
snapshots = record { Slot = Snapshot; Plain = plain.Snapshot; Whole = Snapshots; room = snapshot_room; blank = no_snapshot; read = read_snapshot; lay = laid_snapshot; items = λ t. t.items; count = λ t. t.count }

pub tidy_snapshots : {t : Snapshots} → LaidSnapshots t → Tidy snapshots t
unfolding laid_snapshots
tidy_snapshots h = record { slots = ap (λ (t : Snapshots). t.items) (sym h.back); fits = h.fits }

pub made_snapshots : Made snapshots laid_snapshots
unfolding laid_snapshots
made_snapshots = record { laid_items = λ l. refl; laid_count = λ l. refl; same = λ p q i. record { items = p i; count = q i } }

abbrev pub refs : Kind
refs = record { Slot = NamedRef; Plain = plain.NamedRef; Whole = Refs; room = ref_room; blank = no_ref; read = read_ref; lay = laid_ref; items = λ t. t.items; count = λ t. t.count }

pub tidy_refs : {t : Refs} → LaidRefs t → Tidy refs t
unfolding laid_refs
tidy_refs h = record { slots = ap (λ (t : Refs). t.items) (sym h.back); fits = h.fits }

pub made_refs : Made refs laid_refs
unfolding laid_refs
made_refs = record { laid_items = λ l. refl; laid_count = λ l. refl; same = λ p q i. record { items = p i; count = q i } }

abbrev pub schemas : Kind
schemas = record { Slot = Schema; Plain = plain.Schema; Whole = Schemas; room = schema_room; blank = no_schema; read = read_schema; lay = laid_schema; items = λ t. t.items; count = λ t. t.count }

pub tidy_schemas : {t : Schemas} → LaidSchemas t → Tidy schemas t
unfolding laid_schemas
tidy_schemas h = record { slots = ap (λ (t : Schemas). t.items) (sym h.back); fits = h.fits }

pub made_schemas : Made schemas laid_schemas
unfolding laid_schemas
made_schemas = record { laid_items = λ l. refl; laid_count = λ l. refl; same = λ p q i. record { items = p i; count = q i } }

abbrev pub sort_orders : Kind
sort_orders = record { Slot = SortOrder; Plain = plain.SortOrder; Whole = SortOrders; room = sort_order_room; blank = no_sort_order; read = read_sort_order; lay = laid_sort_order; items = λ t. t.items; count = λ t. t.count }

pub tidy_sort_orders : {t : SortOrders} → LaidOrders t → Tidy sort_orders t
unfolding laid_sort_orders
tidy_sort_orders h = record { slots = ap (λ (t : SortOrders). t.items) (sym h.back); fits = h.fits }

pub made_sort_orders : Made sort_orders laid_sort_orders
unfolding laid_sort_orders
made_sort_orders = record { laid_items = λ l. refl; laid_count = λ l. refl; same = λ p q i. record { items = p i; count = q i } }

abbrev pub partition_specs : Kind
partition_specs = record { Slot = PartitionSpec; Plain = plain.PartitionSpec; Whole = PartitionSpecs; room = spec_room; blank = no_partition_spec; read = read_partition_spec; lay = laid_partition_spec; items = λ t. t.items; count = λ t. t.count }

pub tidy_partition_specs : {t : PartitionSpecs} → LaidSpecs t → Tidy partition_specs t
unfolding laid_partition_specs
tidy_partition_specs h = record { slots = ap (λ (t : PartitionSpecs). t.items) (sym h.back); fits = h.fits }

pub made_partition_specs : Made partition_specs laid_partition_specs
unfolding laid_partition_specs
made_partition_specs = record { laid_items = λ l. refl; laid_count = λ l. refl; same = λ p q i. record { items = p i; count = q i } }

abbrev pub statistics : Kind
statistics = record { Slot = StatisticsFile; Plain = plain.StatisticsFile; Whole = StatisticsFiles; room = statistics_room; blank = no_statistics_file; read = read_statistics_file; lay = laid_statistics_file; items = λ t. t.items; count = λ t. t.count }

pub tidy_statistics : {t : StatisticsFiles} → LaidStatistics t → Tidy statistics t
unfolding laid_statistics
tidy_statistics h = record { slots = ap (λ (t : StatisticsFiles). t.items) (sym h.back); fits = h.fits }

pub made_statistics : Made statistics laid_statistics
unfolding laid_statistics
made_statistics = record { laid_items = λ l. refl; laid_count = λ l. refl; same = λ p q i. record { items = p i; count = q i } }

abbrev pub snapshot_log : Kind
snapshot_log = record { Slot = SnapshotLogEntry; Plain = plain.LogEntry; Whole = SnapshotLog; room = snapshot_log_room; blank = no_log_entry; read = read_log_entry; lay = laid_log_entry; items = λ t. t.items; count = λ t. t.count }

pub tidy_snapshot_log : {t : SnapshotLog} → LaidSnapshotLog t → Tidy snapshot_log t
unfolding laid_snapshot_log
tidy_snapshot_log h = record { slots = ap (λ (t : SnapshotLog). t.items) (sym h.back); fits = h.fits }

pub made_snapshot_log : Made snapshot_log laid_snapshot_log
unfolding laid_snapshot_log
made_snapshot_log = record { laid_items = λ l. refl; laid_count = λ l. refl; same = λ p q i. record { items = p i; count = q i } }

abbrev pub metadata_log : Kind
metadata_log = record { Slot = MetadataLogEntry; Plain = plain.FileEntry; Whole = MetadataLog; room = metadata_log_room; blank = no_metadata_log_entry; read = read_metadata_log_entry; lay = laid_metadata_log_entry; items = λ t. t.items; count = λ t. t.count }

pub tidy_metadata_log : {t : MetadataLog} → LaidMetadataLog t → Tidy metadata_log t
unfolding laid_metadata_log
tidy_metadata_log h = record { slots = ap (λ (t : MetadataLog). t.items) (sym h.back); fits = h.fits }

pub made_metadata_log : Made metadata_log laid_metadata_log
unfolding laid_metadata_log
made_metadata_log = record { laid_items = λ l. refl; laid_count = λ l. refl; same = λ p q i. record { items = p i; count = q i } }

abbrev pub schema_fields : Kind
schema_fields = record { Slot = SchemaField; Plain = plain.SchemaField; Whole = Schema; room = schema_field_room; blank = no_schema_field; read = read_schema_field; lay = laid_schema_field; items = λ t. t.items; count = λ t. t.count }

pub tidy_schema : {t : Schema} → LaidSchema t → Tidy schema_fields t
unfolding laid_schema
tidy_schema h = record { slots = ap (λ (t : Schema). t.items) (sym h.back); fits = h.fits }

abbrev pub sort_fields : Kind
sort_fields = record { Slot = SortField; Plain = plain.SortField; Whole = SortOrder; room = sort_field_room; blank = no_sort_field; read = read_sort_field; lay = laid_sort_field; items = λ t. t.items; count = λ t. t.count }

pub tidy_sort_order : {t : SortOrder} → LaidOrder t → Tidy sort_fields t
unfolding laid_sort_order
tidy_sort_order h = record { slots = ap (λ (t : SortOrder). t.items) (sym h.back); fits = h.fits }

abbrev pub partition_fields : Kind
partition_fields = record { Slot = PartitionField; Plain = plain.PartitionField; Whole = PartitionSpec; room = partition_field_room; blank = no_partition_field; read = read_partition_field; lay = laid_partition_field; items = λ t. t.items; count = λ t. t.count }

pub tidy_partition_spec : {t : PartitionSpec} → LaidSpec t → Tidy partition_fields t
unfolding laid_partition_spec
tidy_partition_spec h = record { slots = ap (λ (t : PartitionSpec). t.items) (sym h.back); fits = h.fits }

-- ---- what stands in a table is laid out from what is read of it, and fits

pub name_of : {r : NamedRef} → LaidRef r → LaidName r.name
unfolding laid_ref
name_of h = record { back = ap (λ (r : NamedRef). r.name) h.back; fits = h.fits }

-- the ref of a part, whoever owns it
pub part_ref : {p : RefsPart} → LaidRefsPart p → (o : ℕ) → LaidRef (record { name = p.name; reference = p.reference; owner = o })
unfolding laid_ref
part_ref h o = record { back = λ i. record { name = h.name.back i; reference = h.reference i; owner = o }; fits = h.name.fits }

pub ref_at_lem : {t : Refs} → LaidRefs t → (i : ℕ) (d : NamedRef) → i < t.count → LaidRef (get_or t.items i d)
ref_at_lem h i d b = record { back = element_back (tidy_refs h) i d b; fits = leb-true _ _ (each_at (tidy_refs h) i d b (λ (r : plain.NamedRef). leb (length r.name) name_room) h.names) }

pub schema_at_lem : {t : Schemas} → LaidSchemas t → (i : ℕ) (d : Schema) → i < t.count → LaidSchema (get_or t.items i d)
schema_at_lem h i d b = record { back = element_back (tidy_schemas h) i d b; fits = leb-true _ _ (each_at (tidy_schemas h) i d b (λ (s : plain.Schema). leb (length s.fields) schema_field_room) h.fields) }

pub order_at_lem : {t : SortOrders} → LaidOrders t → (i : ℕ) (d : SortOrder) → i < t.count → LaidOrder (get_or t.items i d)
order_at_lem h i d b = record { back = element_back (tidy_sort_orders h) i d b; fits = leb-true _ _ (each_at (tidy_sort_orders h) i d b (λ (o : plain.SortOrder). leb (length o.fields) sort_field_room) h.fields) }

pub spec_at_lem : {t : PartitionSpecs} → LaidSpecs t → (i : ℕ) (d : PartitionSpec) → i < t.count → LaidSpec (get_or t.items i d)
spec_at_lem h i d b = record { back = element_back (tidy_partition_specs h) i d b; fits = leb-true _ _ (each_at (tidy_partition_specs h) i d b (λ (s : plain.PartitionSpec). leb (length s.fields) partition_field_room) h.fields) }

-- ---- lists of ids that were laid out

pub read_snapshot_ids_lem : {r : SnapshotIds} (l : List ℤ) → r ≡ laid_snapshot_ids l → read_snapshot_ids r ≡ l
read_snapshot_ids_lem l e = ap read_snapshot_ids e ∙ reread_snapshot_ids l

pub room_snapshot_ids : {r : SnapshotIds} (l : List ℤ) → r ≡ laid_snapshot_ids l → length l < removal_room → LaidSnapshotIds r × (r.count < removal_room)
room_snapshot_ids {r} l e f =
    let q = read_snapshot_ids_lem l e in
    let n : length (read_snapshot_ids r) ≡ length l = ap length q in
    let t : LaidSnapshotIds r = record { back = ap laid_snapshot_ids q ∙ sym e; fits = omega arith } in
    (t, omega (arith, n, read_length (tidy_snapshot_ids t)))

pub read_schema_ids_lem : {r : SchemaIds} (l : List ℤ) → r ≡ laid_schema_ids l → read_schema_ids r ≡ l
read_schema_ids_lem l e = ap read_schema_ids e ∙ reread_schema_ids l

pub room_schema_ids : {r : SchemaIds} (l : List ℤ) → r ≡ laid_schema_ids l → length l < removal_room → LaidSchemaIds r × (r.count < removal_room)
room_schema_ids {r} l e f =
    let q = read_schema_ids_lem l e in
    let n : length (read_schema_ids r) ≡ length l = ap length q in
    let t : LaidSchemaIds r = record { back = ap laid_schema_ids q ∙ sym e; fits = omega arith } in
    (t, omega (arith, n, read_length (tidy_schema_ids t)))

pub read_spec_ids_lem : {r : SpecIds} (l : List ℤ) → r ≡ laid_spec_ids l → read_spec_ids r ≡ l
read_spec_ids_lem l e = ap read_spec_ids e ∙ reread_spec_ids l

pub room_spec_ids : {r : SpecIds} (l : List ℤ) → r ≡ laid_spec_ids l → length l < removal_room → LaidSpecIds r × (r.count < removal_room)
room_spec_ids {r} l e f =
    let q = read_spec_ids_lem l e in
    let n : length (read_spec_ids r) ≡ length l = ap length q in
    let t : LaidSpecIds r = record { back = ap laid_spec_ids q ∙ sym e; fits = omega arith } in
    (t, omega (arith, n, read_length (tidy_spec_ids t)))

-- ---- the blank tables

pub none_snapshot_ids : no_snapshot_ids ≡ laid_snapshot_ids []
unfolding laid_snapshot_ids
none_snapshot_ids = refl

pub none_schema_ids : no_schema_ids ≡ laid_schema_ids []
unfolding laid_schema_ids
none_schema_ids = refl

pub none_spec_ids : no_spec_ids ≡ laid_spec_ids []
unfolding laid_spec_ids
none_spec_ids = refl

pub none_snapshots : no_snapshots ≡ laid_snapshots []
unfolding no_snapshots laid_snapshots
none_snapshots = refl

pub none_refs : no_refs ≡ laid_refs []
unfolding no_refs laid_refs
none_refs = refl

pub none_schemas : no_schemas ≡ laid_schemas []
unfolding no_schemas laid_schemas
none_schemas = refl

pub none_statistics : no_statistics_files ≡ laid_statistics []
unfolding no_statistics_files laid_statistics
none_statistics = refl

pub none_partition_specs : no_partition_specs ≡ laid_partition_specs []
unfolding no_partition_specs laid_partition_specs
none_partition_specs = refl
