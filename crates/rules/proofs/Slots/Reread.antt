-- Reading what was laid gives it back: of metadata whatever it is, of an update where it is well formed.
use Prim.Native.Nat.{ℕ, ◌-◌}
use native.Mathlib.Omega.{arith}
use mathlib.Core.Path.{◌≡◌, refl, ap, ap₂}
use mathlib.Core.Bool.{Bool, true, false≢true}
use mathlib.Core.List.{List, [], ◌∷◌, map, append-nil}
use mathlib.Core.Option.{Option, none, some}
use lib.IntN.{ℤ, pos}
use lib.ListN.{length, replicate, length-append, length-map}
use lib.Seq.{take-append_seam}
use Rattle.records.specs.Blanks.{no_snapshot_id, no_snapshot, no_log_entry, no_ref, no_schema_field, no_schema, no_schema_id, no_sort_field, no_sort_order, no_partition_field, no_partition_spec, no_offered_id, no_spec_id, no_statistics_file, no_metadata_log_entry, no_update}
use Rattle.records.specs.declared.counters.SnapshotId.{SnapshotId}
use Rattle.records.specs.declared.counters.SchemaId.{SchemaId}
use Rattle.records.specs.declared.counters.SpecId.{SpecId}
use Rattle.rules.specs.Words.{is_some, or_else, all}
use Rattle.rules.specs.Capacities.{snapshot_room, ref_room, snapshot_log_room, metadata_log_room, schema_room, schema_field_room, sort_order_room, sort_field_room, spec_room, partition_field_room, statistics_room, removal_room, name_room, text_room, list_room}
use Rattle.rules.specs.Register as plain
use Rattle.rules.specs.Register.{Update}
use Rattle.rules.specs.Register.Update.{AssignUuid, UpgradeFormatVersion, SetLocation, AddSnapshot, SetBranchSnapshot, RemoveSnapshots, SetRef, RemoveRef, AddSchema, SetCurrentSchema, RemoveSchemas, AddSortOrder, SetDefaultSortOrder, SetStatistics, RemoveStatistics, AddPartitionSpec, SetDefaultPartitionSpec, RemovePartitionSpecs, NotFormed}
use Rattle.rules.specs.Register.StatisticsTable.{Statistics, PartitionStatistics}
use Rattle.rules.specs.WellFormed.{update_formed}
use Rattle.rules.specs.Layout.{counted, pad, given, first_row, added_rows, read_name, laid_name, read_text, laid_text, read_snapshot, laid_snapshot, read_snapshots, laid_snapshots, read_snapshot_ids, laid_snapshot_ids, read_log_entry, laid_log_entry, read_snapshot_log, laid_snapshot_log, read_reference, laid_reference, read_ref, laid_ref, read_refs, laid_refs, read_schema_field, laid_schema_field, read_schema, laid_schema, read_schemas, laid_schemas, read_schema_ids, laid_schema_ids, read_sort_field, laid_sort_field, read_sort_order, laid_sort_order, read_sort_orders, laid_sort_orders, read_partition_field, laid_partition_field, read_partition_spec, laid_partition_spec, read_partition_specs, laid_partition_specs, read_offered_id, laid_offered_id, read_spec_offer, laid_spec_offer, read_spec_ids, laid_spec_ids, read_statistics_file, laid_statistics_file, read_statistics, laid_statistics, read_metadata_log_entry, laid_metadata_log_entry, read_metadata_log, laid_metadata_log, read_fields, laid_fields, read_metadata, laid_metadata}
use Rattle.rules.specs.Kinds.{read_kind, read_update, laid_update, read_updates, laid_updates}
use Rattle.rules.proofs.Checks.{and_left, and_right}
use Rattle.rules.proofs.Slots.Laid.{tidy_update}

-- ---- values behind a flag

reread_number : (o : Option ℤ) → given (is_some o) (or_else o (pos 0)) ≡ o
reread_number none = refl
reread_number (some z) = refl

reread_rows : (o : Option plain.RowRange) → given (is_some o) (record { first = first_row o; added = added_rows o }) ≡ o
reread_rows none = refl
reread_rows (some r) = refl

-- ---- slots

-- as many of a padded list as it had elements are the list
pub counted_pad : {A : Type 0} (room : ℕ) (b : A) (l : List A) → counted b (pad room b l) (length l) ≡ l
counted_pad room b l =
    let z : length l - length (pad room b l) ≡ 0 = simp length-append (omega arith) in
    rw (take-append_seam l (replicate (room - length l) b), z, append-nil)

module _ {A B : Type 0} (rd : A → B) (ld : B → A) where
  -- the same of a list of records, each laid
  pub slots_reread : (room : ℕ) (b : A) (l : List B) → map rd (map ld l) ≡ l → map rd (counted b (pad room b (map ld l)) (length l)) ≡ l
  slots_reread room b l e = rw (← (length-map l ld), counted_pad room b (map ld l)) e

  -- records that come back by themselves
  pub table_reread : ((y : B) → rd (ld y) ≡ y) → (room : ℕ) (b : A) (l : List B) → map rd (counted b (pad room b (map ld l)) (length l)) ≡ l
  table_reread reread room b l = slots_reread room b l (each l)
    where
      each : (l : List B) → map rd (map ld l) ≡ l
      each [] = refl
      each (y ∷ l) = ap₂ {C = List B} ◌∷◌ (reread y) (each l)

  -- records that come back where they are well formed
  pub formed_reread : (is_formed : B → Bool) → ((y : B) → is_formed y ≡ true → rd (ld y) ≡ y) → (room : ℕ) (b : A) (l : List B) → all is_formed l ≡ true
      → map rd (counted b (pad room b (map ld l)) (length l)) ≡ l
  formed_reread is_formed reread room b l f = slots_reread room b l (each l f)
    where
      each : (l : List B) → all is_formed l ≡ true → map rd (map ld l) ≡ l
      each [] f = refl
      each (y ∷ l) f = ap₂ {C = List B} ◌∷◌ (reread y (and_left (is_formed y) _ f)) (each l (and_right (is_formed y) _ f))

-- ---- texts

pub reread_ref_name : (l : List ℕ) → read_name (laid_name l) ≡ l
unfolding laid_name
reread_ref_name l = counted_pad name_room 0 l

pub reread_text : (l : List ℕ) → read_text (laid_text l) ≡ l
unfolding laid_text
reread_text l = counted_pad text_room 0 l

-- ---- snapshots

pub reread_snapshot : (s : plain.Snapshot) → read_snapshot (laid_snapshot s) ≡ s
unfolding laid_snapshot
reread_snapshot s = λ i. record { id = s.id; parent = reread_number s.parent i; sequence = s.sequence; time = s.time; rows = reread_rows s.rows i }

pub reread_snapshots : (l : List plain.Snapshot) → read_snapshots (laid_snapshots l) ≡ l
unfolding laid_snapshots
reread_snapshots l = table_reread read_snapshot laid_snapshot reread_snapshot snapshot_room no_snapshot l

pub reread_snapshot_ids : (l : List ℤ) → read_snapshot_ids (laid_snapshot_ids l) ≡ l
unfolding laid_snapshot_ids
reread_snapshot_ids l = table_reread (λ (i : SnapshotId). i.0) (λ (z : ℤ). record { 0 = z }) (λ z. refl) removal_room no_snapshot_id l

pub reread_snapshot_log : (l : List plain.LogEntry) → read_snapshot_log (laid_snapshot_log l) ≡ l
unfolding laid_snapshot_log
reread_snapshot_log l = table_reread read_log_entry laid_log_entry (λ e. refl) snapshot_log_room no_log_entry l

-- ---- refs

pub reread_reference : (r : plain.Reference) → read_reference (laid_reference r) ≡ r
unfolding laid_reference
reread_reference r = λ i. record { snapshot = r.snapshot; kind = r.kind; min_snapshots = reread_number r.min_snapshots i; max_snapshot_age = reread_number r.max_snapshot_age i; max_ref_age = reread_number r.max_ref_age i }

pub reread_ref : (r : plain.NamedRef) → read_ref (laid_ref r) ≡ r
unfolding laid_ref
reread_ref r = λ i. record { name = reread_ref_name r.name i; owner = r.owner; reference = reread_reference r.reference i }

pub reread_refs : (l : List plain.NamedRef) → read_refs (laid_refs l) ≡ l
unfolding laid_refs
reread_refs l = table_reread read_ref laid_ref reread_ref ref_room no_ref l

-- ---- schemas

pub reread_schema_field : (f : plain.SchemaField) → read_schema_field (laid_schema_field f) ≡ f
unfolding laid_schema_field
reread_schema_field f = λ i. record { id = f.id; field_type = f.field_type; name = reread_ref_name f.name i }

pub reread_schema : (s : plain.Schema) → read_schema (laid_schema s) ≡ s
unfolding laid_schema
reread_schema s = let f = table_reread read_schema_field laid_schema_field reread_schema_field schema_field_room no_schema_field s.fields in λ i. record { id = s.id; fields = f i }

pub reread_schemas : (l : List plain.Schema) → read_schemas (laid_schemas l) ≡ l
unfolding laid_schemas
reread_schemas l = table_reread read_schema laid_schema reread_schema schema_room no_schema l

pub reread_schema_ids : (l : List ℤ) → read_schema_ids (laid_schema_ids l) ≡ l
unfolding laid_schema_ids
reread_schema_ids l = table_reread (λ (i : SchemaId). i.0) (λ (z : ℤ). record { 0 = z }) (λ z. refl) removal_room no_schema_id l

-- ---- sort orders

pub reread_sort_order : (o : plain.SortOrder) → read_sort_order (laid_sort_order o) ≡ o
unfolding laid_sort_order
reread_sort_order o = let f = table_reread read_sort_field laid_sort_field (λ x. refl) sort_field_room no_sort_field o.fields in λ i. record { id = o.id; fields = f i }

pub reread_sort_orders : (l : List plain.SortOrder) → read_sort_orders (laid_sort_orders l) ≡ l
unfolding laid_sort_orders
reread_sort_orders l = table_reread read_sort_order laid_sort_order reread_sort_order sort_order_room no_sort_order l

-- ---- partition specs

pub reread_partition_field : (f : plain.PartitionField) → read_partition_field (laid_partition_field f) ≡ f
unfolding laid_partition_field
reread_partition_field f = λ i. record { source = f.source; id = reread_number f.id i; transform = f.transform; buckets = f.buckets; name = reread_ref_name f.name i }

pub reread_partition_spec : (s : plain.PartitionSpec) → read_partition_spec (laid_partition_spec s) ≡ s
unfolding laid_partition_spec
reread_partition_spec s = let f = table_reread read_partition_field laid_partition_field reread_partition_field partition_field_room no_partition_field s.fields in λ i. record { id = s.id; fields = f i }

pub reread_partition_specs : (l : List plain.PartitionSpec) → read_partition_specs (laid_partition_specs l) ≡ l
unfolding laid_partition_specs
reread_partition_specs l = table_reread read_partition_spec laid_partition_spec reread_partition_spec spec_room no_partition_spec l

pub reread_spec_offer : (o : plain.SpecOffer) → read_spec_offer (laid_spec_offer o) ≡ o
unfolding laid_spec_offer
reread_spec_offer o = let r = table_reread read_offered_id laid_offered_id reread_number partition_field_room no_offered_id o.ids in λ i. record { id = o.id; at = o.at; ids = r i }

pub reread_spec_ids : (l : List ℤ) → read_spec_ids (laid_spec_ids l) ≡ l
unfolding laid_spec_ids
reread_spec_ids l = table_reread (λ (i : SpecId). i.0) (λ (z : ℤ). record { 0 = z }) (λ z. refl) removal_room no_spec_id l

-- ---- statistics files

pub reread_statistics_file : (f : plain.StatisticsFile) → read_statistics_file (laid_statistics_file f) ≡ f
unfolding laid_statistics_file
reread_statistics_file f = λ i. record { snapshot = f.snapshot; path = reread_text f.path i; size = f.size }

pub reread_statistics : (l : List plain.StatisticsFile) → read_statistics (laid_statistics l) ≡ l
unfolding laid_statistics
reread_statistics l = table_reread read_statistics_file laid_statistics_file reread_statistics_file statistics_room no_statistics_file l

-- ---- metadata

pub reread_metadata_log_entry : (e : plain.FileEntry) → read_metadata_log_entry (laid_metadata_log_entry e) ≡ e
unfolding laid_metadata_log_entry
reread_metadata_log_entry e = λ i. record { file = reread_text e.file i; time = e.time }

pub reread_metadata_log : (l : List plain.FileEntry) → read_metadata_log (laid_metadata_log l) ≡ l
unfolding laid_metadata_log
reread_metadata_log l = table_reread read_metadata_log_entry laid_metadata_log_entry reread_metadata_log_entry metadata_log_room no_metadata_log_entry l

pub reread_fields : (f : plain.SingleFields) → read_fields (laid_fields f) ≡ f
unfolding laid_fields
reread_fields f =
    λ i. record {
      version = f.version;
      uuid = f.uuid;
      location = reread_text f.location i;
      last_updated = f.last_updated;
      last_sequence = f.last_sequence;
      next_row = f.next_row;
      last_column = f.last_column;
      current = reread_number f.current i;
      current_schema = f.current_schema;
      default_order = f.default_order;
      default_spec = f.default_spec;
      last_partition = f.last_partition;
    }

-- whatever the metadata
pub reread_metadata : (p : plain.Metadata) → read_metadata (laid_metadata p) ≡ p
unfolding laid_metadata
reread_metadata p =
    λ i. record {
      fields = reread_fields p.fields i;
      snapshots = reread_snapshots p.snapshots i;
      refs = reread_refs p.refs i;
      snapshot_log = reread_snapshot_log p.snapshot_log i;
      metadata_log = reread_metadata_log p.metadata_log i;
      schemas = reread_schemas p.schemas i;
      orders = reread_sort_orders p.orders i;
      statistics = reread_statistics p.statistics i;
      partition_statistics = reread_statistics p.partition_statistics i;
      specs = reread_partition_specs p.specs i;
    }

-- ---- updates

-- by its kind an update reads as what it is
reread_kind : (u : Update) → update_formed u ≡ true → read_kind (laid_update u) ≡ u
unfolding laid_update update_formed
reread_kind (AssignUuid uuid) f = refl
reread_kind (UpgradeFormatVersion v) f = refl
reread_kind (SetLocation location) f = ap SetLocation (reread_text location)
reread_kind (AddSnapshot s) f = ap AddSnapshot (reread_snapshot s)
reread_kind (SetBranchSnapshot name s) f = ap₂ SetBranchSnapshot (reread_ref_name name) (reread_snapshot s)
reread_kind (RemoveSnapshots ids) f = ap RemoveSnapshots (reread_snapshot_ids ids)
reread_kind (SetRef name r) f = ap₂ SetRef (reread_ref_name name) (reread_reference r)
reread_kind (RemoveRef name) f = ap RemoveRef (reread_ref_name name)
reread_kind (AddSchema o) f = refl
reread_kind (SetCurrentSchema id) f = refl
reread_kind (RemoveSchemas ids) f = ap RemoveSchemas (reread_schema_ids ids)
reread_kind (AddSortOrder o) f = ap AddSortOrder (reread_sort_order o)
reread_kind (SetDefaultSortOrder id) f = refl
reread_kind (SetStatistics Statistics x) f = ap (SetStatistics Statistics) (reread_statistics_file x)
reread_kind (SetStatistics PartitionStatistics x) f = ap (SetStatistics PartitionStatistics) (reread_statistics_file x)
reread_kind (RemoveStatistics Statistics id) f = refl
reread_kind (RemoveStatistics PartitionStatistics id) f = refl
reread_kind (AddPartitionSpec o) f = ap AddPartitionSpec (reread_spec_offer o)
reread_kind (SetDefaultPartitionSpec id) f = refl
reread_kind (RemovePartitionSpecs ids) f = ap RemovePartitionSpecs (reread_spec_ids ids)
reread_kind (NotFormed counts) f = absurd (false≢true f)

-- one that does not fit its slots, or of no known kind, would read as not well formed
pub reread_update : (u : Update) → update_formed u ≡ true → read_update (laid_update u) ≡ u
unfolding read_update
reread_update u f = rw (tidy_update u f) (reread_kind u f)

-- whatever the length
pub reread_updates : (l : List Update) → all update_formed l ≡ true → read_updates (laid_updates l) ≡ l
unfolding read_updates laid_updates
reread_updates l f = formed_reread read_update laid_update update_formed reread_update list_room no_update l f
