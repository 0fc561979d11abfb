-- What is laid out is tidy where what was laid fits: padding puts blanks into every slot past the count, and an absent number is laid as 0.
use Prim.Native.Nat.{ℕ, zero, suc, ◌-◌, ◌≤◌}
use native.Mathlib.Omega.{arith}
use mathlib.Core.Path.{◌≡◌, refl}
use mathlib.Core.Bool.{Bool, true, ◌&&◌, ◌||◌, false≢true}
use mathlib.Core.List.{List, [], ◌∷◌, map}
use mathlib.Core.Option.{Option, none, some}
use lib.Dec.{leb}
use lib.IntN.{ℤ, pos}
use lib.Signed.{non_neg}
use lib.ListN.{length, take, replicate, length-append, length-replicate, length-map}
use lib.Seq.{take_at, drop_at}
use borrow.Author.Tests.{leb-true, eq-eqb}
use Rattle.records.specs.Blanks.{no_snapshot_id, no_snapshot, no_log_entry, no_ref, no_schema_field, no_schema, no_schema_id, no_sort_field, no_sort_order, no_partition_field, no_partition_spec, no_offered_id, no_spec_id, no_statistics_file, no_metadata_log_entry, no_fields_part, no_snapshots_part, no_schemas_part, no_sort_orders_part, no_statistics_part, no_partition_specs_part, no_update}
use Rattle.rules.specs.Words.{is_some, or_else, if_some, all, ascending}
use Rattle.rules.specs.Capacities.{snapshot_room, ref_room, snapshot_log_room, metadata_log_room, schema_room, schema_field_room, sort_order_room, sort_field_room, spec_room, partition_field_room, statistics_room, removal_room, name_room, text_room}
use Rattle.rules.specs.Register as plain
use Rattle.rules.specs.Register.{Update}
use Rattle.rules.specs.Register.Update.{AssignUuid, UpgradeFormatVersion, SetLocation, AddSnapshot, SetBranchSnapshot, RemoveSnapshots, SetRef, RemoveRef, AddSchema, SetCurrentSchema, RemoveSchemas, AddSortOrder, SetDefaultSortOrder, SetStatistics, RemoveStatistics, AddPartitionSpec, SetDefaultPartitionSpec, RemovePartitionSpecs, NotFormed}
use Rattle.rules.specs.Register.StatisticsTable.{Statistics, PartitionStatistics}
use Rattle.rules.specs.WellFormed.{snapshot_formed, reference_formed, owner_formed, ref_formed, name_formed, file_name_formed, schema_formed, order_formed, offered_order_formed, sort_field_formed, partition_field_formed, offered_spec_formed, transform_formed, spec_formed, statistics_file_formed, removal_formed, at_least_one, field_type_formed, schema_field_formed, version_formed, location_formed, snapshot_below, ref_below, schema_below, order_below, spec_below, statistics_below, snapshots_formed, refs_formed, snapshot_log_formed, metadata_log_formed, schemas_formed, orders_formed, specs_formed, statistics_formed, fields_formed, refs_held, main_agrees, current_schema_held, default_order_held, default_spec_held, metadata_formed, offered_ids_formed, update_formed}
use Rattle.rules.specs.Blanks.{is_zero, is_zero_z, rest_blank, tidy_slots, is_tidy_name, is_tidy_text, is_tidy_snapshot, is_blank_snapshot, is_tidy_snapshots, is_blank_snapshot_id, is_tidy_snapshot_ids, is_blank_snapshot_ids, is_blank_log_entry, is_tidy_snapshot_log, is_tidy_reference, is_blank_reference, is_tidy_ref, is_blank_ref, is_tidy_refs, is_tidy_schema_field, is_blank_schema_field, is_tidy_schema, is_blank_schema, is_tidy_schemas, is_blank_schema_id, is_tidy_schema_ids, is_blank_schema_ids, is_blank_sort_field, is_tidy_sort_order, is_blank_sort_order, is_tidy_sort_orders, is_tidy_partition_field, is_blank_partition_field, is_tidy_partition_spec, is_blank_partition_spec, is_tidy_partition_specs, is_tidy_offered_id, is_blank_offered_id, is_tidy_spec_offer, is_blank_spec_offer, is_blank_spec_id, is_tidy_spec_ids, is_blank_spec_ids, is_tidy_statistics_file, is_blank_statistics_file, is_tidy_statistics, is_tidy_metadata_log_entry, is_blank_metadata_log_entry, is_tidy_metadata_log, is_tidy_fields, is_tidy_metadata}
use Rattle.rules.specs.Layout.{pad, first_row, added_rows, laid_name, laid_text, laid_snapshot, laid_snapshots, laid_snapshot_ids, laid_log_entry, laid_snapshot_log, laid_reference, laid_ref, laid_refs, laid_schema_field, laid_schema, laid_schemas, laid_schema_ids, laid_sort_field, laid_sort_order, laid_sort_orders, laid_partition_field, laid_partition_spec, laid_partition_specs, laid_offered_id, laid_spec_offer, laid_spec_ids, laid_statistics_file, laid_statistics, laid_metadata_log_entry, laid_metadata_log, laid_fields, laid_metadata}
use Rattle.rules.specs.Kinds.{is_tidy_fields_part, is_tidy_snapshots_part, is_tidy_refs_part, is_tidy_schemas_part, is_tidy_sort_orders_part, is_tidy_statistics_part, is_tidy_partition_specs_part, is_tidy_update, laid_update}
use Rattle.rules.proofs.Checks.{both, and_left, and_right, parts, whole, schema_tests, offered_of}
use Rattle.rules.proofs.Tables.{all_then}

-- ---- numbers behind a flag

-- a number that is absent is laid as 0
absent_zero : (o : Option ℤ) → (is_some o || is_zero_z (or_else o (pos 0))) ≡ true
absent_zero none = refl
absent_zero (some z) = refl

absent_rows : (o : Option plain.RowRange) → (is_some o || (is_zero (first_row o).0 && is_zero (added_rows o))) ≡ true
absent_rows none = refl
absent_rows (some r) = refl

-- ---- slots

module _ {A : Type 0} (p : A → Bool) where
  pub all_replicate : (n : ℕ) (x : A) → p x ≡ true → all p (replicate n x) ≡ true
  all_replicate zero x h = refl
  all_replicate (suc n) x h = both h (all_replicate n x h)

  pub all_map : {B : Type 0} (q : B → Bool) (f : B → A) → ((y : B) → q y ≡ true → p (f y) ≡ true) → (l : List B) → all q l ≡ true → all p (map f l) ≡ true
  all_map q f h [] k = refl
  all_map q f h (y ∷ l) k = both (h y (and_left (q y) _ k)) (all_map q f h l (and_right (q y) _ k))

module _ {A : Type 0} (b : A) (isBlank : A → Bool) (blank : isBlank b ≡ true) where
  -- an array that was padded has its slots, and those past the list are blank
  pub pad_rest : (room n : ℕ) (l : List A) → length l ≡ n → leb n room ≡ true → rest_blank room isBlank (pad room b l) n ≡ true
  pad_rest room n l e h =
      let k : n ≤ room = leb-true n room h in
      let s : length (pad room b l) ≡ room = simp (length-append, length-replicate) (omega arith) in
      both (eq-eqb (length (pad room b l)) room s) (rw (drop_at l (replicate (room - length l) b) n e) (all_replicate isBlank (room - length l) b blank))

  module _ {B : Type 0} (ld : B → A) where
    -- an array of elements that have nothing unused in them
    pub fields_tidy : (room : ℕ) (l : List B) → leb (length l) room ≡ true → rest_blank room isBlank (pad room b (map ld l)) (length l) ≡ true
    fields_tidy room l h = pad_rest room (length l) (map ld l) (length-map l ld) h

    -- an array of elements that are tidy where they are well formed
    pub table_tidy : (isTidy : A → Bool) (is_formed : B → Bool) → ((y : B) → is_formed y ≡ true → isTidy (ld y) ≡ true)
        → (room : ℕ) (l : List B) → leb (length l) room ≡ true → all is_formed l ≡ true → tidy_slots room isTidy isBlank (pad room b (map ld l)) (length l) ≡ true
    table_tidy isTidy is_formed tidy room l h f =
        let t : take (length l) (pad room b (map ld l)) ≡ map ld l = take_at (map ld l) (replicate (room - length (map ld l)) b) (length l) (length-map l ld) in
        both (fields_tidy room l h) (rw t (all_map isTidy is_formed ld tidy l f))

-- ---- texts

tidy_bytes : (room : ℕ) (l : List ℕ) → leb (length l) room ≡ true → rest_blank room is_zero (pad room 0 l) (length l) ≡ true
tidy_bytes room l h = pad_rest 0 is_zero refl room (length l) l refl h

pub tidy_ref_name : (l : List ℕ) → name_formed l ≡ true → is_tidy_name (laid_name l) ≡ true
unfolding laid_name
tidy_ref_name l h = tidy_bytes name_room l h

pub tidy_text : (l : List ℕ) → leb (length l) text_room ≡ true → is_tidy_text (laid_text l) ≡ true
unfolding laid_text
tidy_text l h = tidy_bytes text_room l h

-- ---- snapshots

pub tidy_snapshot : (s : plain.Snapshot) → is_tidy_snapshot (laid_snapshot s) ≡ true
unfolding is_tidy_snapshot laid_snapshot
tidy_snapshot s = both (absent_zero s.parent) (absent_rows s.rows)

no_snapshot_lem : is_blank_snapshot no_snapshot ≡ true
unfolding is_blank_snapshot
no_snapshot_lem = refl

pub tidy_snapshots : (l : List plain.Snapshot) → snapshots_formed l ≡ true → is_tidy_snapshots (laid_snapshots l) ≡ true
unfolding is_tidy_snapshots laid_snapshots snapshots_formed
tidy_snapshots l f =
    let k = parts (leb (length l) snapshot_room) (all snapshot_formed l ∷ ascending snapshot_below l ∷ []) f in
    table_tidy no_snapshot is_blank_snapshot no_snapshot_lem laid_snapshot is_tidy_snapshot snapshot_formed (λ s e. tidy_snapshot s) snapshot_room l k.0 k.1.0

pub tidy_snapshot_ids : (l : List ℤ) → removal_formed l ≡ true → is_tidy_snapshot_ids (laid_snapshot_ids l) ≡ true
unfolding is_tidy_snapshot_ids laid_snapshot_ids
tidy_snapshot_ids l f = fields_tidy no_snapshot_id is_blank_snapshot_id refl (λ (z : ℤ). record { 0 = z }) removal_room l (and_left (leb (length l) removal_room) _ f)

no_log_entry_lem : is_blank_log_entry no_log_entry ≡ true
unfolding is_blank_log_entry
no_log_entry_lem = refl

pub tidy_snapshot_log : (l : List plain.LogEntry) → snapshot_log_formed l ≡ true → is_tidy_snapshot_log (laid_snapshot_log l) ≡ true
unfolding is_tidy_snapshot_log laid_snapshot_log snapshot_log_formed
tidy_snapshot_log l f = fields_tidy no_log_entry is_blank_log_entry no_log_entry_lem laid_log_entry snapshot_log_room l (and_left (leb (length l) snapshot_log_room) _ f)

-- ---- refs

pub tidy_reference : (r : plain.Reference) → is_tidy_reference (laid_reference r) ≡ true
unfolding is_tidy_reference laid_reference
tidy_reference r = both (both (absent_zero r.min_snapshots) (absent_zero r.max_snapshot_age)) (absent_zero r.max_ref_age)

pub tidy_ref : (r : plain.NamedRef) → ref_formed r ≡ true → is_tidy_ref (laid_ref r) ≡ true
unfolding is_tidy_ref laid_ref
tidy_ref r f = both (tidy_ref_name r.name (parts (name_formed r.name) (reference_formed r.reference ∷ owner_formed r ∷ []) f).0) (tidy_reference r.reference)

no_ref_lem : is_blank_ref no_ref ≡ true
unfolding is_blank_ref is_blank_reference
no_ref_lem = refl

pub tidy_refs : (l : List plain.NamedRef) → refs_formed l ≡ true → is_tidy_refs (laid_refs l) ≡ true
unfolding is_tidy_refs laid_refs refs_formed
tidy_refs l f =
    let k = parts (leb (length l) ref_room) (all ref_formed l ∷ ascending ref_below l ∷ []) f in
    table_tidy no_ref is_blank_ref no_ref_lem laid_ref is_tidy_ref ref_formed tidy_ref ref_room l k.0 k.1.0

-- ---- schemas

tidy_schema_field : (f : plain.SchemaField) → name_formed f.name ≡ true → is_tidy_schema_field (laid_schema_field f) ≡ true
unfolding is_tidy_schema_field laid_schema_field
tidy_schema_field f e = tidy_ref_name f.name e

no_schema_field_lem : is_blank_schema_field no_schema_field ≡ true
unfolding is_blank_schema_field
no_schema_field_lem = refl

-- whatever its ids and types
pub tidy_names : (s : plain.Schema) → leb (length s.fields) schema_field_room ≡ true → all (λ (f : plain.SchemaField). name_formed f.name) s.fields ≡ true → is_tidy_schema (laid_schema s) ≡ true
unfolding is_tidy_schema laid_schema
tidy_names s h n =
    table_tidy no_schema_field is_blank_schema_field no_schema_field_lem laid_schema_field is_tidy_schema_field (λ (f : plain.SchemaField). name_formed f.name) tidy_schema_field schema_field_room s.fields h n

pub tidy_schema : (s : plain.Schema) → schema_formed s ≡ true → is_tidy_schema (laid_schema s) ≡ true
tidy_schema s f =
    let k = parts (non_neg s.id) (schema_tests s) f in
    let named = all_then schema_field_formed (λ (x : plain.SchemaField). name_formed x.name) (λ x e. and_right (at_least_one x.id && field_type_formed x.field_type) (name_formed x.name) e) s.fields k.1.1.0 in
    tidy_names s k.1.0 named

no_schema_lem : is_blank_schema no_schema ≡ true
unfolding is_blank_schema no_schema is_blank_schema_field
no_schema_lem = refl

pub tidy_schemas : (l : List plain.Schema) → schemas_formed l ≡ true → is_tidy_schemas (laid_schemas l) ≡ true
unfolding is_tidy_schemas laid_schemas schemas_formed
tidy_schemas l f =
    let k = parts (leb (length l) schema_room) (all schema_formed l ∷ ascending schema_below l ∷ []) f in
    table_tidy no_schema is_blank_schema no_schema_lem laid_schema is_tidy_schema schema_formed tidy_schema schema_room l k.0 k.1.0

pub tidy_schema_ids : (l : List ℤ) → removal_formed l ≡ true → is_tidy_schema_ids (laid_schema_ids l) ≡ true
unfolding is_tidy_schema_ids laid_schema_ids
tidy_schema_ids l f = fields_tidy no_schema_id is_blank_schema_id refl (λ (z : ℤ). record { 0 = z }) removal_room l (and_left (leb (length l) removal_room) _ f)

-- ---- sort orders

no_sort_field_lem : is_blank_sort_field no_sort_field ≡ true
unfolding is_blank_sort_field
no_sort_field_lem = refl

pub tidy_sort_order : (o : plain.SortOrder) → offered_order_formed o ≡ true → is_tidy_sort_order (laid_sort_order o) ≡ true
unfolding is_tidy_sort_order laid_sort_order
tidy_sort_order o f =
    let k = parts (non_neg o.id) (leb (length o.fields) sort_field_room ∷ all sort_field_formed o.fields ∷ []) f in
    fields_tidy no_sort_field is_blank_sort_field no_sort_field_lem laid_sort_field sort_field_room o.fields k.1.0

no_sort_order_lem : is_blank_sort_order no_sort_order ≡ true
unfolding is_blank_sort_order no_sort_order is_blank_sort_field
no_sort_order_lem = refl

pub tidy_sort_orders : (l : List plain.SortOrder) → orders_formed l ≡ true → is_tidy_sort_orders (laid_sort_orders l) ≡ true
unfolding is_tidy_sort_orders laid_sort_orders orders_formed
tidy_sort_orders l f =
    let k = parts (leb (length l) sort_order_room) (all order_formed l ∷ ascending order_below l ∷ []) f in
    table_tidy no_sort_order is_blank_sort_order no_sort_order_lem laid_sort_order is_tidy_sort_order order_formed (λ o e. tidy_sort_order o (and_left (offered_order_formed o) _ e)) sort_order_room l k.0 k.1.0

-- ---- partition specs

tidy_partition_field : (f : plain.PartitionField) → partition_field_formed f ≡ true → is_tidy_partition_field (laid_partition_field f) ≡ true
unfolding is_tidy_partition_field laid_partition_field
tidy_partition_field f e = both (absent_zero f.id) (tidy_ref_name f.name (and_right (at_least_one f.source && if_some at_least_one f.id && transform_formed f.transform f.buckets && leb 1 (length f.name)) (name_formed f.name) e))

no_partition_field_lem : is_blank_partition_field no_partition_field ≡ true
unfolding is_blank_partition_field
no_partition_field_lem = refl

pub tidy_partition_spec : (s : plain.PartitionSpec) → offered_spec_formed s ≡ true → is_tidy_partition_spec (laid_partition_spec s) ≡ true
unfolding is_tidy_partition_spec laid_partition_spec
tidy_partition_spec s f =
    let k = parts (non_neg s.id) (leb (length s.fields) partition_field_room ∷ all partition_field_formed s.fields ∷ []) f in
    table_tidy no_partition_field is_blank_partition_field no_partition_field_lem laid_partition_field is_tidy_partition_field partition_field_formed tidy_partition_field partition_field_room s.fields k.1.0 k.1.1.0

no_partition_spec_lem : is_blank_partition_spec no_partition_spec ≡ true
unfolding is_blank_partition_spec no_partition_spec is_blank_partition_field
no_partition_spec_lem = refl

pub tidy_partition_specs : (l : List plain.PartitionSpec) → specs_formed l ≡ true → is_tidy_partition_specs (laid_partition_specs l) ≡ true
unfolding is_tidy_partition_specs laid_partition_specs specs_formed
tidy_partition_specs l f =
    let k = parts (leb (length l) spec_room) (all spec_formed l ∷ ascending spec_below l ∷ []) f in
    table_tidy no_partition_spec is_blank_partition_spec no_partition_spec_lem laid_partition_spec is_tidy_partition_spec spec_formed (λ s e. tidy_partition_spec s (offered_of s e)) spec_room l k.0 k.1.0

pub tidy_spec_offer : (o : plain.SpecOffer) → offered_ids_formed o ≡ true → is_tidy_spec_offer (laid_spec_offer o) ≡ true
unfolding is_tidy_spec_offer laid_spec_offer
tidy_spec_offer o f =
    let k = parts (non_neg o.id) (leb (length o.ids) partition_field_room ∷ all (if_some at_least_one) o.ids ∷ []) f in
    table_tidy no_offered_id is_blank_offered_id refl laid_offered_id is_tidy_offered_id (if_some at_least_one) (λ id e. absent_zero id) partition_field_room o.ids k.1.0 k.1.1.0

pub tidy_spec_ids : (l : List ℤ) → removal_formed l ≡ true → is_tidy_spec_ids (laid_spec_ids l) ≡ true
unfolding is_tidy_spec_ids laid_spec_ids
tidy_spec_ids l f = fields_tidy no_spec_id is_blank_spec_id refl (λ (z : ℤ). record { 0 = z }) removal_room l (and_left (leb (length l) removal_room) _ f)

-- ---- statistics files

pub tidy_statistics_file : (f : plain.StatisticsFile) → statistics_file_formed f ≡ true → is_tidy_statistics_file (laid_statistics_file f) ≡ true
unfolding is_tidy_statistics_file laid_statistics_file
tidy_statistics_file f e = tidy_text f.path (parts (non_neg f.snapshot) (file_name_formed f.path ∷ non_neg f.size ∷ []) e).1.0

no_statistics_file_lem : is_blank_statistics_file no_statistics_file ≡ true
unfolding is_blank_statistics_file
no_statistics_file_lem = refl

pub tidy_statistics : (l : List plain.StatisticsFile) → statistics_formed l ≡ true → is_tidy_statistics (laid_statistics l) ≡ true
unfolding is_tidy_statistics laid_statistics statistics_formed
tidy_statistics l f =
    let k = parts (leb (length l) statistics_room) (all statistics_file_formed l ∷ ascending statistics_below l ∷ []) f in
    table_tidy no_statistics_file is_blank_statistics_file no_statistics_file_lem laid_statistics_file is_tidy_statistics_file statistics_file_formed tidy_statistics_file statistics_room l k.0 k.1.0

-- ---- metadata

pub tidy_metadata_log_entry : (e : plain.FileEntry) → file_name_formed e.file ≡ true → is_tidy_metadata_log_entry (laid_metadata_log_entry e) ≡ true
unfolding is_tidy_metadata_log_entry laid_metadata_log_entry
tidy_metadata_log_entry e f = tidy_text e.file f

no_metadata_log_entry_lem : is_blank_metadata_log_entry no_metadata_log_entry ≡ true
unfolding is_blank_metadata_log_entry
no_metadata_log_entry_lem = refl

pub tidy_metadata_log : (l : List plain.FileEntry) → metadata_log_formed l ≡ true → is_tidy_metadata_log (laid_metadata_log l) ≡ true
unfolding is_tidy_metadata_log laid_metadata_log metadata_log_formed
tidy_metadata_log l f =
    table_tidy no_metadata_log_entry is_blank_metadata_log_entry no_metadata_log_entry_lem laid_metadata_log_entry is_tidy_metadata_log_entry (λ (e : plain.FileEntry). file_name_formed e.file) tidy_metadata_log_entry metadata_log_room l
    (and_left (leb (length l) metadata_log_room) _ f)
    (and_right (leb (length l) metadata_log_room) _ f)

pub tidy_fields : (f : plain.SingleFields) → fields_formed f ≡ true → is_tidy_fields (laid_fields f) ≡ true
unfolding is_tidy_fields laid_fields fields_formed
tidy_fields f e =
    let k = parts (version_formed f.version) (location_formed f.location ∷ non_neg f.last_sequence.0 ∷ non_neg f.last_partition ∷ []) e in
    both (tidy_text f.location k.1.0) (absent_zero f.current)

-- metadata that is well formed is laid out tidily
pub tidy_metadata : (p : plain.Metadata) → metadata_formed p ≡ true → is_tidy_metadata (laid_metadata p) ≡ true
unfolding is_tidy_metadata laid_metadata metadata_formed
tidy_metadata p f =
    let k = parts (snapshots_formed p.snapshots) (refs_formed p.refs ∷ snapshot_log_formed p.snapshot_log ∷ metadata_log_formed p.metadata_log ∷ schemas_formed p.schemas ∷ orders_formed p.orders ∷ statistics_formed p.statistics ∷ statistics_formed p.partition_statistics ∷ specs_formed p.specs ∷ fields_formed p.fields ∷ refs_held p ∷ main_agrees p ∷ current_schema_held p ∷ default_order_held p ∷ default_spec_held p ∷ []) f in
    whole (is_tidy_snapshots (laid_snapshots p.snapshots)) (is_tidy_refs (laid_refs p.refs) ∷ is_tidy_snapshot_log (laid_snapshot_log p.snapshot_log) ∷ is_tidy_metadata_log (laid_metadata_log p.metadata_log) ∷ is_tidy_schemas (laid_schemas p.schemas) ∷ is_tidy_sort_orders (laid_sort_orders p.orders) ∷ is_tidy_statistics (laid_statistics p.statistics) ∷ is_tidy_statistics (laid_statistics p.partition_statistics) ∷ is_tidy_partition_specs (laid_partition_specs p.specs) ∷ is_tidy_fields (laid_fields p.fields) ∷ []) (
      tidy_snapshots p.snapshots k.0,
      (
        tidy_refs p.refs k.1.0,
        (
          tidy_snapshot_log p.snapshot_log k.1.1.0,
          (
            tidy_metadata_log p.metadata_log k.1.1.1.0,
            (
              tidy_schemas p.schemas k.1.1.1.1.0,
              (
                tidy_sort_orders p.orders k.1.1.1.1.1.0,
                (
                  tidy_statistics p.statistics k.1.1.1.1.1.1.0,
                  (
                    tidy_statistics p.partition_statistics k.1.1.1.1.1.1.1.0,
                    (
                      tidy_partition_specs p.specs k.1.1.1.1.1.1.1.1.0,
                      (
                        tidy_fields p.fields k.1.1.1.1.1.1.1.1.1.0,
                        tt,
                      ),
                    ),
                  ),
                ),
              ),
            ),
          ),
        ),
      ),
    )

-- ---- updates

-- an update that is well formed is laid out tidily: a part that its kind does not use is blank, and what it uses is tidy where it is well formed
pub tidy_update : (u : Update) → update_formed u ≡ true → is_tidy_update (laid_update u) ≡ true
unfolding is_tidy_fields_part is_tidy_snapshots_part is_tidy_refs_part is_tidy_schemas_part is_tidy_sort_orders_part is_tidy_statistics_part is_tidy_partition_specs_part no_update no_fields_part no_snapshots_part no_schemas_part no_sort_orders_part no_statistics_part no_partition_specs_part no_schema no_sort_order is_blank_snapshot is_blank_snapshot_ids is_blank_reference is_blank_schema is_blank_schema_ids is_blank_sort_field is_blank_sort_order is_blank_statistics_file is_blank_spec_offer is_blank_spec_ids is_tidy_snapshot is_tidy_snapshot_ids is_tidy_reference is_tidy_schema is_tidy_schema_ids is_tidy_sort_order is_tidy_statistics_file is_tidy_spec_offer is_tidy_spec_ids laid_update update_formed
tidy_update (AssignUuid uuid) f = refl
tidy_update (UpgradeFormatVersion v) f = refl
tidy_update (SetLocation location) f = rw (tidy_text location f)
tidy_update (AddSnapshot s) f = rw (tidy_snapshot s)
tidy_update (SetBranchSnapshot name s) f = rw (tidy_ref_name name (and_left (name_formed name) _ f), tidy_snapshot s)
tidy_update (RemoveSnapshots ids) f = rw (tidy_snapshot_ids ids f)
tidy_update (SetRef name r) f = rw (tidy_ref_name name (and_left (name_formed name) _ f), tidy_reference r)
tidy_update (RemoveRef name) f = rw (tidy_ref_name name f)
tidy_update (AddSchema o) f = refl
tidy_update (SetCurrentSchema id) f = refl
tidy_update (RemoveSchemas ids) f = rw (tidy_schema_ids ids f)
tidy_update (AddSortOrder o) f = rw (tidy_sort_order o f)
tidy_update (SetDefaultSortOrder id) f = refl
tidy_update (SetStatistics Statistics x) f = rw (tidy_statistics_file x f)
tidy_update (SetStatistics PartitionStatistics x) f = rw (tidy_statistics_file x f)
tidy_update (RemoveStatistics Statistics id) f = refl
tidy_update (RemoveStatistics PartitionStatistics id) f = refl
tidy_update (AddPartitionSpec o) f = rw (tidy_spec_offer o f)
tidy_update (SetDefaultPartitionSpec id) f = refl
tidy_update (RemovePartitionSpecs ids) f = rw (tidy_spec_ids ids f)
tidy_update (NotFormed counts) f = absurd (false≢true f)

pub tidy_no_update : is_tidy_update no_update ≡ true
unfolding is_tidy_fields_part is_tidy_snapshots_part is_tidy_refs_part is_tidy_schemas_part is_tidy_sort_orders_part is_tidy_statistics_part is_tidy_partition_specs_part no_update no_fields_part no_snapshots_part no_schemas_part no_sort_orders_part no_statistics_part no_partition_specs_part no_schema no_sort_order is_blank_snapshot is_blank_snapshot_ids is_blank_reference is_blank_schema is_blank_schema_ids is_blank_sort_field is_blank_sort_order is_blank_statistics_file is_blank_spec_offer is_blank_spec_ids is_tidy_snapshot is_tidy_snapshot_ids is_tidy_reference is_tidy_schema is_tidy_schema_ids is_tidy_sort_order is_tidy_statistics_file is_tidy_spec_offer is_tidy_spec_ids
tidy_no_update = refl
