-- For well-formed metadata going from records to lists and back changes nothing (`relaid`): of every record with slots, those past the
-- count are blank, and padding puts the same blanks there again.
use Prim.Native.Nat.{ℕ, suc, ◌+◌, ◌-◌, ◌≤◌, ◌<◌}
use native.Mathlib.Omega.{arith}
use mathlib.Core.Path.{◌≡◌, refl, sym, ap, ap₂, ◌∙◌}
use mathlib.Core.Bool.{Bool, true, false, not, ◌&&◌, ◌||◌}
use mathlib.Core.List.{List, [], ◌∷◌, ◌++◌, map, append-nil, append_assoc}
use lib.Dec.{eqb, leb}
use lib.IntN.{ℤ, pos}
use lib.Signed.{non_neg}
use lib.ListN.{length, set, take, drop, replicate, length-append, length-replicate, length-take, length-drop, length-map, take-append-drop}
use lib.Seq.{set_at}
use borrow.Author.Tests.{eqb-true, leb-true, not-true}
use Rattle.records.specs.Blanks.{no_name, no_text, no_snapshot_id, no_snapshot, no_snapshot_ids, no_log_entry, no_reference, no_ref, no_schema_field, no_schema, no_schema_offer, no_schema_id, no_schema_ids, no_sort_field, no_sort_order, no_partition_field, no_partition_spec, no_offered_id, no_spec_id, no_spec_offer, no_spec_ids, no_statistics_file, no_metadata_log_entry}
use Rattle.records.specs.declared.counters.RowId.{RowId}
use Rattle.records.specs.declared.counters.SnapshotId.{SnapshotId}
use Rattle.records.specs.declared.counters.SchemaId.{SchemaId}
use Rattle.records.specs.declared.counters.SpecId.{SpecId}
use Rattle.records.specs.declared.snapshot.SnapshotIds.{SnapshotIds}
use Rattle.records.specs.declared.schema.SchemaOffer.{SchemaOffer}
use Rattle.records.specs.declared.schema.SchemaIds.{SchemaIds}
use Rattle.records.specs.declared.text.Name.{Name}
use Rattle.records.specs.declared.text.Text.{Text}
use Rattle.records.specs.declared.snapshot.SnapshotLogEntry.{SnapshotLogEntry}
use Rattle.records.specs.declared.snapshot.SnapshotLog.{SnapshotLog}
use Rattle.records.specs.declared.reference.SnapshotReference.{SnapshotReference}
use Rattle.records.specs.declared.reference.NamedRef.{NamedRef}
use Rattle.records.specs.declared.reference.Refs.{Refs}
use Rattle.records.specs.declared.schema.SchemaField.{SchemaField}
use Rattle.records.specs.declared.schema.Schema.{Schema}
use Rattle.records.specs.declared.schema.Schemas.{Schemas}
use Rattle.records.specs.declared.sort_order.SortField.{SortField}
use Rattle.records.specs.declared.sort_order.SortOrder.{SortOrder}
use Rattle.records.specs.declared.sort_order.SortOrders.{SortOrders}
use Rattle.records.specs.declared.partition.PartitionField.{PartitionField}
use Rattle.records.specs.declared.partition.PartitionSpec.{PartitionSpec}
use Rattle.records.specs.declared.partition.PartitionSpecs.{PartitionSpecs}
use Rattle.records.specs.declared.partition.OfferedId.{OfferedId}
use Rattle.records.specs.declared.partition.SpecOffer.{SpecOffer}
use Rattle.records.specs.declared.partition.SpecIds.{SpecIds}
use Rattle.records.specs.declared.statistics.StatisticsFile.{StatisticsFile}
use Rattle.records.specs.declared.statistics.StatisticsFiles.{StatisticsFiles}
use Rattle.records.specs.declared.metadata.MetadataLogEntry.{MetadataLogEntry}
use Rattle.records.specs.declared.metadata.MetadataLog.{MetadataLog}
use Rattle.records.specs.declared.metadata.SingleFields.{SingleFields}
use Rattle.records.specs.declared.metadata.TableMetadata.{TableMetadata}
use Rattle.records.specs.declared.snapshot.Snapshot.{Snapshot}
use Rattle.records.specs.declared.snapshot.Snapshots.{Snapshots}
use Rattle.rules.specs.Words.{is_some, or_else, if_some, all, ascending}
use Rattle.rules.specs.Capacities.{snapshot_room, ref_room, snapshot_log_room, metadata_log_room, schema_room, schema_field_room, sort_order_room, sort_field_room, spec_room, partition_field_room, statistics_room, removal_room, name_room, text_room}
use Rattle.rules.specs.WellFormed.{snapshot_formed, reference_formed, owner_formed, ref_formed, name_formed, file_name_formed, schema_formed, order_formed, offered_order_formed, sort_field_formed, partition_field_formed, transform_formed, offered_spec_formed, spec_formed, statistics_file_formed, removal_formed, offered_ids_formed, at_least_one, field_type_formed, schema_field_formed, version_formed, location_formed, snapshot_below, ref_below, schema_below, order_below, spec_below, statistics_below, snapshots_formed, refs_formed, snapshot_log_formed, metadata_log_formed, schemas_formed, orders_formed, specs_formed, statistics_formed, fields_formed, refs_held, main_agrees, current_schema_held, default_order_held, default_spec_held, metadata_formed}
use Rattle.rules.specs.Blanks.{is_zero, is_zero_z, rest_blank, tidy_slots, none_used, is_blank_uuid, is_tidy_name, is_blank_name, is_tidy_text, is_blank_text, is_tidy_snapshot, is_blank_snapshot, is_tidy_snapshots, is_blank_snapshot_id, is_tidy_snapshot_ids, is_blank_snapshot_ids, is_blank_log_entry, is_tidy_snapshot_log, is_tidy_reference, is_blank_reference, is_tidy_ref, is_blank_ref, is_tidy_refs, is_tidy_schema_field, is_blank_schema_field, is_tidy_schema, is_blank_schema, is_tidy_schemas, is_blank_schema_offer, is_blank_schema_id, is_tidy_schema_ids, is_blank_schema_ids, is_blank_sort_field, is_tidy_sort_order, is_blank_sort_order, is_tidy_sort_orders, is_tidy_partition_field, is_blank_partition_field, is_tidy_partition_spec, is_blank_partition_spec, is_tidy_partition_specs, is_tidy_offered_id, is_blank_offered_id, is_tidy_spec_offer, is_blank_spec_offer, is_blank_spec_id, is_tidy_spec_ids, is_blank_spec_ids, is_tidy_statistics_file, is_blank_statistics_file, is_tidy_statistics, is_tidy_metadata_log_entry, is_blank_metadata_log_entry, is_tidy_metadata_log, is_tidy_fields, is_tidy_metadata}
use Rattle.rules.specs.Layout.{counted, pad, given, first_row, added_rows, read_name, laid_name, read_text, laid_text, read_snapshot, laid_snapshot, read_snapshots, laid_snapshots, read_snapshot_ids, laid_snapshot_ids, read_log_entry, laid_log_entry, read_snapshot_log, laid_snapshot_log, read_reference, laid_reference, read_ref, laid_ref, read_refs, laid_refs, read_schema_field, laid_schema_field, read_schema, laid_schema, read_schemas, laid_schemas, read_schema_ids, laid_schema_ids, read_sort_field, laid_sort_field, read_sort_order, laid_sort_order, read_sort_orders, laid_sort_orders, read_partition_field, laid_partition_field, read_partition_spec, laid_partition_spec, read_partition_specs, laid_partition_specs, read_offered_id, laid_offered_id, read_spec_offer, laid_spec_offer, read_spec_ids, laid_spec_ids, read_statistics_file, laid_statistics_file, read_statistics, laid_statistics, read_metadata_log_entry, laid_metadata_log_entry, read_metadata_log, laid_metadata_log, read_fields, laid_fields, read_metadata, laid_metadata}
use Rattle.rules.specs.Register as plain
use Rattle.rules.proofs.Orders.{eq_z_equal}
use Rattle.rules.proofs.Checks.{and_left, and_right, parts, schema_tests, offered_of}

-- ---- numbers and flags

module _ {A : Type 0} where
  pub flag_given : (f : Bool) (x : A) → is_some (given f x) ≡ f
  flag_given true x = refl
  flag_given false x = refl

-- a number behind a flag, which is 0 where the flag is not set
pub number_given : (f : Bool) (x : ℤ) → (f || is_zero_z x) ≡ true → or_else (given f x) (pos 0) ≡ x
number_given true x e = refl
number_given false x e = sym (eq_z_equal x (pos 0) e)

pub zero_z : (z : ℤ) → is_zero_z z ≡ true → z ≡ pos 0
zero_z z e = eq_z_equal z (pos 0) e

pub zero : (n : ℕ) → is_zero n ≡ true → n ≡ 0
zero n e = eqb-true n 0 e

-- ---- slots

pub length_counted : {A : Type 0} (b : A) (items : List A) (n : ℕ) → length (counted b items n) ≡ n
length_counted b items n = simp (length-append, length-replicate, length-take) (omega arith)

pub counted_take : {A : Type 0} (b : A) (items : List A) (n : ℕ) → n ≤ length items → counted b items n ≡ take n items
counted_take b items n h = let z : n - length items ≡ 0 = omega arith in rw (z, append-nil)

-- the next slot of a padded list
pub set_pad : {A : Type 0} (room : ℕ) (b : A) (l : List A) (n : ℕ) (x : A) → length l ≡ n → n < room → set (pad room b l) n x ≡ pad room b (l ++ (x ∷ []))
set_pad room b l n x e h =
    let r : room - length l ≡ suc (room - (length l + 1)) = omega arith in
    rw (r, set_at l b _ x n e, append_assoc, length-append)

-- the array has its slots
pub has_room : {A : Type 0} (room n : ℕ) (isBlank : A → Bool) (items : List A) → rest_blank room isBlank items n ≡ true → length items ≡ room
has_room room n isBlank items e = eqb-true (length items) room (and_left (eqb (length items) room) _ e)

module _ {A : Type 0} (b : A) (isBlank : A → Bool) (blank : (x : A) → isBlank x ≡ true → x ≡ b) where
  all_blank : (l : List A) → all isBlank l ≡ true → l ≡ replicate (length l) b
  all_blank [] e = refl
  all_blank (x ∷ l) e = ap₂ {C = List A} ◌∷◌ (blank x (and_left (isBlank x) _ e)) (all_blank l (and_right (isBlank x) _ e))

  -- an array whose slots past n are blank is its first n elements, padded
  pub padded : (room n : ℕ) (items : List A) → rest_blank room isBlank items n ≡ true → n ≤ room → items ≡ pad room b (take n items)
  padded room n items e h =
      let k : length items ≡ room = has_room room n isBlank items e in
      let d : drop n items ≡ replicate (length (drop n items)) b = all_blank (drop n items) (and_right (eqb (length items) room) _ e) in
      let m : length (drop n items) ≡ room - length (take n items) = simp (length-drop, length-take) (omega arith) in
      sym (take-append-drop n items) ∙ ap (λ (l : List A). take n items ++ l) (d ∙ ap (λ (k : ℕ). replicate k b) m)

  -- none of an array's slots is used: it is blanks alone
  pub unused : (room n : ℕ) (items : List A) → none_used room isBlank items n ≡ true → (items ≡ replicate room b) × (n ≡ 0)
  unused room n items e =
      let r : rest_blank room isBlank items 0 ≡ true = and_right (is_zero n) _ e in
      let k : length items ≡ room = has_room room 0 isBlank items r in
      (all_blank items (and_right (eqb (length items) room) _ r) ∙ ap (λ (k : ℕ). replicate k b) k, eqb-true n 0 (and_left (is_zero n) _ e))

  module _ {B : Type 0} (rd : A → B) (ld : B → A) where
    pub length_read : (items : List A) (n : ℕ) → length (map rd (counted b items n)) ≡ n
    length_read items n = length-map (counted b items n) rd ∙ length_counted b items n

    -- an array whose counted elements come back, read and laid again, and its count
    pub slots_back : (room n : ℕ) (items : List A) → rest_blank room isBlank items n ≡ true → leb (length (map rd (counted b items n))) room ≡ true
        → map ld (map rd (counted b items n)) ≡ counted b items n
        → (pad room b (map ld (map rd (counted b items n))) ≡ items) × (length (map rd (counted b items n)) ≡ n)
    slots_back room n items e f t =
        let h : n ≤ room = omega (arith, leb-true (length (map rd (counted b items n))) room f, length_read items n) in
        let c : counted b items n ≡ take n items = counted_take b items n (omega (arith, has_room room n isBlank items e)) in
        (rw (t, c) (sym (padded room n items e h)), length_read items n)

    -- elements that come back by themselves
    pub fields_back : ((x : A) → ld (rd x) ≡ x) → (room n : ℕ) (items : List A) → rest_blank room isBlank items n ≡ true
        → leb (length (map rd (counted b items n))) room ≡ true
        → (pad room b (map ld (map rd (counted b items n))) ≡ items) × (length (map rd (counted b items n)) ≡ n)
    fields_back back room n items e f = slots_back room n items e f (each (counted b items n))
      where
        each : (l : List A) → map ld (map rd l) ≡ l
        each [] = refl
        each (x ∷ l) = ap₂ {C = List A} ◌∷◌ (back x) (each l)

    -- elements that come back where they are tidy and what is read of them is well formed
    module _ (isTidy : A → Bool) (is_formed : B → Bool) (back : (x : A) → isTidy x ≡ true → is_formed (rd x) ≡ true → ld (rd x) ≡ x) where
      all_back : (l : List A) → all isTidy l ≡ true → all is_formed (map rd l) ≡ true → map ld (map rd l) ≡ l
      all_back [] e f = refl
      all_back (x ∷ l) e f =
          ap₂ {C = List A} ◌∷◌
          (back x (and_left (isTidy x) _ e) (and_left (is_formed (rd x)) _ f))
          (all_back l (and_right (isTidy x) _ e) (and_right (is_formed (rd x)) _ f))

      pub table_back : (room n : ℕ) (items : List A) → tidy_slots room isTidy isBlank items n ≡ true
          → leb (length (map rd (counted b items n))) room ≡ true → all is_formed (map rd (counted b items n)) ≡ true
          → (pad room b (map ld (map rd (counted b items n))) ≡ items) × (length (map rd (counted b items n)) ≡ n)
      table_back room n items e f g =
          let r : rest_blank room isBlank items n ≡ true = and_left (rest_blank room isBlank items n) _ e in
          let h : n ≤ room = omega (arith, leb-true (length (map rd (counted b items n))) room f, length_read items n) in
          let c : counted b items n ≡ take n items = counted_take b items n (omega (arith, has_room room n isBlank items r)) in
          let t : all isTidy (counted b items n) ≡ true = rw c (and_right (rest_blank room isBlank items n) _ e) in
          slots_back room n items r f (all_back (counted b items n) t g)

-- the bytes of a text, read and laid again
pub bytes_back : (room : ℕ) (bytes : List ℕ) (n : ℕ) → rest_blank room is_zero bytes n ≡ true → n ≤ room → pad room 0 (counted 0 bytes n) ≡ bytes
bytes_back room bytes n e h =
    let k : length bytes ≡ room = eqb-true _ _ (and_left (eqb (length bytes) room) _ e) in
    rw (counted_take 0 bytes n (omega arith)) (sym (padded 0 is_zero zero room n bytes e h))

-- ---- texts

pub blank_ref_name : (t : Name) → is_blank_name t ≡ true → t ≡ no_name
blank_ref_name t e = let k : (t.bytes ≡ replicate name_room 0) × (t.len ≡ 0) = unused 0 is_zero zero name_room t.len t.bytes e in λ i. record { bytes = k.0 i; len = k.1 i }

pub back_ref_name : (t : Name) → is_tidy_name t ≡ true → length (read_name t) ≤ name_room → laid_name (read_name t) ≡ t
unfolding laid_name
back_ref_name t e h =
    let n : length (read_name t) ≡ t.len = length_counted 0 t.bytes t.len in
    λ i. record { bytes = bytes_back name_room t.bytes t.len e (omega arith) i; len = n i }

pub blank_uuid : (l : List ℕ) → is_blank_uuid l ≡ true → l ≡ replicate 16 0
blank_uuid l e = (unused 0 is_zero zero 16 0 l e).0

pub blank_text_lem : (t : Text) → is_blank_text t ≡ true → t ≡ no_text
blank_text_lem t e = let k : (t.bytes ≡ replicate text_room 0) × (t.len ≡ 0) = unused 0 is_zero zero text_room t.len t.bytes e in λ i. record { bytes = k.0 i; len = k.1 i }

pub back_text : (t : Text) → is_tidy_text t ≡ true → length (read_text t) ≤ text_room → laid_text (read_text t) ≡ t
unfolding laid_text
back_text t e h =
    let n : length (read_text t) ≡ t.len = length_counted 0 t.bytes t.len in
    λ i. record { bytes = bytes_back text_room t.bytes t.len e (omega arith) i; len = n i }

-- ---- snapshots

pub blank_snapshot : (s : Snapshot) → is_blank_snapshot s ≡ true → s ≡ no_snapshot
unfolding is_blank_snapshot
blank_snapshot s e =
    let h = parts (is_zero_z s.snapshot_id.0) (not s.has_parent ∷ is_zero_z s.parent_snapshot_id.0 ∷ is_zero_z s.sequence_number.0 ∷ is_zero_z s.timestamp_ms.0 ∷ not s.has_rows ∷ is_zero s.first_row_id.0 ∷ is_zero s.added_rows ∷ []) e in
    λ i. record {
      snapshot_id = record { 0 = zero_z s.snapshot_id.0 h.0 i };
      has_parent = not-true s.has_parent h.1.0 i;
      parent_snapshot_id = record { 0 = zero_z s.parent_snapshot_id.0 h.1.1.0 i };
      sequence_number = record { 0 = zero_z s.sequence_number.0 h.1.1.1.0 i };
      timestamp_ms = record { 0 = zero_z s.timestamp_ms.0 h.1.1.1.1.0 i };
      has_rows = not-true s.has_rows h.1.1.1.1.1.0 i;
      first_row_id = record { 0 = zero s.first_row_id.0 h.1.1.1.1.1.1.0 i };
      added_rows = zero s.added_rows h.1.1.1.1.1.1.1.0 i;
    }

rows_back : (f : Bool) (first : RowId) (added : ℕ) → (f || (is_zero first.0 && is_zero added)) ≡ true
    → (first_row (given f (record { first = first; added = added })) ≡ first) × (added_rows (given f (record { first = first; added = added })) ≡ added)
rows_back true first added e = (refl, refl)
rows_back false first added e =
    let z : 0 ≡ first.0 = sym (zero first.0 (and_left (is_zero first.0) (is_zero added) e)) in
    (λ i. record { 0 = z i }, sym (zero added (and_right (is_zero first.0) (is_zero added) e)))

pub back_snapshot : (s : Snapshot) → is_tidy_snapshot s ≡ true → laid_snapshot (read_snapshot s) ≡ s
unfolding is_tidy_snapshot laid_snapshot
back_snapshot s e =
    let p : (s.has_parent || is_zero_z s.parent_snapshot_id.0) ≡ true = and_left (s.has_parent || is_zero_z s.parent_snapshot_id.0) _ e in
    let r = rows_back s.has_rows s.first_row_id s.added_rows (and_right (s.has_parent || is_zero_z s.parent_snapshot_id.0) _ e) in
    λ i. record {
      snapshot_id = s.snapshot_id;
      has_parent = flag_given s.has_parent s.parent_snapshot_id.0 i;
      parent_snapshot_id = record { 0 = number_given s.has_parent s.parent_snapshot_id.0 p i };
      sequence_number = s.sequence_number;
      timestamp_ms = s.timestamp_ms;
      has_rows = flag_given {A = plain.RowRange} s.has_rows (record { first = s.first_row_id; added = s.added_rows }) i;
      first_row_id = r.0 i;
      added_rows = r.1 i;
    }

blank_snapshot_id : (x : SnapshotId) → is_blank_snapshot_id x ≡ true → x ≡ no_snapshot_id
blank_snapshot_id x e = λ i. record { 0 = zero_z x.0 e i }

pub blank_snapshot_ids : (t : SnapshotIds) → is_blank_snapshot_ids t ≡ true → t ≡ no_snapshot_ids
unfolding is_blank_snapshot_ids
blank_snapshot_ids t e = let k = unused no_snapshot_id is_blank_snapshot_id blank_snapshot_id removal_room t.count t.items e in λ i. record { items = k.0 i; count = k.1 i }

pub back_snapshot_ids : (t : SnapshotIds) → is_tidy_snapshot_ids t ≡ true → removal_formed (read_snapshot_ids t) ≡ true → laid_snapshot_ids (read_snapshot_ids t) ≡ t
unfolding is_tidy_snapshot_ids laid_snapshot_ids
back_snapshot_ids t e f =
    let r = fields_back no_snapshot_id is_blank_snapshot_id blank_snapshot_id (λ (x : SnapshotId). x.0) (λ (z : ℤ). record { 0 = z }) (λ x. refl) removal_room t.count t.items e (and_left (leb (length (read_snapshot_ids t)) removal_room) _ f) in
    λ i. record { items = r.0 i; count = r.1 i }

pub back_snapshots : (t : Snapshots) → is_tidy_snapshots t ≡ true → snapshots_formed (read_snapshots t) ≡ true → laid_snapshots (read_snapshots t) ≡ t
unfolding is_tidy_snapshots laid_snapshots snapshots_formed
back_snapshots t e f =
    let k = parts (leb (length (read_snapshots t)) snapshot_room) (all snapshot_formed (read_snapshots t) ∷ ascending snapshot_below (read_snapshots t) ∷ []) f in
    let r = table_back no_snapshot is_blank_snapshot blank_snapshot read_snapshot laid_snapshot is_tidy_snapshot snapshot_formed (λ s e f. back_snapshot s e) snapshot_room t.count t.items e k.0 k.1.0 in
    λ i. record { items = r.0 i; count = r.1 i }

pub blank_log_entry : (e : SnapshotLogEntry) → is_blank_log_entry e ≡ true → e ≡ no_log_entry
unfolding is_blank_log_entry
blank_log_entry e b =
    let h = parts (is_zero_z e.snapshot_id.0) (is_zero_z e.timestamp_ms.0 ∷ []) b in
    λ i. record {
      snapshot_id = record { 0 = zero_z e.snapshot_id.0 h.0 i };
      timestamp_ms = record { 0 = zero_z e.timestamp_ms.0 h.1.0 i };
    }

pub back_snapshot_log : (t : SnapshotLog) → is_tidy_snapshot_log t ≡ true → snapshot_log_formed (read_snapshot_log t) ≡ true → laid_snapshot_log (read_snapshot_log t) ≡ t
unfolding is_tidy_snapshot_log laid_snapshot_log snapshot_log_formed
back_snapshot_log t e f =
    let k = parts (leb (length (read_snapshot_log t)) snapshot_log_room) (all (λ (x : plain.LogEntry). non_neg x.snapshot) (read_snapshot_log t) ∷ []) f in
    let r = fields_back no_log_entry is_blank_log_entry blank_log_entry read_log_entry laid_log_entry (λ x. refl) snapshot_log_room t.count t.items e k.0 in
    λ i. record { items = r.0 i; count = r.1 i }

-- ---- refs

pub blank_reference : (r : SnapshotReference) → is_blank_reference r ≡ true → r ≡ no_reference
unfolding is_blank_reference
blank_reference r e =
    let h = parts (is_zero_z r.snapshot_id.0) (is_zero r.kind ∷ not r.has_min ∷ is_zero_z r.min_snapshots_to_keep.0 ∷ not r.has_age ∷ is_zero_z r.max_snapshot_age_ms.0 ∷ not r.has_ref_age ∷ is_zero_z r.max_ref_age_ms.0 ∷ []) e in
    λ i. record {
      snapshot_id = record { 0 = zero_z r.snapshot_id.0 h.0 i };
      kind = zero r.kind h.1.0 i;
      has_min = not-true r.has_min h.1.1.0 i;
      min_snapshots_to_keep = record { 0 = zero_z r.min_snapshots_to_keep.0 h.1.1.1.0 i };
      has_age = not-true r.has_age h.1.1.1.1.0 i;
      max_snapshot_age_ms = record { 0 = zero_z r.max_snapshot_age_ms.0 h.1.1.1.1.1.0 i };
      has_ref_age = not-true r.has_ref_age h.1.1.1.1.1.1.0 i;
      max_ref_age_ms = record { 0 = zero_z r.max_ref_age_ms.0 h.1.1.1.1.1.1.1.0 i };
    }

pub back_reference : (r : SnapshotReference) → is_tidy_reference r ≡ true → laid_reference (read_reference r) ≡ r
unfolding is_tidy_reference laid_reference
back_reference r e =
    let h = parts (r.has_min || is_zero_z r.min_snapshots_to_keep.0) ((r.has_age || is_zero_z r.max_snapshot_age_ms.0) ∷ (r.has_ref_age || is_zero_z r.max_ref_age_ms.0) ∷ []) e in
    λ i. record {
      snapshot_id = r.snapshot_id;
      kind = r.kind;
      has_min = flag_given r.has_min r.min_snapshots_to_keep.0 i;
      min_snapshots_to_keep = record { 0 = number_given r.has_min r.min_snapshots_to_keep.0 h.0 i };
      has_age = flag_given r.has_age r.max_snapshot_age_ms.0 i;
      max_snapshot_age_ms = record { 0 = number_given r.has_age r.max_snapshot_age_ms.0 h.1.0 i };
      has_ref_age = flag_given r.has_ref_age r.max_ref_age_ms.0 i;
      max_ref_age_ms = record { 0 = number_given r.has_ref_age r.max_ref_age_ms.0 h.1.1.0 i };
    }

pub blank_ref : (r : NamedRef) → is_blank_ref r ≡ true → r ≡ no_ref
unfolding is_blank_ref
blank_ref r e =
    let k = parts (is_blank_name r.name) (is_blank_reference r.reference ∷ is_zero r.owner ∷ []) e in
    let n : r.name ≡ no_name = blank_ref_name r.name k.0 in
    let f : r.reference ≡ no_reference = blank_reference r.reference k.1.0 in
    let o : r.owner ≡ 0 = zero r.owner k.1.1.0 in
    λ i. record { name = n i; reference = f i; owner = o i }

pub back_ref : (r : NamedRef) → is_tidy_ref r ≡ true → ref_formed (read_ref r) ≡ true → laid_ref (read_ref r) ≡ r
unfolding is_tidy_ref laid_ref
back_ref r e f =
    let n : laid_name (read_name r.name) ≡ r.name = back_ref_name r.name (and_left (is_tidy_name r.name) _ e) (leb-true _ name_room (parts (name_formed (read_name r.name)) (reference_formed (read_reference r.reference) ∷ owner_formed (read_ref r) ∷ []) f).0) in
    let g : laid_reference (read_reference r.reference) ≡ r.reference = back_reference r.reference (and_right (is_tidy_name r.name) _ e) in
    λ i. record { name = n i; reference = g i; owner = r.owner }

pub back_refs : (t : Refs) → is_tidy_refs t ≡ true → refs_formed (read_refs t) ≡ true → laid_refs (read_refs t) ≡ t
unfolding is_tidy_refs laid_refs refs_formed
back_refs t e f =
    let k = parts (leb (length (read_refs t)) ref_room) (all ref_formed (read_refs t) ∷ ascending ref_below (read_refs t) ∷ []) f in
    let r = table_back no_ref is_blank_ref blank_ref read_ref laid_ref is_tidy_ref ref_formed back_ref ref_room t.count t.items e k.0 k.1.0 in
    λ i. record { items = r.0 i; count = r.1 i }

-- ---- schemas

pub blank_schema_field : (f : SchemaField) → is_blank_schema_field f ≡ true → f ≡ no_schema_field
unfolding is_blank_schema_field
blank_schema_field f e =
    let h = parts (is_zero_z f.id.0) (is_zero f.field_type ∷ is_blank_name f.name ∷ []) e in
    let n : f.name ≡ no_name = blank_ref_name f.name h.1.1.0 in
    λ i. record { id = record { 0 = zero_z f.id.0 h.0 i }; field_type = zero f.field_type h.1.0 i; name = n i }

pub back_schema_field : (f : SchemaField) → is_tidy_schema_field f ≡ true → schema_field_formed (read_schema_field f) ≡ true → laid_schema_field (read_schema_field f) ≡ f
unfolding is_tidy_schema_field laid_schema_field
back_schema_field f e g =
    let k = and_right (at_least_one f.id.0 && field_type_formed f.field_type) (name_formed (read_name f.name)) g in
    let n : laid_name (read_name f.name) ≡ f.name = back_ref_name f.name e (leb-true _ name_room k) in
    λ i. record { id = f.id; field_type = f.field_type; name = n i }

pub blank_schema : (s : Schema) → is_blank_schema s ≡ true → s ≡ no_schema
unfolding is_blank_schema no_schema
blank_schema s e =
    let z : s.schema_id.0 ≡ pos 0 = zero_z s.schema_id.0 (and_left (is_zero_z s.schema_id.0) _ e) in
    let k = unused no_schema_field is_blank_schema_field blank_schema_field schema_field_room s.count s.items (and_right (is_zero_z s.schema_id.0) _ e) in
    λ i. record { schema_id = record { 0 = z i }; items = k.0 i; count = k.1 i }

pub back_schema : (s : Schema) → is_tidy_schema s ≡ true → schema_formed (read_schema s) ≡ true → laid_schema (read_schema s) ≡ s
unfolding is_tidy_schema laid_schema
back_schema s e f =
    let k = parts (non_neg s.schema_id.0) (schema_tests (read_schema s)) f in
    let r = table_back no_schema_field is_blank_schema_field blank_schema_field read_schema_field laid_schema_field is_tidy_schema_field schema_field_formed back_schema_field schema_field_room s.count s.items e k.1.0 k.1.1.0 in
    λ i. record { schema_id = s.schema_id; items = r.0 i; count = r.1 i }

pub blank_schema_offer : (o : SchemaOffer) → is_blank_schema_offer o ≡ true → o ≡ no_schema_offer
blank_schema_offer o e =
    let h = parts (is_zero_z o.schema_id.0) (is_zero o.at ∷ is_zero o.count ∷ []) e in
    λ i. record { schema_id = record { 0 = zero_z o.schema_id.0 h.0 i }; at = zero o.at h.1.0 i; count = zero o.count h.1.1.0 i }

blank_schema_id : (x : SchemaId) → is_blank_schema_id x ≡ true → x ≡ no_schema_id
blank_schema_id x e = λ i. record { 0 = zero_z x.0 e i }

pub blank_schema_ids : (t : SchemaIds) → is_blank_schema_ids t ≡ true → t ≡ no_schema_ids
unfolding is_blank_schema_ids
blank_schema_ids t e = let k = unused no_schema_id is_blank_schema_id blank_schema_id removal_room t.count t.items e in λ i. record { items = k.0 i; count = k.1 i }

pub back_schema_ids : (t : SchemaIds) → is_tidy_schema_ids t ≡ true → removal_formed (read_schema_ids t) ≡ true → laid_schema_ids (read_schema_ids t) ≡ t
unfolding is_tidy_schema_ids laid_schema_ids
back_schema_ids t e f =
    let r = fields_back no_schema_id is_blank_schema_id blank_schema_id (λ (x : SchemaId). x.0) (λ (z : ℤ). record { 0 = z }) (λ x. refl) removal_room t.count t.items e (and_left (leb (length (read_schema_ids t)) removal_room) _ f) in
    λ i. record { items = r.0 i; count = r.1 i }

pub back_schemas : (t : Schemas) → is_tidy_schemas t ≡ true → schemas_formed (read_schemas t) ≡ true → laid_schemas (read_schemas t) ≡ t
unfolding is_tidy_schemas laid_schemas schemas_formed
back_schemas t e f =
    let k = parts (leb (length (read_schemas t)) schema_room) (all schema_formed (read_schemas t) ∷ ascending schema_below (read_schemas t) ∷ []) f in
    let r = table_back no_schema is_blank_schema blank_schema read_schema laid_schema is_tidy_schema schema_formed back_schema schema_room t.count t.items e k.0 k.1.0 in
    λ i. record { items = r.0 i; count = r.1 i }

-- ---- sort orders

pub blank_sort_field : (f : SortField) → is_blank_sort_field f ≡ true → f ≡ no_sort_field
unfolding is_blank_sort_field
blank_sort_field f e =
    let h = parts (is_zero_z f.source_id.0) (is_zero f.direction ∷ is_zero f.null_order ∷ []) e in
    λ i. record {
      source_id = record { 0 = zero_z f.source_id.0 h.0 i };
      direction = zero f.direction h.1.0 i;
      null_order = zero f.null_order h.1.1.0 i;
    }

pub blank_sort_order : (o : SortOrder) → is_blank_sort_order o ≡ true → o ≡ no_sort_order
unfolding is_blank_sort_order no_sort_order
blank_sort_order o e =
    let z : o.order_id.0 ≡ pos 0 = zero_z o.order_id.0 (and_left (is_zero_z o.order_id.0) _ e) in
    let k = unused no_sort_field is_blank_sort_field blank_sort_field sort_field_room o.count o.items (and_right (is_zero_z o.order_id.0) _ e) in
    λ i. record { order_id = record { 0 = z i }; items = k.0 i; count = k.1 i }

pub back_sort_order : (o : SortOrder) → is_tidy_sort_order o ≡ true → offered_order_formed (read_sort_order o) ≡ true → laid_sort_order (read_sort_order o) ≡ o
unfolding is_tidy_sort_order laid_sort_order
back_sort_order o e f =
    let k = parts (non_neg o.order_id.0) (leb (length (read_sort_order o).fields) sort_field_room ∷ all sort_field_formed (read_sort_order o).fields ∷ []) f in
    let r = fields_back no_sort_field is_blank_sort_field blank_sort_field read_sort_field laid_sort_field (λ x. refl) sort_field_room o.count o.items e k.1.0 in
    λ i. record { order_id = o.order_id; items = r.0 i; count = r.1 i }

pub back_sort_orders : (t : SortOrders) → is_tidy_sort_orders t ≡ true → orders_formed (read_sort_orders t) ≡ true → laid_sort_orders (read_sort_orders t) ≡ t
unfolding is_tidy_sort_orders laid_sort_orders orders_formed
back_sort_orders t e f =
    let k = parts (leb (length (read_sort_orders t)) sort_order_room) (all order_formed (read_sort_orders t) ∷ ascending order_below (read_sort_orders t) ∷ []) f in
    let r = table_back no_sort_order is_blank_sort_order blank_sort_order read_sort_order laid_sort_order is_tidy_sort_order order_formed (λ o e f. back_sort_order o e (and_left (offered_order_formed (read_sort_order o)) _ f)) sort_order_room t.count t.items e k.0 k.1.0 in
    λ i. record { items = r.0 i; count = r.1 i }

-- ---- partition specs

pub blank_partition_field : (f : PartitionField) → is_blank_partition_field f ≡ true → f ≡ no_partition_field
unfolding is_blank_partition_field
blank_partition_field f e =
    let h = parts (is_zero_z f.source_id.0) (is_zero_z f.field_id.0 ∷ is_zero_z f.buckets.0 ∷ is_zero f.transform ∷ not f.has_id ∷ is_blank_name f.name ∷ []) e in
    let n : f.name ≡ no_name = blank_ref_name f.name h.1.1.1.1.1.0 in
    λ i. record {
      source_id = record { 0 = zero_z f.source_id.0 h.0 i };
      field_id = record { 0 = zero_z f.field_id.0 h.1.0 i };
      buckets = record { 0 = zero_z f.buckets.0 h.1.1.0 i };
      transform = zero f.transform h.1.1.1.0 i;
      has_id = not-true f.has_id h.1.1.1.1.0 i;
      name = n i;
    }

pub back_partition_field : (f : PartitionField) → is_tidy_partition_field f ≡ true → partition_field_formed (read_partition_field f) ≡ true → laid_partition_field (read_partition_field f) ≡ f
unfolding is_tidy_partition_field laid_partition_field
back_partition_field f e g =
    let k = and_right (at_least_one f.source_id.0 && if_some at_least_one (given f.has_id f.field_id.0) && transform_formed f.transform f.buckets.0 && leb 1 (length (read_name f.name))) (name_formed (read_name f.name)) g in
    let n : laid_name (read_name f.name) ≡ f.name = back_ref_name f.name (and_right (f.has_id || is_zero_z f.field_id.0) _ e) (leb-true _ name_room k) in
    λ i. record {
      source_id = f.source_id;
      field_id = record { 0 = number_given f.has_id f.field_id.0 (and_left (f.has_id || is_zero_z f.field_id.0) _ e) i };
      buckets = f.buckets;
      transform = f.transform;
      has_id = flag_given f.has_id f.field_id.0 i;
      name = n i;
    }

pub blank_partition_spec : (s : PartitionSpec) → is_blank_partition_spec s ≡ true → s ≡ no_partition_spec
unfolding is_blank_partition_spec no_partition_spec
blank_partition_spec s e =
    let z : s.spec_id.0 ≡ pos 0 = zero_z s.spec_id.0 (and_left (is_zero_z s.spec_id.0) _ e) in
    let k = unused no_partition_field is_blank_partition_field blank_partition_field partition_field_room s.count s.items (and_right (is_zero_z s.spec_id.0) _ e) in
    λ i. record { spec_id = record { 0 = z i }; items = k.0 i; count = k.1 i }

pub back_partition_spec : (s : PartitionSpec) → is_tidy_partition_spec s ≡ true → offered_spec_formed (read_partition_spec s) ≡ true → laid_partition_spec (read_partition_spec s) ≡ s
unfolding is_tidy_partition_spec laid_partition_spec
back_partition_spec s e f =
    let k = parts (non_neg s.spec_id.0) (leb (length (read_partition_spec s).fields) partition_field_room ∷ all partition_field_formed (read_partition_spec s).fields ∷ []) f in
    let r = table_back no_partition_field is_blank_partition_field blank_partition_field read_partition_field laid_partition_field is_tidy_partition_field partition_field_formed back_partition_field partition_field_room s.count s.items e k.1.0 k.1.1.0 in
    λ i. record { spec_id = s.spec_id; items = r.0 i; count = r.1 i }

pub back_partition_specs : (t : PartitionSpecs) → is_tidy_partition_specs t ≡ true → specs_formed (read_partition_specs t) ≡ true → laid_partition_specs (read_partition_specs t) ≡ t
unfolding is_tidy_partition_specs laid_partition_specs specs_formed
back_partition_specs t e f =
    let k = parts (leb (length (read_partition_specs t)) spec_room) (all spec_formed (read_partition_specs t) ∷ ascending spec_below (read_partition_specs t) ∷ []) f in
    let r = table_back no_partition_spec is_blank_partition_spec blank_partition_spec read_partition_spec laid_partition_spec is_tidy_partition_spec spec_formed (λ s e f. back_partition_spec s e (offered_of (read_partition_spec s) f)) spec_room t.count t.items e k.0 k.1.0 in
    λ i. record { items = r.0 i; count = r.1 i }

blank_offered_id : (x : OfferedId) → is_blank_offered_id x ≡ true → x ≡ no_offered_id
blank_offered_id x e =
    λ i. record {
      given = not-true x.given (and_left (not x.given) _ e) i;
      id = record { 0 = zero_z x.id.0 (and_right (not x.given) _ e) i };
    }

back_offered_id : (x : OfferedId) → is_tidy_offered_id x ≡ true → laid_offered_id (read_offered_id x) ≡ x
back_offered_id x e = λ i. record { given = flag_given x.given x.id.0 i; id = record { 0 = number_given x.given x.id.0 e i } }

pub blank_spec_offer : (o : SpecOffer) → is_blank_spec_offer o ≡ true → o ≡ no_spec_offer
unfolding is_blank_spec_offer
blank_spec_offer o e =
    let h = parts (is_zero_z o.spec_id.0) (is_zero o.at ∷ none_used partition_field_room is_blank_offered_id o.ids o.count ∷ []) e in
    let k = unused no_offered_id is_blank_offered_id blank_offered_id partition_field_room o.count o.ids h.1.1.0 in
    λ i. record { spec_id = record { 0 = zero_z o.spec_id.0 h.0 i }; at = zero o.at h.1.0 i; count = k.1 i; ids = k.0 i }

pub back_spec_offer : (o : SpecOffer) → is_tidy_spec_offer o ≡ true → offered_ids_formed (read_spec_offer o) ≡ true → laid_spec_offer (read_spec_offer o) ≡ o
unfolding is_tidy_spec_offer laid_spec_offer
back_spec_offer o e f =
    let k = parts (non_neg o.spec_id.0) (leb (length (read_spec_offer o).ids) partition_field_room ∷ all (if_some at_least_one) (read_spec_offer o).ids ∷ []) f in
    let r = table_back no_offered_id is_blank_offered_id blank_offered_id read_offered_id laid_offered_id is_tidy_offered_id (if_some at_least_one) (λ x e f. back_offered_id x e) partition_field_room o.count o.ids e k.1.0 k.1.1.0 in
    λ i. record { spec_id = o.spec_id; at = o.at; count = r.1 i; ids = r.0 i }

blank_spec_id : (x : SpecId) → is_blank_spec_id x ≡ true → x ≡ no_spec_id
blank_spec_id x e = λ i. record { 0 = zero_z x.0 e i }

pub blank_spec_ids : (t : SpecIds) → is_blank_spec_ids t ≡ true → t ≡ no_spec_ids
unfolding is_blank_spec_ids
blank_spec_ids t e = let k = unused no_spec_id is_blank_spec_id blank_spec_id removal_room t.count t.items e in λ i. record { items = k.0 i; count = k.1 i }

pub back_spec_ids : (t : SpecIds) → is_tidy_spec_ids t ≡ true → removal_formed (read_spec_ids t) ≡ true → laid_spec_ids (read_spec_ids t) ≡ t
unfolding is_tidy_spec_ids laid_spec_ids
back_spec_ids t e f =
    let r = fields_back no_spec_id is_blank_spec_id blank_spec_id (λ (x : SpecId). x.0) (λ (z : ℤ). record { 0 = z }) (λ x. refl) removal_room t.count t.items e (and_left (leb (length (read_spec_ids t)) removal_room) _ f) in
    λ i. record { items = r.0 i; count = r.1 i }

-- ---- statistics files

pub blank_statistics_file : (f : StatisticsFile) → is_blank_statistics_file f ≡ true → f ≡ no_statistics_file
unfolding is_blank_statistics_file
blank_statistics_file f e =
    let h = parts (is_zero_z f.snapshot_id.0) (is_blank_text f.statistics_path ∷ is_zero_z f.file_size_in_bytes.0 ∷ []) e in
    let n : f.statistics_path ≡ no_text = blank_text_lem f.statistics_path h.1.0 in
    λ i. record {
      snapshot_id = record { 0 = zero_z f.snapshot_id.0 h.0 i };
      statistics_path = n i;
      file_size_in_bytes = record { 0 = zero_z f.file_size_in_bytes.0 h.1.1.0 i };
    }

pub back_statistics_file : (f : StatisticsFile) → is_tidy_statistics_file f ≡ true → statistics_file_formed (read_statistics_file f) ≡ true → laid_statistics_file (read_statistics_file f) ≡ f
unfolding is_tidy_statistics_file laid_statistics_file
back_statistics_file f e g =
    let k = parts (non_neg f.snapshot_id.0) (file_name_formed (read_text f.statistics_path) ∷ non_neg f.file_size_in_bytes.0 ∷ []) g in
    let n : laid_text (read_text f.statistics_path) ≡ f.statistics_path = back_text f.statistics_path e (leb-true _ text_room k.1.0) in
    λ i. record { snapshot_id = f.snapshot_id; statistics_path = n i; file_size_in_bytes = f.file_size_in_bytes }

pub back_statistics : (t : StatisticsFiles) → is_tidy_statistics t ≡ true → statistics_formed (read_statistics t) ≡ true → laid_statistics (read_statistics t) ≡ t
unfolding is_tidy_statistics laid_statistics statistics_formed
back_statistics t e f =
    let k = parts (leb (length (read_statistics t)) statistics_room) (all statistics_file_formed (read_statistics t) ∷ ascending statistics_below (read_statistics t) ∷ []) f in
    let r = table_back no_statistics_file is_blank_statistics_file blank_statistics_file read_statistics_file laid_statistics_file is_tidy_statistics_file statistics_file_formed back_statistics_file statistics_room t.count t.items e k.0 k.1.0 in
    λ i. record { items = r.0 i; count = r.1 i }

-- ---- metadata

pub blank_metadata_log_entry : (x : MetadataLogEntry) → is_blank_metadata_log_entry x ≡ true → x ≡ no_metadata_log_entry
unfolding is_blank_metadata_log_entry
blank_metadata_log_entry x e =
    let n : x.metadata_file ≡ no_text = blank_text_lem x.metadata_file (and_left (is_blank_text x.metadata_file) _ e) in
    let t : x.timestamp_ms.0 ≡ pos 0 = zero_z x.timestamp_ms.0 (and_right (is_blank_text x.metadata_file) _ e) in
    λ i. record { metadata_file = n i; timestamp_ms = record { 0 = t i } }

pub back_metadata_log_entry : (x : MetadataLogEntry) → is_tidy_metadata_log_entry x ≡ true → file_name_formed (read_metadata_log_entry x).file ≡ true
    → laid_metadata_log_entry (read_metadata_log_entry x) ≡ x
unfolding is_tidy_metadata_log_entry laid_metadata_log_entry
back_metadata_log_entry x e f =
    let n : laid_text (read_text x.metadata_file) ≡ x.metadata_file = back_text x.metadata_file e (leb-true _ text_room f) in
    λ i. record { metadata_file = n i; timestamp_ms = x.timestamp_ms }

pub back_metadata_log : (t : MetadataLog) → is_tidy_metadata_log t ≡ true → metadata_log_formed (read_metadata_log t) ≡ true → laid_metadata_log (read_metadata_log t) ≡ t
unfolding is_tidy_metadata_log laid_metadata_log metadata_log_formed
back_metadata_log t e f =
    let k = parts (leb (length (read_metadata_log t)) metadata_log_room) (all (λ (x : plain.FileEntry). file_name_formed x.file) (read_metadata_log t) ∷ []) f in
    let r = table_back no_metadata_log_entry is_blank_metadata_log_entry blank_metadata_log_entry read_metadata_log_entry laid_metadata_log_entry is_tidy_metadata_log_entry (λ (x : plain.FileEntry). file_name_formed x.file) back_metadata_log_entry metadata_log_room t.count t.items e k.0 k.1.0 in
    λ i. record { items = r.0 i; count = r.1 i }

pub back_fields : (f : SingleFields) → is_tidy_fields f ≡ true → fields_formed (read_fields f) ≡ true → laid_fields (read_fields f) ≡ f
unfolding is_tidy_fields laid_fields fields_formed
back_fields f e g =
    let k = parts (version_formed f.format_version) (location_formed (read_text f.location) ∷ non_neg f.last_sequence_number.0 ∷ non_neg f.last_partition_id.0 ∷ []) g in
    let l : laid_text (read_text f.location) ≡ f.location = back_text f.location (and_left (is_tidy_text f.location) _ e) (leb-true _ text_room k.1.0) in
    λ i. record {
      format_version = f.format_version;
      table_uuid = f.table_uuid;
      location = l i;
      last_updated_ms = f.last_updated_ms;
      last_sequence_number = f.last_sequence_number;
      next_row_id = f.next_row_id;
      last_column_id = f.last_column_id;
      has_current = flag_given f.has_current f.current_snapshot_id.0 i;
      current_snapshot_id = record { 0 = number_given f.has_current f.current_snapshot_id.0 (and_right (is_tidy_text f.location) _ e) i };
      current_schema_id = f.current_schema_id;
      default_sort_order_id = f.default_sort_order_id;
      default_spec_id = f.default_spec_id;
      last_partition_id = f.last_partition_id;
    }

-- going there and back
pub relaid : (m : TableMetadata) → is_tidy_metadata m ≡ true → metadata_formed (read_metadata m) ≡ true → laid_metadata (read_metadata m) ≡ m
unfolding is_tidy_metadata laid_metadata metadata_formed
relaid m e f =
    let t = parts (is_tidy_snapshots m.snapshots) (is_tidy_refs m.refs ∷ is_tidy_snapshot_log m.snapshot_log ∷ is_tidy_metadata_log m.metadata_log ∷ is_tidy_schemas m.schemas ∷ is_tidy_sort_orders m.sort_orders ∷ is_tidy_statistics m.statistics ∷ is_tidy_statistics m.partition_statistics ∷ is_tidy_partition_specs m.partition_specs ∷ is_tidy_fields m.fields ∷ []) e in
    let p = read_metadata m in
    let k = parts (snapshots_formed p.snapshots) (refs_formed p.refs ∷ snapshot_log_formed p.snapshot_log ∷ metadata_log_formed p.metadata_log ∷ schemas_formed p.schemas ∷ orders_formed p.orders ∷ statistics_formed p.statistics ∷ statistics_formed p.partition_statistics ∷ specs_formed p.specs ∷ fields_formed p.fields ∷ refs_held p ∷ main_agrees p ∷ current_schema_held p ∷ default_order_held p ∷ default_spec_held p ∷ []) f in
    λ i. record {
      fields = back_fields m.fields t.1.1.1.1.1.1.1.1.1.0 k.1.1.1.1.1.1.1.1.1.0 i;
      snapshots = back_snapshots m.snapshots t.0 k.0 i;
      refs = back_refs m.refs t.1.0 k.1.0 i;
      snapshot_log = back_snapshot_log m.snapshot_log t.1.1.0 k.1.1.0 i;
      metadata_log = back_metadata_log m.metadata_log t.1.1.1.0 k.1.1.1.0 i;
      schemas = back_schemas m.schemas t.1.1.1.1.0 k.1.1.1.1.0 i;
      sort_orders = back_sort_orders m.sort_orders t.1.1.1.1.1.0 k.1.1.1.1.1.0 i;
      statistics = back_statistics m.statistics t.1.1.1.1.1.1.0 k.1.1.1.1.1.1.0 i;
      partition_statistics = back_statistics m.partition_statistics t.1.1.1.1.1.1.1.0 k.1.1.1.1.1.1.1.0 i;
      partition_specs = back_partition_specs m.partition_specs t.1.1.1.1.1.1.1.1.0 k.1.1.1.1.1.1.1.1.0 i;
    }
