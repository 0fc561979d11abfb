-- The tests tell equal records: two records are the same exactly if they are equal.
use mathlib.Core.Path.{◌≡◌, refl, sym, ap, ap₂, ◌∙◌}
use mathlib.Core.Bool.{Bool, true, false, beq, false≢true, true≢false}
use mathlib.Core.List.{List, [], ◌∷◌}
use borrow.Author.Tests.{eqb-true, eq-eqb}
use borrow.Table.Steps.{cases}
use lib.Dec.{eqb}
use Rattle.records.specs.declared.text.Name.{Name}
use Rattle.records.specs.declared.partition.PartitionField.{PartitionField}
use Rattle.rules.specs.Words.{eq_z, same_bytes, same_list}
use Rattle.rules.specs.SchemaUpdates as plain
use Rattle.rules.specs.Partitions.{same_partition}
use Rattle.rules.specs.Layout.{read_name, laid_name, read_partition_field, laid_partition_field}
use Rattle.rules.proofs.Orders.{Tells, numbers_told, names_told_lem}
use Rattle.rules.proofs.Checks.{parts, both, and_left, and_right}
use Rattle.equality.specs.Same.{same_name, same_text, same_snapshot, same_log_entry, same_reference, same_ref, same_file_entry, same_schema_field, same_schema, same_sort_field, same_sort_order, same_partition_field, same_partition_spec, alike_partition, same_statistics_file}

-- ---- numbers and flags

pub counts_told : Tells eqb
counts_told = record { equal = eqb-true; itself = λ n. eq-eqb n n refl }

flag_equal : (a b : Bool) → beq a b ≡ true → a ≡ b
flag_equal true true e = refl
flag_equal true false e = absurd (false≢true e)
flag_equal false true e = absurd (false≢true e)
flag_equal false false e = refl

flag_itself : (a : Bool) → beq a a ≡ true
flag_itself true = refl
flag_itself false = refl

pub flags_told : Tells beq
flags_told = record { equal = flag_equal; itself = flag_itself }

-- of records that come back, read and laid again, a test that tells equal records says what one says that tells equal readings
pub told_alike : {A B : Type 0} {same : A → A → Bool} {alike : B → B → Bool} (rd : A → B) (ld : B → A) → Tells same → Tells alike
    → (x y : A) → ld (rd x) ≡ x → ld (rd y) ≡ y → same x y ≡ alike (rd x) (rd y)
told_alike {A} {B} {same} {alike} rd ld s t x y p q =
    cases (same x y)
    (λ e. e ∙ sym (rw (s.equal x y e) (t.itself (rd y))))
    (λ e. cases (alike (rd x) (rd y))
    (λ f. let h : x ≡ y = sym p ∙ ap ld (t.equal (rd x) (rd y) f) ∙ q in absurd (true≢false (sym (rw h (s.itself y)) ∙ e)))
    (λ f. e ∙ sym f))

-- ---- lists

module _ {A : Type 0} {same : A → A → Bool} (told : Tells same) where
  lists_equal : (xs ys : List A) → same_list same xs ys ≡ true → xs ≡ ys
  lists_equal [] [] h = refl
  lists_equal [] (y ∷ ys) h = absurd (false≢true h)
  lists_equal (x ∷ xs) [] h = absurd (false≢true h)
  lists_equal (x ∷ xs) (y ∷ ys) h = ap₂ ◌∷◌ (told.equal x y (and_left (same x y) (same_list same xs ys) h)) (lists_equal xs ys (and_right (same x y) (same_list same xs ys) h))

  lists_itself : (xs : List A) → same_list same xs xs ≡ true
  lists_itself [] = refl
  lists_itself (x ∷ xs) = both (told.itself x) (lists_itself xs)

  pub lists_told : Tells (same_list same)
  lists_told = record { equal = lists_equal; itself = lists_itself }

-- ---- texts

pub ref_names_told : Tells same_name
unfolding same_name
ref_names_told =
    record {
      equal = λ a b e.
          let k = parts (eqb a.len b.len) (same_bytes a.bytes b.bytes ∷ []) e in
          λ i. record {
            len = counts_told.equal a.len b.len k.0 i;
            bytes = names_told_lem.equal a.bytes b.bytes k.1.0 i;
          };
      itself = λ a. simp (counts_told.itself, names_told_lem.itself);
    }

-- names that are laid out
pub names_alike : (a b : Name) → laid_name (read_name a) ≡ a → laid_name (read_name b) ≡ b → same_name a b ≡ same_bytes (read_name a) (read_name b)
names_alike a b p q = told_alike read_name laid_name ref_names_told names_told_lem a b p q

pub texts_told : Tells same_text
unfolding same_text
texts_told =
    record {
      equal = λ a b e.
          let k = parts (eqb a.len b.len) (same_bytes a.bytes b.bytes ∷ []) e in
          λ i. record {
            len = counts_told.equal a.len b.len k.0 i;
            bytes = names_told_lem.equal a.bytes b.bytes k.1.0 i;
          };
      itself = λ a. simp (counts_told.itself, names_told_lem.itself);
    }

-- ---- records

pub snapshots_told : Tells same_snapshot
unfolding same_snapshot
snapshots_told =
    record {
      equal = λ a b e.
          let k = parts (eq_z a.snapshot_id.0 b.snapshot_id.0) (beq a.has_parent b.has_parent ∷ eq_z a.parent_snapshot_id.0 b.parent_snapshot_id.0 ∷ eq_z a.sequence_number.0 b.sequence_number.0 ∷ eq_z a.timestamp_ms.0 b.timestamp_ms.0 ∷ beq a.has_rows b.has_rows ∷ eqb a.first_row_id.0 b.first_row_id.0 ∷ eqb a.added_rows b.added_rows ∷ []) e in
          λ i. record {
            snapshot_id = record { 0 = numbers_told.equal a.snapshot_id.0 b.snapshot_id.0 k.0 i };
            has_parent = flags_told.equal a.has_parent b.has_parent k.1.0 i;
            parent_snapshot_id = record { 0 = numbers_told.equal a.parent_snapshot_id.0 b.parent_snapshot_id.0 k.1.1.0 i };
            sequence_number = record { 0 = numbers_told.equal a.sequence_number.0 b.sequence_number.0 k.1.1.1.0 i };
            timestamp_ms = record { 0 = numbers_told.equal a.timestamp_ms.0 b.timestamp_ms.0 k.1.1.1.1.0 i };
            has_rows = flags_told.equal a.has_rows b.has_rows k.1.1.1.1.1.0 i;
            first_row_id = record { 0 = counts_told.equal a.first_row_id.0 b.first_row_id.0 k.1.1.1.1.1.1.0 i };
            added_rows = counts_told.equal a.added_rows b.added_rows k.1.1.1.1.1.1.1.0 i;
          };
      itself = λ a. simp (numbers_told.itself, flags_told.itself, counts_told.itself);
    }

pub log_entries_told : Tells same_log_entry
unfolding same_log_entry
log_entries_told =
    record {
      equal = λ a b e.
          let k = parts (eq_z a.snapshot_id.0 b.snapshot_id.0) (eq_z a.timestamp_ms.0 b.timestamp_ms.0 ∷ []) e in
          λ i. record {
            snapshot_id = record { 0 = numbers_told.equal a.snapshot_id.0 b.snapshot_id.0 k.0 i };
            timestamp_ms = record { 0 = numbers_told.equal a.timestamp_ms.0 b.timestamp_ms.0 k.1.0 i };
          };
      itself = λ a. simp numbers_told.itself;
    }

pub references_told : Tells same_reference
unfolding same_reference
references_told =
    record {
      equal = λ a b e.
          let k = parts (eq_z a.snapshot_id.0 b.snapshot_id.0) (eqb a.kind b.kind ∷ beq a.has_min b.has_min ∷ eq_z a.min_snapshots_to_keep.0 b.min_snapshots_to_keep.0 ∷ beq a.has_age b.has_age ∷ eq_z a.max_snapshot_age_ms.0 b.max_snapshot_age_ms.0 ∷ beq a.has_ref_age b.has_ref_age ∷ eq_z a.max_ref_age_ms.0 b.max_ref_age_ms.0 ∷ []) e in
          λ i. record {
            snapshot_id = record { 0 = numbers_told.equal a.snapshot_id.0 b.snapshot_id.0 k.0 i };
            kind = counts_told.equal a.kind b.kind k.1.0 i;
            has_min = flags_told.equal a.has_min b.has_min k.1.1.0 i;
            min_snapshots_to_keep = record { 0 = numbers_told.equal a.min_snapshots_to_keep.0 b.min_snapshots_to_keep.0 k.1.1.1.0 i };
            has_age = flags_told.equal a.has_age b.has_age k.1.1.1.1.0 i;
            max_snapshot_age_ms = record { 0 = numbers_told.equal a.max_snapshot_age_ms.0 b.max_snapshot_age_ms.0 k.1.1.1.1.1.0 i };
            has_ref_age = flags_told.equal a.has_ref_age b.has_ref_age k.1.1.1.1.1.1.0 i;
            max_ref_age_ms = record { 0 = numbers_told.equal a.max_ref_age_ms.0 b.max_ref_age_ms.0 k.1.1.1.1.1.1.1.0 i };
          };
      itself = λ a. simp (numbers_told.itself, counts_told.itself, flags_told.itself);
    }

pub refs_told : Tells same_ref
unfolding same_ref
refs_told =
    record {
      equal = λ a b e.
          let k = parts (same_name a.name b.name) (same_reference a.reference b.reference ∷ eqb a.owner b.owner ∷ []) e in
          λ i. record {
            name = ref_names_told.equal a.name b.name k.0 i;
            reference = references_told.equal a.reference b.reference k.1.0 i;
            owner = counts_told.equal a.owner b.owner k.1.1.0 i;
          };
      itself = λ a. simp (ref_names_told.itself, references_told.itself, counts_told.itself);
    }

pub file_entries_told : Tells same_file_entry
unfolding same_file_entry
file_entries_told =
    record {
      equal = λ a b e.
          let k = parts (same_text a.metadata_file b.metadata_file) (eq_z a.timestamp_ms.0 b.timestamp_ms.0 ∷ []) e in
          λ i. record {
            metadata_file = texts_told.equal a.metadata_file b.metadata_file k.0 i;
            timestamp_ms = record { 0 = numbers_told.equal a.timestamp_ms.0 b.timestamp_ms.0 k.1.0 i };
          };
      itself = λ a. simp (texts_told.itself, numbers_told.itself);
    }

pub sort_fields_told : Tells same_sort_field
unfolding same_sort_field
sort_fields_told =
    record {
      equal = λ a b e.
          let k = parts (eq_z a.source_id.0 b.source_id.0) (eqb a.direction b.direction ∷ eqb a.null_order b.null_order ∷ []) e in
          λ i. record {
            source_id = record { 0 = numbers_told.equal a.source_id.0 b.source_id.0 k.0 i };
            direction = counts_told.equal a.direction b.direction k.1.0 i;
            null_order = counts_told.equal a.null_order b.null_order k.1.1.0 i;
          };
      itself = λ a. simp (numbers_told.itself, counts_told.itself);
    }

pub schema_fields_told : Tells same_schema_field
unfolding same_schema_field
schema_fields_told =
    record {
      equal = λ a b e.
          let k = parts (eq_z a.id.0 b.id.0) (eqb a.field_type b.field_type ∷ same_name a.name b.name ∷ []) e in
          λ i. record {
            id = record { 0 = numbers_told.equal a.id.0 b.id.0 k.0 i };
            field_type = counts_told.equal a.field_type b.field_type k.1.0 i;
            name = ref_names_told.equal a.name b.name k.1.1.0 i;
          };
      itself = λ a. simp (numbers_told.itself, counts_told.itself, ref_names_told.itself);
    }

-- the fields of the rules
pub plain_fields_told : Tells plain.same_schema_field
plain_fields_told =
    record {
      equal = λ a b e.
          let k = parts (eq_z a.id b.id) (eqb a.field_type b.field_type ∷ same_bytes a.name b.name ∷ []) e in
          λ i. record {
            id = numbers_told.equal a.id b.id k.0 i;
            field_type = counts_told.equal a.field_type b.field_type k.1.0 i;
            name = names_told_lem.equal a.name b.name k.1.1.0 i;
          };
      itself = λ a. simp (numbers_told.itself, counts_told.itself, names_told_lem.itself);
    }

pub schemas_told : Tells same_schema
unfolding same_schema
schemas_told =
    record {
      equal = λ a b e.
          let k = parts (eq_z a.schema_id.0 b.schema_id.0) (eqb a.count b.count ∷ same_list same_schema_field a.items b.items ∷ []) e in
          λ i. record {
            schema_id = record { 0 = numbers_told.equal a.schema_id.0 b.schema_id.0 k.0 i };
            count = counts_told.equal a.count b.count k.1.0 i;
            items = (lists_told schema_fields_told).equal a.items b.items k.1.1.0 i;
          };
      itself = λ a. simp (numbers_told.itself, counts_told.itself, (lists_told schema_fields_told).itself);
    }

pub sort_orders_told : Tells same_sort_order
unfolding same_sort_order
sort_orders_told =
    record {
      equal = λ a b e.
          let k = parts (eq_z a.order_id.0 b.order_id.0) (eqb a.count b.count ∷ same_list same_sort_field a.items b.items ∷ []) e in
          λ i. record {
            order_id = record { 0 = numbers_told.equal a.order_id.0 b.order_id.0 k.0 i };
            count = counts_told.equal a.count b.count k.1.0 i;
            items = (lists_told sort_fields_told).equal a.items b.items k.1.1.0 i;
          };
      itself = λ a. simp (numbers_told.itself, counts_told.itself, (lists_told sort_fields_told).itself);
    }

pub partition_fields_told : Tells same_partition_field
unfolding same_partition_field
partition_fields_told =
    record {
      equal = λ a b e.
          let k = parts (eq_z a.source_id.0 b.source_id.0) (eq_z a.field_id.0 b.field_id.0 ∷ eq_z a.buckets.0 b.buckets.0 ∷ eqb a.transform b.transform ∷ beq a.has_id b.has_id ∷ same_name a.name b.name ∷ []) e in
          λ i. record {
            source_id = record { 0 = numbers_told.equal a.source_id.0 b.source_id.0 k.0 i };
            field_id = record { 0 = numbers_told.equal a.field_id.0 b.field_id.0 k.1.0 i };
            buckets = record { 0 = numbers_told.equal a.buckets.0 b.buckets.0 k.1.1.0 i };
            transform = counts_told.equal a.transform b.transform k.1.1.1.0 i;
            has_id = flags_told.equal a.has_id b.has_id k.1.1.1.1.0 i;
            name = ref_names_told.equal a.name b.name k.1.1.1.1.1.0 i;
          };
      itself = λ a. simp (numbers_told.itself, counts_told.itself, flags_told.itself, ref_names_told.itself);
    }

pub partition_specs_told : Tells same_partition_spec
unfolding same_partition_spec
partition_specs_told =
    record {
      equal = λ a b e.
          let k = parts (eq_z a.spec_id.0 b.spec_id.0) (eqb a.count b.count ∷ same_list same_partition_field a.items b.items ∷ []) e in
          λ i. record {
            spec_id = record { 0 = numbers_told.equal a.spec_id.0 b.spec_id.0 k.0 i };
            count = counts_told.equal a.count b.count k.1.0 i;
            items = (lists_told partition_fields_told).equal a.items b.items k.1.1.0 i;
          };
      itself = λ a. simp (numbers_told.itself, counts_told.itself, (lists_told partition_fields_told).itself);
    }

-- of fields that are laid out, the names are what is read of them
pub partitions_alike : (a b : PartitionField) → laid_partition_field (read_partition_field a) ≡ a → laid_partition_field (read_partition_field b) ≡ b → alike_partition a b ≡ same_partition (read_partition_field a) (read_partition_field b)
unfolding alike_partition laid_partition_field
partitions_alike a b p q = rw (names_alike a.name b.name (ap (λ (f : PartitionField). f.name) p) (ap (λ (f : PartitionField). f.name) q))

pub statistics_files_told : Tells same_statistics_file
unfolding same_statistics_file
statistics_files_told =
    record {
      equal = λ a b e.
          let k = parts (eq_z a.snapshot_id.0 b.snapshot_id.0) (same_text a.statistics_path b.statistics_path ∷ eq_z a.file_size_in_bytes.0 b.file_size_in_bytes.0 ∷ []) e in
          λ i. record {
            snapshot_id = record { 0 = numbers_told.equal a.snapshot_id.0 b.snapshot_id.0 k.0 i };
            statistics_path = texts_told.equal a.statistics_path b.statistics_path k.1.0 i;
            file_size_in_bytes = record { 0 = numbers_told.equal a.file_size_in_bytes.0 b.file_size_in_bytes.0 k.1.1.0 i };
          };
      itself = λ a. simp (numbers_told.itself, texts_told.itself);
    }
