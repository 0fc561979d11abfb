-- What the derived equality of a record compares is what the definition does, whatever the order of the fields.
use Rattle.std.proofs.Common.{◌≡◌, ℤ, Bool, ◌&&◌, List, [], ◌∷◌, refl, sym, ap, ◌∙◌, eqb, int_eq}
use Rattle.std.proofs.lemmas.Bool.Decides.{same_from_decides, Decides-int_eq}
use Rattle.std.specs.Bool.{beq}
use mathlib.Core.Path.{ap₂}
use mathlib.Core.Bool.{and_assoc, and_comm}
use lib.Pointwise.{pointwise}
use Rattle.rules.specs.Words.{eq_z, same_list}
use Rattle.rules.proofs.Orders.{numbers_told}
use Rattle.records.specs.declared.text.Name.{Name}
use Rattle.records.specs.declared.text.Text.{Text}
use Rattle.records.specs.declared.snapshot.Snapshot.{Snapshot}
use Rattle.records.specs.declared.snapshot.SnapshotLogEntry.{SnapshotLogEntry}
use Rattle.records.specs.declared.reference.SnapshotReference.{SnapshotReference}
use Rattle.records.specs.declared.reference.NamedRef.{NamedRef}
use Rattle.records.specs.declared.metadata.MetadataLogEntry.{MetadataLogEntry}
use Rattle.records.specs.declared.schema.SchemaField.{SchemaField}
use Rattle.records.specs.declared.schema.Schema.{Schema}
use Rattle.records.specs.declared.sort_order.SortField.{SortField}
use Rattle.records.specs.declared.sort_order.SortOrder.{SortOrder}
use Rattle.records.specs.declared.partition.PartitionField.{PartitionField}
use Rattle.records.specs.declared.partition.PartitionSpec.{PartitionSpec}
use Rattle.records.specs.declared.statistics.StatisticsFile.{StatisticsFile}
use Rattle.equality.specs.Same.{same_name, same_text, same_snapshot, same_log_entry, same_reference, same_ref, same_file_entry, same_schema_field, same_schema, same_sort_field, same_sort_order, same_partition_field, same_partition_spec, same_statistics_file}

pub numbers : (a b : ℤ) → int_eq a b ≡ eq_z a b
numbers a b = same_from_decides (int_eq a b) (eq_z a b) (Decides-int_eq a b) (numbers_told.equal a b, λ e. rw e (numbers_told.itself b))

module _ {A : Type 0} {derived same : A → A → Bool} (alike : (x y : A) → derived x y ≡ same x y) where
  pub listed : (xs ys : List A) → pointwise derived xs ys ≡ same_list same xs ys
  listed [] [] = refl
  listed [] (y ∷ ys) = refl
  listed (x ∷ xs) [] = refl
  listed (x ∷ xs) (y ∷ ys) = ap₂ ◌&&◌ (alike x y) (listed xs ys)

-- a list and its count, in either order
counted : (a b c : Bool) → (a && (b && c)) ≡ ((a && c) && b)
counted a b c = ap (λ (z : Bool). a && z) (and_comm b c) ∙ sym (and_assoc a c b)

-- ---- texts

abbrev derived_name : Name → Name → Bool
derived_name a b = pointwise eqb a.bytes b.bytes && eqb a.len b.len

pub name : (a b : Name) → derived_name a b ≡ same_name a b
unfolding same_name
name a b = and_comm (pointwise eqb a.bytes b.bytes) (eqb a.len b.len) ∙ ap (λ (z : Bool). eqb a.len b.len && z) (listed (λ x y. refl) a.bytes b.bytes)

abbrev derived_text : Text → Text → Bool
derived_text a b = pointwise eqb a.bytes b.bytes && eqb a.len b.len

pub text : (a b : Text) → derived_text a b ≡ same_text a b
unfolding same_text
text a b = and_comm (pointwise eqb a.bytes b.bytes) (eqb a.len b.len) ∙ ap (λ (z : Bool). eqb a.len b.len && z) (listed (λ x y. refl) a.bytes b.bytes)

-- ---- snapshots and refs

pub snapshot : (a b : Snapshot) →
    (int_eq a.snapshot_id.0 b.snapshot_id.0
    && (beq a.has_parent b.has_parent
    && (int_eq a.parent_snapshot_id.0 b.parent_snapshot_id.0
    && (int_eq a.sequence_number.0 b.sequence_number.0
    && (int_eq a.timestamp_ms.0 b.timestamp_ms.0
    && (beq a.has_rows b.has_rows && (eqb a.first_row_id.0 b.first_row_id.0 && eqb a.added_rows b.added_rows)))))))
    ≡ same_snapshot a b
unfolding same_snapshot
snapshot a b = simp (numbers, and_assoc)

pub log_entry : (a b : SnapshotLogEntry) → (int_eq a.snapshot_id.0 b.snapshot_id.0 && int_eq a.timestamp_ms.0 b.timestamp_ms.0) ≡ same_log_entry a b
unfolding same_log_entry
log_entry a b = simp numbers

abbrev derived_reference : SnapshotReference → SnapshotReference → Bool
derived_reference a b =
    int_eq a.snapshot_id.0 b.snapshot_id.0
    && (eqb a.kind b.kind
    && (beq a.has_min b.has_min
    && (int_eq a.min_snapshots_to_keep.0 b.min_snapshots_to_keep.0
    && (beq a.has_age b.has_age
    && (int_eq a.max_snapshot_age_ms.0 b.max_snapshot_age_ms.0
    && (beq a.has_ref_age b.has_ref_age && int_eq a.max_ref_age_ms.0 b.max_ref_age_ms.0))))))

pub reference : (a b : SnapshotReference) → derived_reference a b ≡ same_reference a b
unfolding same_reference
reference a b = simp (numbers, and_assoc)

pub named_ref : (a b : NamedRef) → (derived_name a.name b.name && (derived_reference a.reference b.reference && eqb a.owner b.owner)) ≡ same_ref a b
unfolding same_ref
named_ref a b = rw (name a.name b.name, reference a.reference b.reference) (sym (and_assoc (same_name a.name b.name) (same_reference a.reference b.reference) (eqb a.owner b.owner)))

-- ---- files

pub file_entry : (a b : MetadataLogEntry) → (derived_text a.metadata_file b.metadata_file && int_eq a.timestamp_ms.0 b.timestamp_ms.0) ≡ same_file_entry a b
unfolding same_file_entry
file_entry a b = rw (text a.metadata_file b.metadata_file, numbers)

pub statistics_file : (a b : StatisticsFile) → (int_eq a.snapshot_id.0 b.snapshot_id.0 && (derived_text a.statistics_path b.statistics_path && int_eq a.file_size_in_bytes.0 b.file_size_in_bytes.0)) ≡ same_statistics_file a b
unfolding same_statistics_file
statistics_file a b =
    rw (text a.statistics_path b.statistics_path, numbers a.snapshot_id.0 b.snapshot_id.0, numbers a.file_size_in_bytes.0 b.file_size_in_bytes.0)
    (sym (and_assoc (eq_z a.snapshot_id.0 b.snapshot_id.0) (same_text a.statistics_path b.statistics_path) (eq_z a.file_size_in_bytes.0 b.file_size_in_bytes.0)))

-- ---- fields, and what has a list of them

abbrev derived_schema_field : SchemaField → SchemaField → Bool
derived_schema_field a b = int_eq a.id.0 b.id.0 && (eqb a.field_type b.field_type && derived_name a.name b.name)

pub schema_field : (a b : SchemaField) → derived_schema_field a b ≡ same_schema_field a b
unfolding same_schema_field
schema_field a b = rw (numbers, name a.name b.name) (sym (and_assoc (eq_z a.id.0 b.id.0) (eqb a.field_type b.field_type) (same_name a.name b.name)))

pub schema_fields : (xs ys : List SchemaField) → pointwise derived_schema_field xs ys ≡ same_list same_schema_field xs ys
schema_fields = listed schema_field

pub schema : (a b : Schema) → (int_eq a.schema_id.0 b.schema_id.0 && (pointwise derived_schema_field a.items b.items && eqb a.count b.count)) ≡ same_schema a b
unfolding same_schema
schema a b = rw (numbers, schema_fields a.items b.items) (counted (eq_z a.schema_id.0 b.schema_id.0) (same_list same_schema_field a.items b.items) (eqb a.count b.count))

abbrev derived_sort_field : SortField → SortField → Bool
derived_sort_field a b = int_eq a.source_id.0 b.source_id.0 && (eqb a.direction b.direction && eqb a.null_order b.null_order)

pub sort_field : (a b : SortField) → derived_sort_field a b ≡ same_sort_field a b
unfolding same_sort_field
sort_field a b = simp (numbers, and_assoc)

pub sort_fields : (xs ys : List SortField) → pointwise derived_sort_field xs ys ≡ same_list same_sort_field xs ys
sort_fields = listed sort_field

pub sort_order : (a b : SortOrder) → (int_eq a.order_id.0 b.order_id.0 && (pointwise derived_sort_field a.items b.items && eqb a.count b.count)) ≡ same_sort_order a b
unfolding same_sort_order
sort_order a b = rw (numbers, sort_fields a.items b.items) (counted (eq_z a.order_id.0 b.order_id.0) (same_list same_sort_field a.items b.items) (eqb a.count b.count))

abbrev derived_partition_field : PartitionField → PartitionField → Bool
derived_partition_field a b =
    int_eq a.source_id.0 b.source_id.0
    && (int_eq a.field_id.0 b.field_id.0
    && (int_eq a.buckets.0 b.buckets.0
    && (eqb a.transform b.transform && (beq a.has_id b.has_id && derived_name a.name b.name))))

pub partition_field : (a b : PartitionField) → derived_partition_field a b ≡ same_partition_field a b
unfolding same_partition_field
partition_field a b = rw (name a.name b.name) (simp (numbers, and_assoc))

pub partition_fields : (xs ys : List PartitionField) → pointwise derived_partition_field xs ys ≡ same_list same_partition_field xs ys
partition_fields = listed partition_field

pub partition_spec : (a b : PartitionSpec) → (int_eq a.spec_id.0 b.spec_id.0 && (pointwise derived_partition_field a.items b.items && eqb a.count b.count)) ≡ same_partition_spec a b
unfolding same_partition_spec
partition_spec a b = rw (numbers, partition_fields a.items b.items) (counted (eq_z a.spec_id.0 b.spec_id.0) (same_list same_partition_field a.items b.items) (eqb a.count b.count))
