-- The pieces of each record, one behind the other, are the rule's text of it.
use Prim.Native.Nat.{ℕ}
use Prim.Native.String.{String}
use mathlib.Core.Path.{◌≡◌, refl, sym, ap}
use mathlib.Core.Bool.{Bool, true, false, cond, ◌&&◌}
use mathlib.Core.List.{List, [], ◌∷◌, ◌++◌, append_assoc}
use mathlib.Core.Option.{some}
use borrow.Author.Tests.{ne_eqb}
use lib.Dec.{eqb, leb}
use lib.IntN.{ℤ, pos}
use Rattle.records.specs.declared.snapshot.Snapshot.{Snapshot}
use Rattle.records.specs.declared.snapshot.SnapshotLogEntry.{SnapshotLogEntry}
use Rattle.records.specs.declared.reference.SnapshotReference.{SnapshotReference}
use Rattle.records.specs.declared.reference.NamedRef.{NamedRef}
use Rattle.records.specs.declared.schema.SchemaField.{SchemaField}
use Rattle.records.specs.declared.schema.Schema.{Schema}
use Rattle.records.specs.declared.sort_order.SortField.{SortField}
use Rattle.records.specs.declared.sort_order.SortOrder.{SortOrder}
use Rattle.records.specs.declared.partition.PartitionField.{PartitionField}
use Rattle.records.specs.declared.partition.PartitionSpec.{PartitionSpec}
use Rattle.records.specs.declared.statistics.StatisticsFile.{StatisticsFile}
use Rattle.records.specs.declared.metadata.MetadataLogEntry.{MetadataLogEntry}
use Rattle.records.specs.declared.metadata.SingleFields.{SingleFields}
use Rattle.rules.specs.Words.{or_else}
use Rattle.rules.specs.Register as plain
use Rattle.rules.specs.Layout.{given, read_name, read_text, read_snapshot, read_log_entry, read_reference, read_ref, read_schema_field, read_schema, read_sort_field, read_sort_order, read_partition_field, read_partition_spec, read_statistics_file, read_metadata_log_entry, read_fields}
use Rattle.json_rule.specs.Letters.{bytes}
use Rattle.file_rule.specs.Written.{natural_text, number_text, quoted, word_text, items, list_text, also, also_if}
use Rattle.file_rule.specs.Files.{rows_text, uuid_text, snapshot_text, log_entry_text, reference_text, ref_text, field_text, schema_text, sort_field_text, order_text, transform_text, partition_field_text, spec_text, statistics_text, file_entry_text, schema_by_id, spec_fields, head_text, schemas_text, specs_text, snapshots_text, tail_text, file_text}
use Rattle.file_text.specs.Puts.{only_if}
use Rattle.file_tables.specs.Parts.{of_fields, of_schemas, of_specs, of_snapshots, of_rest}

-- ---- members that may be absent, and words

pub also_if_lem : (w : Bool) (name : String) (x : ℤ) → only_if w (also name (number_text x)) ≡ also_if name number_text (given w x)
also_if_lem true name x = refl
also_if_lem false name x = refl

rows_if : (w v : Bool) (r : plain.RowRange) → only_if (w && v) (rows_text (some r)) ≡ cond v (rows_text (given w r)) []
rows_if true true r = refl
rows_if true false r = refl
rows_if false true r = refl
rows_if false false r = refl

pub either : (w : Bool) (front a b : List ℕ) → cond w (front ++ a) (front ++ b) ≡ front ++ cond w a b
either true front a b = refl
either false front a b = refl

either_closed : (w : Bool) (front a b : List ℕ) → cond w (front ++ a ++ (125 ∷ [])) (front ++ b ++ (125 ∷ [])) ≡ front ++ cond w a b ++ (125 ∷ [])
either_closed true front a b = refl
either_closed false front a b = refl

-- ---- pieces that are grouped otherwise

join : (x r t e : List ℕ) → x ++ (r ++ t ++ e) ≡ x ++ r ++ t ++ e
join x r t e = simp append_assoc

listed : (x f i a e : List ℕ) → x ++ f ++ i ++ (a ++ e) ≡ x ++ (f ++ (i ++ a)) ++ e
listed x f i a e = simp append_assoc

grouped : (s i c n r j d e k g l o z : List ℕ) → s ++ i ++ (c ++ n) ++ r ++ j ++ (d ++ e) ++ k ++ (c ++ g) ++ l ++ c ++ o ++ z ≡ s ++ (i ++ c) ++ n ++ (r ++ (j ++ d)) ++ (e ++ (k ++ c)) ++ (g ++ (l ++ c)) ++ o ++ z
grouped s i c n r j d e k g l o z = simp append_assoc

-- ---- records

pub rows_is : (w : Bool) (r : plain.RowRange) → only_if w (bytes ",\"first-row-id\":" ++ natural_text r.first.0) ++ only_if w (bytes ",\"added-rows\":" ++ natural_text r.added) ≡ only_if w (rows_text (some r))
rows_is true r = refl
rows_is false r = refl

pub snapshot_is : (v : ℕ) (s : Snapshot) {a b c d : ℤ} → a ≡ s.snapshot_id.0 → b ≡ s.parent_snapshot_id.0 → c ≡ s.sequence_number.0 → d ≡ s.timestamp_ms.0
    → bytes "{\"snapshot-id\":" ++ number_text a ++ only_if s.has_parent (bytes ",\"parent-snapshot-id\":" ++ number_text b) ++ only_if (leb 2 v) (bytes ",\"sequence-number\":" ++ number_text c)
    ++ (bytes ",\"timestamp-ms\":" ++ number_text d) ++ only_if (s.has_rows && leb 3 v) (rows_text (some (record { first = s.first_row_id; added = s.added_rows }))) ++ bytes "}"
    ≡ snapshot_text v (read_snapshot s)
unfolding snapshot_text
snapshot_is v s p q r t = rw (p, q, r, t, also_if_lem s.has_parent "parent-snapshot-id" s.parent_snapshot_id.0, rows_if s.has_rows (leb 3 v) (record { first = s.first_row_id; added = s.added_rows }))

pub log_entry_is : (e : SnapshotLogEntry) {a b : ℤ} → a ≡ e.snapshot_id.0 → b ≡ e.timestamp_ms.0
    → bytes "{\"snapshot-id\":" ++ number_text a ++ (bytes ",\"timestamp-ms\":" ++ number_text b) ++ bytes "}" ≡ log_entry_text (read_log_entry e)
unfolding log_entry_text
log_entry_is e p q = rw (p, q)

pub file_entry_is : (e : MetadataLogEntry) {a : ℤ} → a ≡ e.timestamp_ms.0
    → bytes "{\"metadata-file\":" ++ quoted (read_text e.metadata_file) ++ (bytes ",\"timestamp-ms\":" ++ number_text a) ++ bytes "}" ≡ file_entry_text (read_metadata_log_entry e)
unfolding file_entry_text
file_entry_is e p = rw p

pub file_is : (f : StatisticsFile) {a b : ℤ} → a ≡ f.snapshot_id.0 → b ≡ f.file_size_in_bytes.0
    → bytes "{\"snapshot-id\":" ++ number_text a ++ (bytes ",\"statistics-path\":" ++ quoted (read_text f.statistics_path)) ++ (bytes ",\"file-size-in-bytes\":" ++ number_text b) ++ bytes "}"
    ≡ statistics_text (read_statistics_file f)
unfolding statistics_text
file_is f p q = rw (p, q)

pub reference_is : (f : SnapshotReference) {a b c d : ℤ} → a ≡ f.snapshot_id.0 → b ≡ f.min_snapshots_to_keep.0 → c ≡ f.max_snapshot_age_ms.0 → d ≡ f.max_ref_age_ms.0
    → bytes ":{\"snapshot-id\":" ++ number_text a ++ cond (eqb f.kind 1) (bytes ",\"type\":\"branch\"") (bytes ",\"type\":\"tag\"") ++ only_if f.has_min (bytes ",\"min-snapshots-to-keep\":" ++ number_text b)
    ++ only_if f.has_age (bytes ",\"max-snapshot-age-ms\":" ++ number_text c) ++ only_if f.has_ref_age (bytes ",\"max-ref-age-ms\":" ++ number_text d) ++ bytes "}"
    ≡ 58 ∷ reference_text (read_reference f)
unfolding reference_text
reference_is f p q r t =
    rw (
      p,
      q,
      r,
      t,
      either (eqb f.kind 1) (bytes ",\"type\":") (word_text "branch") (word_text "tag"),
      also_if_lem f.has_min "min-snapshots-to-keep" f.min_snapshots_to_keep.0,
      also_if_lem f.has_age "max-snapshot-age-ms" f.max_snapshot_age_ms.0,
      also_if_lem f.has_ref_age "max-ref-age-ms" f.max_ref_age_ms.0,
    )

pub ref_is : (x : NamedRef) → quoted (read_name x.name) ++ (58 ∷ reference_text (read_reference x.reference)) ≡ ref_text (read_ref x)
unfolding ref_text
ref_is x = refl

pub field_is : (f : SchemaField) {a : ℤ} → a ≡ f.id.0
    → bytes "{\"id\":" ++ number_text a ++ (bytes ",\"name\":" ++ quoted (read_name f.name)) ++ cond (eqb f.field_type 1) (bytes ",\"required\":false,\"type\":\"long\"}") (bytes ",\"required\":false,\"type\":\"timestamp\"}")
    ≡ field_text (read_schema_field f)
unfolding field_text
field_is f p =
    let w = eqb f.field_type 1 in
    rw (p, either_closed w (bytes ",\"required\":false,\"type\":") (word_text "long") (word_text "timestamp"))
    (join (bytes "{\"id\":" ++ number_text f.id.0 ++ (bytes ",\"name\":" ++ quoted (read_name f.name))) (also "required" (bytes "false")) (also "type" (cond w (word_text "long") (word_text "timestamp"))) (125 ∷ []))

pub sort_field_is : (f : SortField) {a : ℤ} → a ≡ f.source_id.0
    → bytes "{\"transform\":\"identity\",\"source-id\":" ++ number_text a ++ cond (eqb f.direction 0) (bytes ",\"direction\":\"asc\"") (bytes ",\"direction\":\"desc\"")
    ++ cond (eqb f.null_order 0) (bytes ",\"null-order\":\"nulls-first\"}") (bytes ",\"null-order\":\"nulls-last\"}")
    ≡ sort_field_text (read_sort_field f)
unfolding sort_field_text
sort_field_is f p =
    let d = eqb f.direction 0 in
    let n = eqb f.null_order 0 in
    rw (p, either d (bytes ",\"direction\":") (word_text "asc") (word_text "desc"), either_closed n (bytes ",\"null-order\":") (word_text "nulls-first") (word_text "nulls-last"))
    (sym (append_assoc (bytes "{\"transform\":\"identity\",\"source-id\":" ++ number_text f.source_id.0 ++ also "direction" (cond d (word_text "asc") (word_text "desc"))) (also "null-order" (cond n (word_text "nulls-first") (word_text "nulls-last"))) (125 ∷ [])))

pub bucket_is : (t : ℕ) (z : ℤ) {b : ℤ} → b ≡ z → (t ≡ 1 → ⊥) → (t ≡ 2 → ⊥) → (t ≡ 3 → ⊥) → (t ≡ 4 → ⊥)
    → bytes "\"bucket[" ++ number_text b ++ bytes "]\"" ≡ transform_text t z
unfolding transform_text
bucket_is t z e i y m d = rw (e, ne_eqb t 1 i, ne_eqb t 2 y, ne_eqb t 3 m, ne_eqb t 4 d)

pub partition_field_is : (f : PartitionField) {a b : ℤ} → a ≡ f.source_id.0 → b ≡ or_else (read_partition_field f).id (pos 0)
    → bytes "{\"source-id\":" ++ number_text a ++ (bytes ",\"field-id\":" ++ number_text b) ++ (bytes ",\"name\":" ++ quoted (read_name f.name)) ++ bytes ",\"transform\":" ++ transform_text f.transform f.buckets.0 ++ bytes "}"
    ≡ partition_field_text (read_partition_field f)
unfolding partition_field_text
partition_field_is f p q =
    rw (p, q)
    (ap (λ (l : List ℕ). l ++ (125 ∷ []))
    (append_assoc (bytes "{\"source-id\":" ++ number_text f.source_id.0 ++ (bytes ",\"field-id\":" ++ number_text (or_else (read_partition_field f).id (pos 0))) ++ (bytes ",\"name\":" ++ quoted (read_name f.name))) (bytes ",\"transform\":") (transform_text f.transform f.buckets.0)))

-- ---- records with a list of others

pub schema_is : (s : Schema) {a : ℤ} → a ≡ s.schema_id.0
    → bytes "{\"type\":\"struct\",\"fields\":[" ++ items field_text (read_schema s).fields ++ (bytes "],\"schema-id\":" ++ number_text a) ++ bytes "}" ≡ schema_text (read_schema s)
unfolding schema_text
schema_is s p =
    rw p (ap (λ (l : List ℕ). bytes "{\"type\":\"struct\",\"fields\":[" ++ l ++ (125 ∷ [])) (sym (append_assoc (items field_text (read_schema s).fields) (93 ∷ []) (also "schema-id" (number_text s.schema_id.0)))))

pub spec_is : (s : PartitionSpec) {a : ℤ} → a ≡ s.spec_id.0
    → bytes "{\"spec-id\":" ++ number_text a ++ bytes ",\"fields\":[" ++ items partition_field_text (read_partition_spec s).fields ++ bytes "]}" ≡ spec_text (read_partition_spec s)
unfolding spec_text
spec_is s p = rw p (listed (bytes "{\"spec-id\":" ++ number_text s.spec_id.0) (bytes ",\"fields\":[") (items partition_field_text (read_partition_spec s).fields) (93 ∷ []) (125 ∷ []))

pub order_is : (o : SortOrder) {a : ℤ} → a ≡ o.order_id.0
    → bytes "{\"order-id\":" ++ number_text a ++ bytes ",\"fields\":[" ++ items sort_field_text (read_sort_order o).fields ++ bytes "]}" ≡ order_text (read_sort_order o)
unfolding order_text
order_is o p = rw p (listed (bytes "{\"order-id\":" ++ number_text o.order_id.0) (bytes ",\"fields\":[") (items sort_field_text (read_sort_order o).fields) (93 ∷ []) (125 ∷ []))

-- ---- parts of the file

pub head_is : (f : SingleFields) {a b c : ℤ} → a ≡ f.last_sequence_number.0 → b ≡ f.last_updated_ms.0 → c ≡ f.last_column_id.0
    → bytes "{\"format-version\":" ++ natural_text f.format_version ++ (bytes ",\"table-uuid\":" ++ uuid_text f.table_uuid) ++ (bytes ",\"location\":" ++ quoted (read_text f.location))
    ++ only_if (leb 2 f.format_version) (bytes ",\"last-sequence-number\":" ++ number_text a) ++ (bytes ",\"last-updated-ms\":" ++ number_text b) ++ (bytes ",\"last-column-id\":" ++ number_text c)
    ≡ 123 ∷ head_text (of_fields (read_fields f))
unfolding head_text
head_is f p q r = rw (p, q, r)

pub current_is : (s : List ℕ) {a : List ℕ} → a ≡ s → bytes ",\"schema\":" ++ a ≡ also "schema" s
current_is s p = rw p

pub default_is : (l : List plain.PartitionField) {k : List plain.PartitionField} → k ≡ l
    → bytes ",\"partition-spec\":[" ++ items partition_field_text k ++ bytes "]" ≡ also "partition-spec" (list_text partition_field_text l)
default_is l p = rw p

pub schemas_is : (f : SingleFields) (l : List plain.Schema) {a : ℤ} → a ≡ f.current_schema_id.0
    → only_if (leb f.format_version 1) (also "schema" (schema_text (schema_by_id f.current_schema_id.0 l))) ++ bytes ",\"schemas\":[" ++ items schema_text l ++ (bytes "],\"current-schema-id\":" ++ number_text a)
    ≡ schemas_text (of_schemas (read_fields f) l)
unfolding schemas_text
schemas_is f l p = rw p (simp append_assoc)

pub specs_is : (f : SingleFields) (l : List plain.PartitionSpec) {a b : ℤ} → a ≡ f.default_spec_id.0 → b ≡ f.last_partition_id.0
    → only_if (leb f.format_version 1) (also "partition-spec" (list_text partition_field_text (spec_fields f.default_spec_id.0 l))) ++ bytes ",\"partition-specs\":[" ++ items spec_text l
    ++ (bytes "],\"default-spec-id\":" ++ number_text a) ++ (bytes ",\"last-partition-id\":" ++ number_text b)
    ≡ specs_text (of_specs (read_fields f) l)
unfolding specs_text
specs_is f l p q = rw (p, q) (simp append_assoc)

pub snapshots_is : (f : SingleFields) (l : List plain.Snapshot) (log : List plain.LogEntry) (files : List plain.FileEntry) {a : ℤ} → a ≡ f.current_snapshot_id.0
    → only_if f.has_current (bytes ",\"current-snapshot-id\":" ++ number_text a) ++ bytes ",\"snapshots\":[" ++ items (snapshot_text f.format_version) l ++ bytes "],\"snapshot-log\":[" ++ items log_entry_text log
    ++ bytes "],\"metadata-log\":[" ++ items file_entry_text files ++ bytes "]"
    ≡ snapshots_text (of_snapshots (read_fields f) l log files)
unfolding snapshots_text
snapshots_is f l log files p = rw (p, also_if_lem f.has_current "current-snapshot-id" f.current_snapshot_id.0) (simp append_assoc)

pub tail_is : (f : SingleFields) (orders : List plain.SortOrder) (refs : List plain.NamedRef) (files others : List plain.StatisticsFile) {a : ℤ} → a ≡ f.default_sort_order_id.0
    → bytes ",\"sort-orders\":[" ++ items order_text orders ++ (bytes "],\"default-sort-order-id\":" ++ number_text a) ++ bytes ",\"refs\":{" ++ items ref_text refs ++ bytes "},\"statistics\":[" ++ items statistics_text files
    ++ bytes "],\"partition-statistics\":[" ++ items statistics_text others ++ bytes "]" ++ only_if (leb 3 f.format_version) (bytes ",\"next-row-id\":" ++ natural_text f.next_row_id.0) ++ bytes "}"
    ≡ tail_text (of_rest (read_fields f) orders refs files others) ++ (125 ∷ [])
unfolding tail_text
tail_is f orders refs files others p =
    rw p
    (grouped (bytes ",\"sort-orders\":[") (items order_text orders) (93 ∷ []) (also "default-sort-order-id" (number_text f.default_sort_order_id.0)) (bytes ",\"refs\":{") (items ref_text refs) (125 ∷ [])
    (bytes ",\"statistics\":[") (items statistics_text files) (bytes ",\"partition-statistics\":[") (items statistics_text others) (only_if (leb 3 f.format_version) (also "next-row-id" (natural_text f.next_row_id.0))) (125 ∷ []))

pub whole_is : (m : plain.Metadata)
    → 123 ∷ head_text (of_fields m.fields) ++ schemas_text (of_schemas m.fields m.schemas) ++ specs_text (of_specs m.fields m.specs) ++ snapshots_text (of_snapshots m.fields m.snapshots m.snapshot_log m.metadata_log)
    ++ (tail_text (of_rest m.fields m.orders m.refs m.statistics m.partition_statistics) ++ (125 ∷ []))
    ≡ file_text m
unfolding head_text schemas_text specs_text snapshots_text tail_text file_text
whole_is m = sym (append_assoc (123 ∷ head_text m ++ schemas_text m ++ specs_text m ++ snapshots_text m) (tail_text m) (125 ∷ []))
