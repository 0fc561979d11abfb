-- What a metadata file of a version has of each record, in the order of the public document: "Table Metadata Fields" and "Appendix C: JSON serialization". Document
-- 02, request (vii): "Export writes members in the public document's order, without spaces".
use Rattle.std.specs.Prelude.{ℕ, ◌+◌, ◌/◌, ◌%◌, Bool, cond, List, [], ◌∷◌, ◌++◌, eqb, leb, ℤ, pos}
use Rattle.std.proofs.Math.Option.{Option, none, some}
use Rattle.rules.specs.Words.{or_else, first, eq_z}
use Rattle.rules.specs.Partitions.{identity, year, month, day}
use Rattle.rules.specs.WellFormed.{branch, long}
use Rattle.rules.specs.Register.{RowRange, Snapshot, Reference, NamedRef, LogEntry, FileEntry, SchemaField, Schema, SortField, SortOrder, PartitionField, PartitionSpec, StatisticsFile, Metadata}
use Rattle.json_rule.specs.Letters.{bytes}
use Rattle.file_rule.specs.Written.{natural_text, number_text, hex_digit, quoted, word_text, list_text, items, named, also, also_if, object_text}

-- from a version on
abbrev pub since : ℕ → ℕ → List ℕ → List ℕ
since least version bs = cond (leb least version) bs []

-- ---- single values

abbrev pub hex_byte : ℕ → List ℕ
hex_byte b = hex_digit (b / 16) ∷ hex_digit (b % 16) ∷ []

-- 8-4-4-4-12 hexadecimal digits: a hyphen in front of the fifth, seventh, ninth and eleventh byte
abbrev pub uuid_from : ℕ → List ℕ → List ℕ
uuid_from i [] = []
uuid_from i (b ∷ bs) = cond (eqb i 4) (45 ∷ []) (cond (eqb i 6) (45 ∷ []) (cond (eqb i 8) (45 ∷ []) (cond (eqb i 10) (45 ∷ []) []))) ++ hex_byte b ++ uuid_from (1 + i) bs

unfoldable pub uuid_text : List ℕ → List ℕ
uuid_text bs = 34 ∷ uuid_from 0 bs ++ (34 ∷ [])

unfoldable pub transform_text : ℕ → ℤ → List ℕ
transform_text transform buckets =
    cond (eqb transform identity) (word_text "identity")
    (cond (eqb transform year) (word_text "year")
    (cond (eqb transform month) (word_text "month")
    (cond (eqb transform day) (word_text "day")
    (34 ∷ bytes "bucket[" ++ number_text buckets ++ bytes "]\""))))

-- ---- records

abbrev pub rows_text : Option RowRange → List ℕ
rows_text none = []
rows_text (some r) = also "first-row-id" (natural_text r.first.0) ++ also "added-rows" (natural_text r.added)

unfoldable pub snapshot_text : ℕ → Snapshot → List ℕ
snapshot_text version s =
    object_text
    (named "snapshot-id" (number_text s.id)
    ++ also_if "parent-snapshot-id" number_text s.parent
    ++ since 2 version (also "sequence-number" (number_text s.sequence.0))
    ++ also "timestamp-ms" (number_text s.time)
    ++ since 3 version (rows_text s.rows))

unfoldable pub reference_text : Reference → List ℕ
reference_text r =
    object_text
    (named "snapshot-id" (number_text r.snapshot)
    ++ also "type" (cond (eqb r.kind branch) (word_text "branch") (word_text "tag"))
    ++ also_if "min-snapshots-to-keep" number_text r.min_snapshots
    ++ also_if "max-snapshot-age-ms" number_text r.max_snapshot_age
    ++ also_if "max-ref-age-ms" number_text r.max_ref_age)

-- a member of `refs`
unfoldable pub ref_text : NamedRef → List ℕ
ref_text r = quoted r.name ++ (58 ∷ reference_text r.reference)

unfoldable pub field_text : SchemaField → List ℕ
field_text f =
    object_text
    (named "id" (number_text f.id)
    ++ also "name" (quoted f.name)
    ++ also "required" (bytes "false")
    ++ also "type" (cond (eqb f.field_type long) (word_text "long") (word_text "timestamp")))

unfoldable pub schema_text : Schema → List ℕ
schema_text s = object_text (named "type" (word_text "struct") ++ also "fields" (list_text field_text s.fields) ++ also "schema-id" (number_text s.id))

-- a field that is held has an id
unfoldable pub partition_field_text : PartitionField → List ℕ
partition_field_text f =
    object_text
    (named "source-id" (number_text f.source)
    ++ also "field-id" (number_text (or_else f.id (pos 0)))
    ++ also "name" (quoted f.name)
    ++ also "transform" (transform_text f.transform f.buckets))

unfoldable pub spec_text : PartitionSpec → List ℕ
spec_text s = object_text (named "spec-id" (number_text s.id) ++ also "fields" (list_text partition_field_text s.fields))

unfoldable pub sort_field_text : SortField → List ℕ
sort_field_text f =
    object_text
    (named "transform" (word_text "identity")
    ++ also "source-id" (number_text f.source)
    ++ also "direction" (cond (eqb f.direction 0) (word_text "asc") (word_text "desc"))
    ++ also "null-order" (cond (eqb f.nulls 0) (word_text "nulls-first") (word_text "nulls-last")))

unfoldable pub order_text : SortOrder → List ℕ
order_text o = object_text (named "order-id" (number_text o.id) ++ also "fields" (list_text sort_field_text o.fields))

unfoldable pub log_entry_text : LogEntry → List ℕ
log_entry_text e = object_text (named "snapshot-id" (number_text e.snapshot) ++ also "timestamp-ms" (number_text e.time))

unfoldable pub file_entry_text : FileEntry → List ℕ
file_entry_text e = object_text (named "metadata-file" (quoted e.file) ++ also "timestamp-ms" (number_text e.time))

unfoldable pub statistics_text : StatisticsFile → List ℕ
statistics_text f =
    object_text
    (named "snapshot-id" (number_text f.snapshot)
    ++ also "statistics-path" (quoted f.path)
    ++ also "file-size-in-bytes" (number_text f.size))

-- ---- the file

-- the schema of an id, and the fields of the spec of an id; none where it is not held
abbrev pub schema_by_id : ℤ → List Schema → Schema
schema_by_id id l = or_else (first (λ (s : Schema). eq_z s.id id) l) (record { id = id; fields = [] })

abbrev pub spec_fields : ℤ → List PartitionSpec → List PartitionField
spec_fields id l = elim (first (λ (s : PartitionSpec). eq_z s.id id) l) [ none ↦ [] | some s ↦ s.fields ]

-- up to a version
abbrev pub until : ℕ → ℕ → List ℕ → List ℕ
until most version bs = cond (leb version most) bs []

-- the single fields in front of the tables
unfoldable pub head_text : Metadata → List ℕ
head_text m =
    named "format-version" (natural_text m.fields.version)
    ++ also "table-uuid" (uuid_text m.fields.uuid)
    ++ also "location" (quoted m.fields.location)
    ++ since 2 m.fields.version (also "last-sequence-number" (number_text m.fields.last_sequence.0))
    ++ also "last-updated-ms" (number_text m.fields.last_updated)
    ++ also "last-column-id" (number_text m.fields.last_column)

-- version 1 has the current schema and the fields of the default spec once more
unfoldable pub schemas_text : Metadata → List ℕ
schemas_text m =
    until 1 m.fields.version (also "schema" (schema_text (schema_by_id m.fields.current_schema m.schemas)))
    ++ also "schemas" (list_text schema_text m.schemas)
    ++ also "current-schema-id" (number_text m.fields.current_schema)

unfoldable pub specs_text : Metadata → List ℕ
specs_text m =
    until 1 m.fields.version (also "partition-spec" (list_text partition_field_text (spec_fields m.fields.default_spec m.specs)))
    ++ also "partition-specs" (list_text spec_text m.specs)
    ++ also "default-spec-id" (number_text m.fields.default_spec)
    ++ also "last-partition-id" (number_text m.fields.last_partition)

unfoldable pub snapshots_text : Metadata → List ℕ
snapshots_text m =
    also_if "current-snapshot-id" number_text m.fields.current
    ++ also "snapshots" (list_text (snapshot_text m.fields.version) m.snapshots)
    ++ also "snapshot-log" (list_text log_entry_text m.snapshot_log)
    ++ also "metadata-log" (list_text file_entry_text m.metadata_log)

unfoldable pub tail_text : Metadata → List ℕ
tail_text m =
    also "sort-orders" (list_text order_text m.orders)
    ++ also "default-sort-order-id" (number_text m.fields.default_order)
    ++ also "refs" (object_text (items ref_text m.refs))
    ++ also "statistics" (list_text statistics_text m.statistics)
    ++ also "partition-statistics" (list_text statistics_text m.partition_statistics)
    ++ since 3 m.fields.version (also "next-row-id" (natural_text m.fields.next_row.0))

unfoldable pub file_text : Metadata → List ℕ
file_text m = object_text (head_text m ++ schemas_text m ++ specs_text m ++ snapshots_text m ++ tail_text m)
