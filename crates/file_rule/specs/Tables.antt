-- What is published of a metadata file and of the records in it, as tables: the public table format, "Table Metadata Fields", and "Appendix C: JSON serialization".
-- Document 02, request (vii): "table metadata JSON of versions 1 to 3 for the fields held".
use Rattle.std.specs.Prelude.{ℕ, Bool, true, false, cond, ◌&&◌, ◌||◌, List, [], ◌∷◌, eqb, leb, pos}
use Prim.Native.String.{String}
use Rattle.std.proofs.Math.Option.{Option, none, some}
use Rattle.rules.specs.Words.{collect}
use Rattle.rules.specs.Capacities.{name_room, text_room, snapshot_room, ref_room, snapshot_log_room, metadata_log_room, schema_room, schema_field_room, sort_order_room, sort_field_room, spec_room, partition_field_room, statistics_room}
use Rattle.json_rule.specs.Letters.{bytes}
use Rattle.json_rule.specs.Shapes.{Shape, Anything, TextUpTo, OneOf, NumberIn, No, AUuid, ATransform, i32, i64, u64}

-- the records that are objects
pub data FileKind : Type 0 where
  TheFile HeldSnapshot HeldSchema HeldField HeldSpec HeldPartitionField HeldOrder HeldSortField HeldRef HeldLogEntry HeldFileEntry HeldStatistics HeldPartitionStatistics : FileKind

-- what a value is to be
pub data FileShape : Type 0 where
  -- what is no list and no object, judged as in a list of updates; or any JSON
  Single : Shape → FileShape
  -- a number of 64 bits, or `null`
  IdOrNull : FileShape
  -- a list of at most so many
  Several : ℕ → FileShape → FileShape
  -- an object of at most so many, under names of their own
  ByName : ℕ → FileShape → FileShape
  OfKind : FileKind → FileShape

-- how a member stands in a version
pub data Presence : Type 0 where
  Required Optional Absent : Presence

-- A member: its name, what its value is to be, how it stands in versions 1, 2 and 3. What is wrong with the value of a member `of_schema` stands at the schema.
pub record Row : Type 0 where
  pub name : List ℕ
  pub shape : FileShape
  pub one : Presence
  pub two : Presence
  pub three : Presence
  pub of_schema : Bool

abbrev pub row : String → FileShape → Presence → Presence → Presence → Row
row name shape one two three = record { name = bytes name; shape = shape; one = one; two = two; three = three; of_schema = false }

-- the same in each version
abbrev pub required : String → FileShape → Row
required name shape = row name shape Required Required Required

abbrev pub optional : String → FileShape → Row
optional name shape = row name shape Optional Optional Optional

abbrev pub required_of_schema : String → Shape → Row
required_of_schema name shape = record { name = bytes name; shape = Single shape; one = Required; two = Required; three = Required; of_schema = true }

-- ---- numbers and texts

abbrev pub number32 : FileShape
number32 = Single i32

abbrev pub number64 : FileShape
number64 = Single i64

abbrev pub unsigned64 : FileShape
unsigned64 = Single u64

abbrev pub anything : FileShape
anything = Single Anything

abbrev pub text_up_to : ℕ → FileShape
text_up_to room = Single (TextUpTo room)

abbrev pub one_of : List (List ℕ) → FileShape
one_of words = Single (OneOf words)

-- ---- records

-- "`manifest-list`, `summary` and `schema_id_lem`" are passed over, as in a list of updates; sequence numbers come with version 2, row ids with version 3
abbrev pub snapshot_rows : List Row
snapshot_rows =
    required "snapshot-id" number64
    ∷ optional "parent-snapshot-id" number64
    ∷ row "sequence-number" number64 Absent Required Required
    ∷ required "timestamp-ms" number64
    ∷ row "first-row-id" unsigned64 Absent Absent Optional
    ∷ row "added-rows" unsigned64 Absent Absent Optional
    ∷ optional "manifest-list" anything
    ∷ optional "summary" anything
    ∷ optional "schema-id" anything
    ∷ []

abbrev pub schema_rows : List Row
schema_rows =
    required "type" (one_of (bytes "struct" ∷ []))
    ∷ required "fields" (Several schema_field_room (OfKind HeldField))
    ∷ row "schema-id" number32 Optional Required Required
    ∷ []

abbrev pub field_rows : List Row
field_rows =
    required "id" number32
    ∷ required "name" (text_up_to name_room)
    ∷ required_of_schema "required" No
    ∷ required_of_schema "type" (OneOf (bytes "long" ∷ bytes "timestamp" ∷ []))
    ∷ []

abbrev pub spec_rows : List Row
spec_rows = required "spec-id" number32 ∷ required "fields" (Several partition_field_room (OfKind HeldPartitionField)) ∷ []

abbrev pub partition_field_rows : List Row
partition_field_rows =
    required "source-id" number32
    ∷ row "field-id" number32 Optional Required Required
    ∷ required "name" (text_up_to name_room)
    ∷ required "transform" (Single ATransform)
    ∷ []

abbrev pub order_rows : List Row
order_rows = required "order-id" number64 ∷ required "fields" (Several sort_field_room (OfKind HeldSortField)) ∷ []

abbrev pub sort_field_rows : List Row
sort_field_rows =
    required "transform" (one_of (bytes "identity" ∷ []))
    ∷ required "source-id" number32
    ∷ required "direction" (one_of (bytes "asc" ∷ bytes "desc" ∷ []))
    ∷ required "null-order" (one_of (bytes "nulls-first" ∷ bytes "nulls-last" ∷ []))
    ∷ []

abbrev pub ref_rows : List Row
ref_rows =
    required "snapshot-id" number64
    ∷ required "type" (one_of (bytes "branch" ∷ bytes "tag" ∷ []))
    ∷ optional "min-snapshots-to-keep" number32
    ∷ optional "max-snapshot-age-ms" number64
    ∷ optional "max-ref-age-ms" number64
    ∷ []

abbrev pub log_entry_rows : List Row
log_entry_rows = required "snapshot-id" number64 ∷ required "timestamp-ms" number64 ∷ []

abbrev pub file_entry_rows : List Row
file_entry_rows = required "metadata-file" (text_up_to text_room) ∷ required "timestamp-ms" number64 ∷ []

abbrev pub partition_statistics_rows : List Row
partition_statistics_rows = required "snapshot-id" number64 ∷ required "statistics-path" (text_up_to text_room) ∷ required "file-size-in-bytes" number64 ∷ []

-- a footer's size and blobs are passed over
abbrev pub statistics_rows : List Row
statistics_rows =
    required "snapshot-id" number64
    ∷ required "statistics-path" (text_up_to text_room)
    ∷ required "file-size-in-bytes" number64
    ∷ optional "file-footer-size-in-bytes" anything
    ∷ optional "blob-metadata" anything
    ∷ []

-- ---- the file

abbrev pub version_shape : FileShape
version_shape = Single (NumberIn (pos 1) (pos 3))

abbrev pub file_rows : List Row
file_rows =
    required "format-version" version_shape
    ∷ row "table-uuid" (Single AUuid) Optional Required Required
    ∷ required "location" (text_up_to text_room)
    ∷ row "last-sequence-number" number64 Absent Required Required
    ∷ required "last-updated-ms" number64
    ∷ required "last-column-id" number32
    ∷ row "schema" (OfKind HeldSchema) Required Absent Absent
    ∷ row "schemas" (Several schema_room (OfKind HeldSchema)) Optional Required Required
    ∷ row "current-schema-id" number32 Optional Required Required
    ∷ row "partition-spec" (Several partition_field_room (OfKind HeldPartitionField)) Required Absent Absent
    ∷ row "partition-specs" (Several spec_room (OfKind HeldSpec)) Optional Required Required
    ∷ row "default-spec-id" number32 Optional Required Required
    ∷ row "last-partition-id" number32 Optional Required Required
    ∷ optional "current-snapshot-id" IdOrNull
    ∷ optional "snapshots" (Several snapshot_room (OfKind HeldSnapshot))
    ∷ optional "snapshot-log" (Several snapshot_log_room (OfKind HeldLogEntry))
    ∷ optional "metadata-log" (Several metadata_log_room (OfKind HeldFileEntry))
    ∷ row "sort-orders" (Several sort_order_room (OfKind HeldOrder)) Optional Required Required
    ∷ row "default-sort-order-id" number64 Optional Required Required
    ∷ optional "refs" (ByName ref_room (OfKind HeldRef))
    ∷ optional "statistics" (Several statistics_room (OfKind HeldStatistics))
    ∷ optional "partition-statistics" (Several statistics_room (OfKind HeldPartitionStatistics))
    ∷ row "next-row-id" unsigned64 Absent Absent Required
    ∷ []

abbrev pub rows_of : FileKind → List Row
rows_of TheFile = file_rows
rows_of HeldSnapshot = snapshot_rows
rows_of HeldSchema = schema_rows
rows_of HeldField = field_rows
rows_of HeldSpec = spec_rows
rows_of HeldPartitionField = partition_field_rows
rows_of HeldOrder = order_rows
rows_of HeldSortField = sort_field_rows
rows_of HeldRef = ref_rows
rows_of HeldLogEntry = log_entry_rows
rows_of HeldFileEntry = file_entry_rows
rows_of HeldStatistics = statistics_rows
rows_of HeldPartitionStatistics = partition_statistics_rows

-- ---- a row in a version

-- what a member is in a version
pub record Published : Type 0 where
  pub name : List ℕ
  pub shape : FileShape
  pub is_required : Bool
  pub of_schema : Bool

abbrev pub is_absent : Presence → Bool
is_absent Required = false
is_absent Optional = false
is_absent Absent = true

abbrev pub is_required_by : Presence → Bool
is_required_by Required = true
is_required_by Optional = false
is_required_by Absent = false

-- where the version is none of the three, a member that not every version publishes is passed over, and required is what every version requires
abbrev pub any_version : Row → Published
any_version r =
    cond (is_absent r.one || is_absent r.two || is_absent r.three)
    (record { name = r.name; shape = anything; is_required = false; of_schema = false })
    (record { name = r.name; shape = r.shape; is_required = is_required_by r.one && is_required_by r.two && is_required_by r.three; of_schema = r.of_schema })

abbrev pub published : Row → Presence → Option Published
published r p = cond (is_absent p) none (some (record { name = r.name; shape = r.shape; is_required = is_required_by p; of_schema = r.of_schema }))

unfoldable pub row_in : ℕ → Row → Option Published
row_in version r =
    cond (eqb version 1) (published r r.one)
    (cond (eqb version 2) (published r r.two)
    (cond (eqb version 3) (published r r.three)
    (some (any_version r))))

unfoldable pub rows_in : ℕ → FileKind → List Published
rows_in version kind = collect (row_in version) (rows_of kind)
