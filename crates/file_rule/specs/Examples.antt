-- Metadata files and the answers that they must get, and metadata and the files that it must give: document 02, request (vii), both sides of every bound, and the
-- readings that decide where it is silent; docs/RULES.md and docs/FILES.md cite them by the names in their comments. That the rule gives these answers is one
-- statement over the list (`file_examples_hold`, in proofs/Examples). `tools/clauses` changes the rule one clause at a time and says which example then fails.
use Rattle.std.specs.Prelude.{ℕ, ◌-◌, cond, not, List, [], ◌∷◌, ◌++◌, map, ℤ, pos, negsuc, length, replicate}
use Prim.Native.String.{String}
use Rattle.std.proofs.Math.Option.{Option, none, some}
use Rattle.rules.specs.Words.{keep, same_bytes}
use Rattle.rules.specs.WellFormed.{branch, tag, long, timestamp}
use Rattle.rules.specs.Partitions.{identity, year, month, day, bucket}
use Rattle.rules.specs.Register.{RowRange, Snapshot, Reference, NamedRef, LogEntry, FileEntry, SchemaField, Schema, SortField, SortOrder, PartitionField, PartitionSpec, StatisticsFile, SingleFields, Metadata, with_fields, with_snapshots, with_refs, with_metadata_log, with_schemas, with_orders, with_specs, with_statistics, with_uuid, with_version, with_location, with_last_updated, with_last_sequence, with_current, with_current_schema, with_default_order, with_default_spec, with_last_partition}
use Rattle.rules.specs.Register.StatisticsTable.{Statistics, PartitionStatistics}
use Rattle.json_rule.specs.Letters.{bytes}
use Rattle.json_rule.specs.Examples.{json, mark, unmarked, marked_place, many, several, range_from, sort_by}
use Rattle.file_rule.specs.Import.{Imported, imported}
use Rattle.file_rule.specs.Export.{Exported, exported}

-- ---- how a file is written here. In texts `'` stands for a quotation mark, and `^`, which is no part of the text, stands before the place of the answer.

-- a member: its name and its value
pub record Piece : Type 0 where
  pub name : List ℕ
  pub value : List ℕ

abbrev pub piece : String → String → Piece
piece name value = record { name = bytes name; value = json value }

abbrev pub piece_text : Piece → List ℕ
piece_text p = 34 ∷ p.name ++ json "':" ++ p.value

abbrev pub more_pieces : List Piece → List ℕ
more_pieces [] = []
more_pieces (p ∷ ps) = 44 ∷ piece_text p ++ more_pieces ps

abbrev pub inside : List Piece → List ℕ
inside [] = []
inside (p ∷ ps) = piece_text p ++ more_pieces ps

-- an object of these members, without spaces
abbrev pub file_of : List Piece → List ℕ
file_of ps = 123 ∷ inside ps ++ (125 ∷ [])

-- without the member of a name
abbrev pub less : String → List Piece → List Piece
less name ps = keep (λ (p : Piece). not (same_bytes p.name (bytes name))) ps

-- with another value of a name
abbrev pub put_bytes : String → List ℕ → List Piece → List Piece
put_bytes name value ps = map (λ (p : Piece). cond (same_bytes p.name (bytes name)) (record { name = p.name; value = value }) p) ps

abbrev pub put : String → String → List Piece → List Piece
put name value ps = put_bytes name (json value) ps

-- with one member more, behind the others
abbrev pub plus : String → String → List Piece → List Piece
plus name value ps = ps ++ (piece name value ∷ [])

-- in the other order
abbrev pub turned : List Piece → List Piece
turned [] = []
turned (p ∷ ps) = turned ps ++ (p ∷ [])

-- ---- what is asked, and the place of the mark

pub data Question : Type 0 where
  -- a text is read
  Read : List ℕ → Question
  -- metadata is written into so many bytes
  Write : Metadata → ℕ → Question

pub record Asked : Type 0 where
  pub question : Question
  pub place : ℕ

abbrev pub file : List ℕ → Asked
file text = record { question = Read (unmarked text); place = marked_place text }

-- a whole file
abbrev pub whole : List Piece → Asked
whole ps = file (file_of ps)

-- a whole file without the member of a name; the mark stands before it
abbrev pub lacks : String → List Piece → Asked
lacks name ps = file (mark ∷ file_of (less name ps))

-- a file of a version that ends inside
abbrev pub begin : String → List ℕ
begin version = json "{'format-version':" ++ json version ++ json ","

abbrev pub opens : String → String → Asked
opens version rest = file (begin version ++ json rest)

-- one that ends with the same so many times
abbrev pub crowded : String → String → ℕ → String → Asked
crowded version rest n each = file (begin version ++ json rest ++ several n (json each))

-- one that ends inside a text of so many bytes, which is closed
abbrev pub texted : String → String → ℕ → String → Asked
texted version rest n end = file (begin version ++ json rest ++ many n (json "x") ++ json end)

-- a buffer that is long enough
abbrev pub writing : Metadata → Asked
writing m = record { question = Write m 5000; place = 0 }

abbrev pub writing_into : ℕ → Metadata → Asked
writing_into room m = record { question = Write m room; place = 0 }

-- ---- answers

pub data Answer : Type 0 where
  WasRead : Imported → Answer
  WasWritten : Exported → Answer

-- a number at the place of the mark
abbrev pub refusal : ℕ → ℕ → Answer
refusal number place = WasRead (record { number = number; place = place; skipped = 0; metadata = none })

-- the same of metadata that is not well formed, at 0
abbrev pub not_formed : ℕ → Answer
not_formed place = refusal 1 0

abbrev pub skips : ℕ → Metadata → ℕ → Answer
skips skipped m place = WasRead (record { number = 0; place = 0; skipped = skipped; metadata = some m })

abbrev pub says : Metadata → ℕ → Answer
says m place = skips 0 m place

abbrev pub shows : List Piece → ℕ → Answer
shows ps place = WasWritten (record { number = 0; file = file_of ps })

abbrev pub number : ℕ → ℕ → Answer
number n place = WasWritten (record { number = n; file = [] })

-- ---- records

abbrev pub snapshot_of : ℤ → ℤ → Snapshot
snapshot_of id sequence = record { id = id; parent = none; sequence = record { 0 = sequence }; time = pos 2; rows = none }

abbrev pub ranged : Option RowRange → Snapshot
ranged rows = record { id = pos 5; parent = none; sequence = record { 0 = pos 0 }; time = pos 2; rows = rows }

abbrev pub plain : ℕ → ℤ → Reference
plain kind id = record { snapshot = id; kind = kind; min_snapshots = none; max_snapshot_age = none; max_ref_age = none }

abbrev pub ref_to : List ℕ → ℕ → ℤ → NamedRef
ref_to name kind id = record { name = name; owner = 1; reference = plain kind id }

abbrev pub column : ℤ → ℕ → List ℕ → SchemaField
column id field_type name = record { id = id; field_type = field_type; name = name }

abbrev pub schema_of : ℤ → List SchemaField → Schema
schema_of id fields = record { id = id; fields = fields }

abbrev pub order_of : ℤ → List SortField → SortOrder
order_of id fields = record { id = id; fields = fields }

abbrev pub spec_of : ℤ → List PartitionField → PartitionSpec
spec_of id fields = record { id = id; fields = fields }

abbrev pub part : ℤ → ℤ → ℕ → ℤ → List ℕ → PartitionField
part source id transform buckets name = record { source = source; id = some id; transform = transform; buckets = buckets; name = name }

abbrev pub logged : ℤ → ℤ → LogEntry
logged id time = record { snapshot = id; time = time }

abbrev pub metadata_file : List ℕ → ℤ → FileEntry
metadata_file name time = record { file = name; time = time }

abbrev pub statistics_file : ℤ → List ℕ → ℤ → StatisticsFile
statistics_file id path size = record { snapshot = id; path = path; size = size }

-- ---- files that have what is required alone, and what they say

abbrev pub least1 : List Piece
least1 =
    piece "format-version" "1"
    ∷ piece "location" "'a'"
    ∷ piece "last-updated-ms" "6"
    ∷ piece "last-column-id" "7"
    ∷ piece "schema" "{'type':'struct','fields':[]}"
    ∷ piece "partition-spec" "[]"
    ∷ []

abbrev pub least2 : List Piece
least2 =
    piece "format-version" "2"
    ∷ piece "table-uuid" "'01234567-89ab-cdef-1032-547698badcfe'"
    ∷ piece "location" "'a'"
    ∷ piece "last-sequence-number" "5"
    ∷ piece "last-updated-ms" "6"
    ∷ piece "last-column-id" "7"
    ∷ piece "schemas" "[{'type':'struct','fields':[],'schema-id':0}]"
    ∷ piece "current-schema-id" "0"
    ∷ piece "partition-specs" "[{'spec-id':0,'fields':[]}]"
    ∷ piece "default-spec-id" "0"
    ∷ piece "last-partition-id" "1001"
    ∷ piece "sort-orders" "[{'order-id':0,'fields':[]}]"
    ∷ piece "default-sort-order-id" "0"
    ∷ []

abbrev pub least3 : List Piece
least3 = plus "next-row-id" "8" (put "format-version" "3" least2)

abbrev pub uuid : List ℕ
uuid = 1 ∷ 35 ∷ 69 ∷ 103 ∷ 137 ∷ 171 ∷ 205 ∷ 239 ∷ 16 ∷ 50 ∷ 84 ∷ 118 ∷ 152 ∷ 186 ∷ 220 ∷ 254 ∷ []

abbrev pub least_of : SingleFields → Metadata
least_of fields = record { fields = fields; snapshots = []; refs = []; snapshot_log = []; metadata_log = []; schemas = schema_of (pos 0) [] ∷ []; orders = order_of (pos 0) [] ∷ []; statistics = []; partition_statistics = []; specs = spec_of (pos 0) [] ∷ [] }

abbrev pub fields1 : SingleFields
fields1 = record { version = 1; uuid = replicate 16 0; location = bytes "a"; last_updated = pos 6; last_sequence = record { 0 = pos 0 }; next_row = record { 0 = 0 }; last_column = pos 7; current = none; current_schema = pos 0; default_order = pos 0; default_spec = pos 0; last_partition = pos 999 }

abbrev pub fields2 : SingleFields
fields2 = with_last_partition (pos 1001) (with_uuid uuid (with_last_sequence (record { 0 = pos 5 }) (record { 0 = 0 }) (with_version 2 (record { 0 = 0 }) fields1)))

abbrev pub fields3 : SingleFields
fields3 = with_version 3 (record { 0 = 8 }) fields2

abbrev pub said1 : Metadata
said1 = least_of fields1

abbrev pub said2 : Metadata
said2 = least_of fields2

abbrev pub said3 : Metadata
said3 = least_of fields3

-- ---- files that have all that is held, and what they say. Tables are not in order; the second snapshot, ref and so on have what is required alone.

abbrev pub schemas : String
schemas = "[{'type':'struct','fields':[{'id':2,'name':'t','required':false,'type':'timestamp'},{'type':'long','required':false,'name':'a','id':1}],'schema-id':1},{'schema-id':0,'fields':[],'type':'struct'}]"

abbrev pub specs : String
specs = "[{'spec-id':1,'fields':[{'source-id':2,'field-id':1001,'name':'y','transform':'year'},{'transform':'bucket[16]','name':'b','field-id':1000,'source-id':1}]},{'fields':[],'spec-id':0}]"

abbrev pub snapshots : String
snapshots = "[{'snapshot-id':5,'parent-snapshot-id':3,'sequence-number':12,'timestamp-ms':20,'first-row-id':7,'added-rows':8,'manifest-list':'m','summary':{'a':[1,{}],'a':2},'schema-id':null},{'timestamp-ms':10,'sequence-number':11,'snapshot-id':3}]"

abbrev pub statistics : String
statistics = "[{'snapshot-id':5,'statistics-path':'p','file-size-in-bytes':31,'file-footer-size-in-bytes':'f','blob-metadata':[{}]},{'file-size-in-bytes':32,'statistics-path':'q','snapshot-id':3}]"

abbrev pub all3 : List Piece
all3 =
    piece "format-version" "3"
    ∷ piece "table-uuid" "'01234567-89AB-CDEF-1032-547698BADCFE'"
    ∷ piece "location" "'s3://a'"
    ∷ piece "last-sequence-number" "3000000001"
    ∷ piece "last-updated-ms" "-3000000002"
    ∷ piece "last-column-id" "9"
    ∷ piece "schemas" schemas
    ∷ piece "current-schema-id" "1"
    ∷ piece "partition-specs" specs
    ∷ piece "default-spec-id" "1"
    ∷ piece "last-partition-id" "1005"
    ∷ piece "current-snapshot-id" "5"
    ∷ piece "snapshots" snapshots
    ∷ piece "snapshot-log" "[{'snapshot-id':5,'timestamp-ms':20},{'timestamp-ms':10,'snapshot-id':3}]"
    ∷ piece "metadata-log" "[{'metadata-file':'m2','timestamp-ms':19},{'timestamp-ms':9,'metadata-file':'m1'}]"
    ∷ piece "sort-orders" "[{'order-id':1,'fields':[{'transform':'identity','source-id':2,'direction':'desc','null-order':'nulls-last'},{'null-order':'nulls-first','direction':'asc','source-id':1,'transform':'identity'}]},{'fields':[],'order-id':0}]"
    ∷ piece "default-sort-order-id" "1"
    ∷ piece "refs" "{'main':{'snapshot-id':5,'type':'branch','min-snapshots-to-keep':1,'max-snapshot-age-ms':2,'max-ref-age-ms':3},'b':{'type':'tag','snapshot-id':3}}"
    ∷ piece "statistics" statistics
    ∷ piece "partition-statistics" "[{'snapshot-id':5,'statistics-path':'r','file-size-in-bytes':33},{'file-size-in-bytes':34,'statistics-path':'s','snapshot-id':3}]"
    ∷ piece "next-row-id" "18446744073709551615"
    ∷ []

-- version 2 has no row ids
abbrev pub all2 : List Piece
all2 =
    less "next-row-id" (put "format-version" "2"
    (put "snapshots" "[{'snapshot-id':5,'parent-snapshot-id':3,'sequence-number':12,'timestamp-ms':20,'manifest-list':'m','summary':{},'schema-id':1},{'timestamp-ms':10,'sequence-number':11,'snapshot-id':3}]" all3))

-- version 1 has no sequence numbers; its single schema and spec are others here
abbrev pub all1 : List Piece
all1 =
    less "last-sequence-number" (put "format-version" "1"
    (put "snapshots" "[{'snapshot-id':5,'parent-snapshot-id':3,'timestamp-ms':20,'manifest-list':'m','summary':{},'schema-id':1},{'timestamp-ms':10,'snapshot-id':3}]"
    (plus "schema" "{'type':'struct','fields':[{'id':7,'name':'other','required':false,'type':'long'}]}"
    (plus "partition-spec" "[{'source-id':7,'name':'other','transform':'day'}]" all2))))

abbrev pub held_fields : SingleFields
held_fields = record { version = 3; uuid = uuid; location = bytes "s3://a"; last_updated = negsuc 3000000001; last_sequence = record { 0 = pos 3000000001 }; next_row = record { 0 = 18446744073709551615 }; last_column = pos 9; current = some (pos 5); current_schema = pos 1; default_order = pos 1; default_spec = pos 1; last_partition = pos 1005 }

abbrev pub held_snapshots : ℤ → ℤ → Option RowRange → List Snapshot
held_snapshots earlier later rows =
    record { id = pos 3; parent = none; sequence = record { 0 = earlier }; time = pos 10; rows = none }
    ∷ record { id = pos 5; parent = some (pos 3); sequence = record { 0 = later }; time = pos 20; rows = rows }
    ∷ []

abbrev pub held3 : Metadata
held3 =
    record {
      fields = held_fields;
      snapshots = held_snapshots (pos 11) (pos 12) (range_from 7 8);
      refs =
          ref_to (bytes "b") tag (pos 3)
          ∷ record { name = bytes "main"; owner = 1; reference = record { snapshot = pos 5; kind = branch; min_snapshots = some (pos 1); max_snapshot_age = some (pos 2); max_ref_age = some (pos 3) } }
          ∷ [];
      snapshot_log = logged (pos 5) (pos 20) ∷ logged (pos 3) (pos 10) ∷ [];
      metadata_log = metadata_file (bytes "m2") (pos 19) ∷ metadata_file (bytes "m1") (pos 9) ∷ [];
      schemas = schema_of (pos 0) [] ∷ schema_of (pos 1) (column (pos 2) timestamp (bytes "t") ∷ column (pos 1) long (bytes "a") ∷ []) ∷ [];
      orders = order_of (pos 0) [] ∷ order_of (pos 1) (sort_by (pos 2) 1 1 ∷ sort_by (pos 1) 0 0 ∷ []) ∷ [];
      statistics = statistics_file (pos 3) (bytes "q") (pos 32) ∷ statistics_file (pos 5) (bytes "p") (pos 31) ∷ [];
      partition_statistics = statistics_file (pos 3) (bytes "s") (pos 34) ∷ statistics_file (pos 5) (bytes "r") (pos 33) ∷ [];
      specs = spec_of (pos 0) [] ∷ spec_of (pos 1) (part (pos 2) (pos 1001) year (pos 0) (bytes "y") ∷ part (pos 1) (pos 1000) bucket (pos 16) (bytes "b") ∷ []) ∷ [];
    }

abbrev pub held2 : Metadata
held2 = with_fields (with_version 2 (record { 0 = 0 }) held_fields) (with_snapshots (held_snapshots (pos 11) (pos 12) none) held3)

abbrev pub held1 : Metadata
held1 =
    with_fields (with_last_sequence (record { 0 = pos 0 }) (record { 0 = 0 }) (with_version 1 (record { 0 = 0 }) held_fields))
    (with_snapshots (held_snapshots (pos 0) (pos 0) none) held3)

-- ---- what is written of them

-- of what the least metadata is: a member each, in the public document's order
abbrev pub shown2 : List Piece
shown2 =
    piece "format-version" "2"
    ∷ piece "table-uuid" "'01234567-89ab-cdef-1032-547698badcfe'"
    ∷ piece "location" "'a'"
    ∷ piece "last-sequence-number" "5"
    ∷ piece "last-updated-ms" "6"
    ∷ piece "last-column-id" "7"
    ∷ piece "schemas" "[{'type':'struct','fields':[],'schema-id':0}]"
    ∷ piece "current-schema-id" "0"
    ∷ piece "partition-specs" "[{'spec-id':0,'fields':[]}]"
    ∷ piece "default-spec-id" "0"
    ∷ piece "last-partition-id" "1001"
    ∷ piece "snapshots" "[]"
    ∷ piece "snapshot-log" "[]"
    ∷ piece "metadata-log" "[]"
    ∷ piece "sort-orders" "[{'order-id':0,'fields':[]}]"
    ∷ piece "default-sort-order-id" "0"
    ∷ piece "refs" "{}"
    ∷ piece "statistics" "[]"
    ∷ piece "partition-statistics" "[]"
    ∷ []

abbrev pub shown3 : List Piece
shown3 = plus "next-row-id" "8" (put "format-version" "3" shown2)

abbrev pub shown1 : List Piece
shown1 =
    piece "format-version" "1"
    ∷ piece "table-uuid" "'00000000-0000-0000-0000-000000000000'"
    ∷ piece "location" "'a'"
    ∷ piece "last-updated-ms" "6"
    ∷ piece "last-column-id" "7"
    ∷ piece "schema" "{'type':'struct','fields':[],'schema-id':0}"
    ∷ piece "schemas" "[{'type':'struct','fields':[],'schema-id':0}]"
    ∷ piece "current-schema-id" "0"
    ∷ piece "partition-spec" "[]"
    ∷ piece "partition-specs" "[{'spec-id':0,'fields':[]}]"
    ∷ piece "default-spec-id" "0"
    ∷ piece "last-partition-id" "999"
    ∷ piece "snapshots" "[]"
    ∷ piece "snapshot-log" "[]"
    ∷ piece "metadata-log" "[]"
    ∷ piece "sort-orders" "[{'order-id':0,'fields':[]}]"
    ∷ piece "default-sort-order-id" "0"
    ∷ piece "refs" "{}"
    ∷ piece "statistics" "[]"
    ∷ piece "partition-statistics" "[]"
    ∷ []

-- of all that is held: tables in order
abbrev pub written_schemas : String
written_schemas = "[{'type':'struct','fields':[],'schema-id':0},{'type':'struct','fields':[{'id':2,'name':'t','required':false,'type':'timestamp'},{'id':1,'name':'a','required':false,'type':'long'}],'schema-id':1}]"

abbrev pub written_specs : String
written_specs = "[{'spec-id':0,'fields':[]},{'spec-id':1,'fields':[{'source-id':2,'field-id':1001,'name':'y','transform':'year'},{'source-id':1,'field-id':1000,'name':'b','transform':'bucket[16]'}]}]"

abbrev pub written3 : List Piece
written3 =
    piece "format-version" "3"
    ∷ piece "table-uuid" "'01234567-89ab-cdef-1032-547698badcfe'"
    ∷ piece "location" "'s3://a'"
    ∷ piece "last-sequence-number" "3000000001"
    ∷ piece "last-updated-ms" "-3000000002"
    ∷ piece "last-column-id" "9"
    ∷ piece "schemas" written_schemas
    ∷ piece "current-schema-id" "1"
    ∷ piece "partition-specs" written_specs
    ∷ piece "default-spec-id" "1"
    ∷ piece "last-partition-id" "1005"
    ∷ piece "current-snapshot-id" "5"
    ∷ piece "snapshots" "[{'snapshot-id':3,'sequence-number':11,'timestamp-ms':10},{'snapshot-id':5,'parent-snapshot-id':3,'sequence-number':12,'timestamp-ms':20,'first-row-id':7,'added-rows':8}]"
    ∷ piece "snapshot-log" "[{'snapshot-id':5,'timestamp-ms':20},{'snapshot-id':3,'timestamp-ms':10}]"
    ∷ piece "metadata-log" "[{'metadata-file':'m2','timestamp-ms':19},{'metadata-file':'m1','timestamp-ms':9}]"
    ∷ piece "sort-orders" "[{'order-id':0,'fields':[]},{'order-id':1,'fields':[{'transform':'identity','source-id':2,'direction':'desc','null-order':'nulls-last'},{'transform':'identity','source-id':1,'direction':'asc','null-order':'nulls-first'}]}]"
    ∷ piece "default-sort-order-id" "1"
    ∷ piece "refs" "{'b':{'snapshot-id':3,'type':'tag'},'main':{'snapshot-id':5,'type':'branch','min-snapshots-to-keep':1,'max-snapshot-age-ms':2,'max-ref-age-ms':3}}"
    ∷ piece "statistics" "[{'snapshot-id':3,'statistics-path':'q','file-size-in-bytes':32},{'snapshot-id':5,'statistics-path':'p','file-size-in-bytes':31}]"
    ∷ piece "partition-statistics" "[{'snapshot-id':3,'statistics-path':'s','file-size-in-bytes':34},{'snapshot-id':5,'statistics-path':'r','file-size-in-bytes':33}]"
    ∷ piece "next-row-id" "18446744073709551615"
    ∷ []

abbrev pub written2 : List Piece
written2 =
    less "next-row-id" (put "format-version" "2"
    (put "snapshots" "[{'snapshot-id':3,'sequence-number':11,'timestamp-ms':10},{'snapshot-id':5,'parent-snapshot-id':3,'sequence-number':12,'timestamp-ms':20}]" written3))

-- the single schema and the single spec stand in front of their tables
abbrev pub ahead : String → String → String → List Piece → List Piece
ahead before name value [] = []
ahead before name value (p ∷ ps) = cond (same_bytes p.name (bytes before)) (piece name value ∷ p ∷ ps) (p ∷ ahead before name value ps)

abbrev pub written1 : List Piece
written1 =
    less "last-sequence-number" (put "format-version" "1"
    (put "snapshots" "[{'snapshot-id':3,'timestamp-ms':10},{'snapshot-id':5,'parent-snapshot-id':3,'timestamp-ms':20}]"
    (ahead "schemas" "schema" "{'type':'struct','fields':[{'id':2,'name':'t','required':false,'type':'timestamp'},{'id':1,'name':'a','required':false,'type':'long'}],'schema-id':1}"
    (ahead "partition-specs" "partition-spec" "[{'source-id':2,'field-id':1001,'name':'y','transform':'year'},{'source-id':1,'field-id':1000,'name':'b','transform':'bucket[16]'}]" written2))))

-- the least metadata of version 2 with another location, or another last update
abbrev pub located : List ℕ → Metadata
located location = with_fields (with_location location fields2) said2

abbrev pub updated : ℤ → Metadata
updated time = with_fields (with_last_updated time fields2) said2

-- characters of one to four bytes, and a letter between
abbrev pub every_length : List ℕ
every_length =
    126 ∷ 194 ∷ 128 ∷ 223 ∷ 191 ∷ 97 ∷ 224 ∷ 160 ∷ 128 ∷ 225 ∷ 128 ∷ 191 ∷ 237 ∷ 159 ∷ 191 ∷ 239 ∷ 191 ∷ 191 ∷ 98 ∷ 240 ∷ 144 ∷ 128 ∷ 128 ∷ 241 ∷ 191 ∷ 191 ∷ 191 ∷ 244 ∷ 143 ∷ 191 ∷ 191 ∷ 99 ∷ []

-- ---- the examples

pub record Example : Type 0 where
  pub asked : Question
  pub reply : Answer

-- what the rule answers
abbrev pub answer_to : Question → Answer
answer_to (Read text) = WasRead (imported text)
answer_to (Write m room) = WasWritten (exported m room)

abbrev pub ◌gives◌ : Asked → (ℕ → Answer) → Example
a gives answer = record { asked = a.question; reply = answer a.place }

infix 20 ◌gives◌
abbrev pub examples : List Example
examples =
    -- What a file is.
    -- no object: 28 at the first byte of the outermost value; no text is 27
    (file (json "^") gives refusal 27)
    ∷ (file (json " ^[]") gives refusal 28)
    ∷ (file (json "^12") gives refusal 28)
    ∷ (file (json "^null") gives refusal 28)
    ∷ (file (json "^'{}'") gives refusal 28)
    -- cut off: 27 at the length, and nothing is missing; what stands behind the file is 27
    ∷ (file (json "{^") gives refusal 27)
    ∷ (opens "2" "'location'^" gives refusal 27)
    ∷ (opens "2" "'location':'a'^" gives refusal 27)
    ∷ (opens "2" "'snapshots':[{'snapshot-id':1^" gives refusal 27)
    ∷ (file (file_of least1 ++ json "^x") gives refusal 27)
    -- any order: of members, with any spacing
    ∷ (whole (turned least2) gives says said2)
    ∷ (file ((10 ∷ []) ++ json " { 'partition-spec' : [ ] , 'schema' : { 'fields' : [ ] , 'type' : 'struct' } , 'last-column-id' : 7," ++ (13 ∷ 9 ∷ []) ++ json "'last-updated-ms' : 6 , 'location' : 'a' , 'format-version' : 1 } ") gives says said1)
    -- names decoded: they are compared after decoding
    ∷ (whole (less "location" (plus "\\u006cocation" "'\\u0061'" least1)) gives says said1)
    -- Versions.
    -- required alone: the least file of each version, and what is absent from it
    ∷ (whole least1 gives says said1)
    ∷ (whole least2 gives says said2)
    ∷ (whole least3 gives says said3)
    -- everything: all that is held, of each version; tables come out in order, logs and fields as they stand
    ∷ (whole all1 gives says held1)
    ∷ (whole all2 gives says held2)
    ∷ (whole all3 gives says held3)
    -- version: 1 to 3, and 28 at its value where it is not
    ∷ (file (json "{'format-version':^0,") gives refusal 28)
    ∷ (file (json "{'format-version':^4,") gives refusal 28)
    ∷ (file (json "{'format-version':^-1,") gives refusal 28)
    ∷ (file (json "{'format-version':^'2'") gives refusal 28)
    ∷ (file (json "{'format-version':^2.0,") gives refusal 28)
    ∷ (file (json "{'format-version':^null") gives refusal 28)
    ∷ (file (json "{'format-version':^[2]") gives refusal 28)
    ∷ (file (json "{'format-version':^{") gives refusal 28)
    -- first version: it decides, wherever it stands
    ∷ (opens "1" "'schema':^5,'format-version':2" gives refusal 28)
    ∷ (opens "2" "'schema':5,^'format-version':1" gives refusal 28)
    ∷ (file (json "{'next-row-id':^'x','format-version':3,") gives refusal 28)
    ∷ (file (json "{'next-row-id':'x','format-version':2,^") gives refusal 27)
    -- another version: what not every version publishes is passed over, and required is what every version requires
    ∷ (file (json "{'next-row-id':'x','last-sequence-number':'x','schema':5,'partition-spec':5,'format-version':^4,") gives refusal 28)
    ∷ (file (json "{'schema':5,'format-version':^'1'") gives refusal 28)
    ∷ (file (json "{'snapshots':[{'snapshot-id':1,'timestamp-ms':2,'sequence-number':'x','first-row-id':'x'}],'format-version':^4,") gives refusal 28)
    ∷ (file (json "{'table-uuid':^5,'format-version':4,") gives refusal 28)
    ∷ (file (json "{'snapshots':[{'snapshot-id':1,'timestamp-ms':2,^'other':1}],'format-version':4,") gives refusal 28)
    ∷ (file (json "{'schemas':[{'fields':[],'type':'struct'}],'format-version':^4,") gives refusal 28)
    ∷ (file (json "{'schemas':[^{'fields':[{'type':'int'") gives refusal 28)
    ∷ (file (json "{'format-version':^4,'location':'','last-updated-ms':0,'last-column-id':0}") gives refusal 28)
    ∷ (file (json "^{'format-version':4,'location':'','last-updated-ms':0}") gives refusal 30)
    -- no version: the same, and it is missing
    ∷ (lacks "format-version" least1 gives refusal 30)
    ∷ (lacks "format-version" least2 gives refusal 30)
    ∷ (lacks "format-version" least3 gives refusal 30)
    ∷ (file (json "{'next-row-id':'x'^") gives refusal 27)
    -- What is missing: 30 at the object that lacks it, once it is closed.
    -- missing from version 1: each member that it requires
    ∷ (lacks "location" least1 gives refusal 30)
    ∷ (lacks "last-updated-ms" least1 gives refusal 30)
    ∷ (lacks "last-column-id" least1 gives refusal 30)
    ∷ (lacks "schema" least1 gives refusal 30)
    ∷ (lacks "partition-spec" least1 gives refusal 30)
    -- missing from version 2: likewise
    ∷ (lacks "table-uuid" least2 gives refusal 30)
    ∷ (lacks "location" least2 gives refusal 30)
    ∷ (lacks "last-sequence-number" least2 gives refusal 30)
    ∷ (lacks "last-updated-ms" least2 gives refusal 30)
    ∷ (lacks "last-column-id" least2 gives refusal 30)
    ∷ (lacks "schemas" least2 gives refusal 30)
    ∷ (lacks "current-schema-id" least2 gives refusal 30)
    ∷ (lacks "partition-specs" least2 gives refusal 30)
    ∷ (lacks "default-spec-id" least2 gives refusal 30)
    ∷ (lacks "last-partition-id" least2 gives refusal 30)
    ∷ (lacks "sort-orders" least2 gives refusal 30)
    ∷ (lacks "default-sort-order-id" least2 gives refusal 30)
    -- missing from version 3: likewise
    ∷ (lacks "table-uuid" least3 gives refusal 30)
    ∷ (lacks "location" least3 gives refusal 30)
    ∷ (lacks "last-sequence-number" least3 gives refusal 30)
    ∷ (lacks "last-updated-ms" least3 gives refusal 30)
    ∷ (lacks "last-column-id" least3 gives refusal 30)
    ∷ (lacks "schemas" least3 gives refusal 30)
    ∷ (lacks "current-schema-id" least3 gives refusal 30)
    ∷ (lacks "partition-specs" least3 gives refusal 30)
    ∷ (lacks "default-spec-id" least3 gives refusal 30)
    ∷ (lacks "last-partition-id" least3 gives refusal 30)
    ∷ (lacks "sort-orders" least3 gives refusal 30)
    ∷ (lacks "default-sort-order-id" least3 gives refusal 30)
    ∷ (lacks "next-row-id" least3 gives refusal 30)
    -- missing from a snapshot: a sequence number from version 2 on
    ∷ (opens "1" "'snapshots':[^{'timestamp-ms':2}" gives refusal 30)
    ∷ (opens "1" "'snapshots':[^{'snapshot-id':1}" gives refusal 30)
    ∷ (opens "1" "'snapshots':[{'snapshot-id':1,'timestamp-ms':2}^" gives refusal 27)
    ∷ (opens "2" "'snapshots':[^{'sequence-number':1,'timestamp-ms':2}" gives refusal 30)
    ∷ (opens "2" "'snapshots':[^{'snapshot-id':1,'sequence-number':1}" gives refusal 30)
    ∷ (opens "2" "'snapshots':[^{'snapshot-id':1,'timestamp-ms':2}" gives refusal 30)
    ∷ (opens "3" "'snapshots':[^{'sequence-number':1,'timestamp-ms':2}" gives refusal 30)
    ∷ (opens "3" "'snapshots':[^{'snapshot-id':1,'sequence-number':1}" gives refusal 30)
    ∷ (opens "3" "'snapshots':[^{'snapshot-id':1,'timestamp-ms':2}" gives refusal 30)
    -- half a row range: missing its other half, in version 3
    ∷ (opens "3" "'snapshots':[^{'snapshot-id':1,'sequence-number':1,'timestamp-ms':2,'first-row-id':3}" gives refusal 30)
    ∷ (opens "3" "'snapshots':[^{'snapshot-id':1,'sequence-number':1,'timestamp-ms':2,'added-rows':3}" gives refusal 30)
    ∷ (opens "3" "'snapshots':[{'snapshot-id':1,'sequence-number':1,'timestamp-ms':2,'added-rows':3^" gives refusal 27)
    ∷ (file (json "{'snapshots':[{'snapshot-id':1,'timestamp-ms':2,'first-row-id':3}^") gives refusal 27)
    -- missing from a schema: its id from version 2 on; from a field each member
    ∷ (opens "1" "'schemas':[{'type':'struct','fields':[]}^" gives refusal 27)
    ∷ (opens "1" "'schema':^{'fields':[]}" gives refusal 30)
    ∷ (opens "2" "'schemas':[^{'type':'struct','fields':[]}" gives refusal 30)
    ∷ (opens "1" "'schemas':[^{'type':'struct','schema-id':1}" gives refusal 30)
    ∷ (opens "2" "'schemas':[^{'type':'struct','schema-id':1}" gives refusal 30)
    ∷ (opens "3" "'schemas':[^{'type':'struct','schema-id':1}" gives refusal 30)
    ∷ (opens "1" "'schemas':[^{'fields':[],'schema-id':1}" gives refusal 30)
    ∷ (opens "2" "'schemas':[^{'fields':[],'schema-id':1}" gives refusal 30)
    ∷ (opens "3" "'schemas':[^{'fields':[],'schema-id':1}" gives refusal 30)
    ∷ (opens "3" "'schemas':[^{'type':'struct','fields':[]}" gives refusal 30)
    ∷ (opens "1" "'schemas':[{'fields':[^{'name':'a','required':false,'type':'long'}" gives refusal 30)
    ∷ (opens "2" "'schemas':[{'fields':[^{'name':'a','required':false,'type':'long'}" gives refusal 30)
    ∷ (opens "3" "'schemas':[{'fields':[^{'name':'a','required':false,'type':'long'}" gives refusal 30)
    ∷ (opens "1" "'schemas':[{'fields':[^{'id':1,'required':false,'type':'long'}" gives refusal 30)
    ∷ (opens "2" "'schemas':[{'fields':[^{'id':1,'required':false,'type':'long'}" gives refusal 30)
    ∷ (opens "3" "'schemas':[{'fields':[^{'id':1,'required':false,'type':'long'}" gives refusal 30)
    ∷ (opens "1" "'schemas':[{'fields':[^{'id':1,'name':'a','type':'long'}" gives refusal 30)
    ∷ (opens "2" "'schemas':[{'fields':[^{'id':1,'name':'a','type':'long'}" gives refusal 30)
    ∷ (opens "3" "'schemas':[{'fields':[^{'id':1,'name':'a','type':'long'}" gives refusal 30)
    ∷ (opens "1" "'schemas':[{'fields':[^{'id':1,'name':'a','required':false}" gives refusal 30)
    ∷ (opens "2" "'schemas':[{'fields':[^{'id':1,'name':'a','required':false}" gives refusal 30)
    ∷ (opens "3" "'schemas':[{'fields':[^{'id':1,'name':'a','required':false}" gives refusal 30)
    -- missing from a spec: its id in all versions; from a partition field its id from version 2 on
    ∷ (opens "1" "'partition-specs':[^{'fields':[]}" gives refusal 30)
    ∷ (opens "2" "'partition-specs':[^{'fields':[]}" gives refusal 30)
    ∷ (opens "3" "'partition-specs':[^{'fields':[]}" gives refusal 30)
    ∷ (opens "1" "'partition-specs':[^{'spec-id':0}" gives refusal 30)
    ∷ (opens "2" "'partition-specs':[^{'spec-id':0}" gives refusal 30)
    ∷ (opens "3" "'partition-specs':[^{'spec-id':0}" gives refusal 30)
    ∷ (opens "1" "'partition-spec':[{'source-id':1,'name':'a','transform':'day'}^" gives refusal 27)
    ∷ (opens "2" "'partition-specs':[{'fields':[^{'source-id':1,'name':'a','transform':'day'}" gives refusal 30)
    ∷ (opens "3" "'partition-specs':[{'fields':[^{'source-id':1,'name':'a','transform':'day'}" gives refusal 30)
    ∷ (opens "1" "'partition-specs':[{'fields':[^{'field-id':1000,'name':'a','transform':'day'}" gives refusal 30)
    ∷ (opens "2" "'partition-specs':[{'fields':[^{'field-id':1000,'name':'a','transform':'day'}" gives refusal 30)
    ∷ (opens "3" "'partition-specs':[{'fields':[^{'field-id':1000,'name':'a','transform':'day'}" gives refusal 30)
    ∷ (opens "1" "'partition-specs':[{'fields':[^{'source-id':1,'field-id':1000,'transform':'day'}" gives refusal 30)
    ∷ (opens "2" "'partition-specs':[{'fields':[^{'source-id':1,'field-id':1000,'transform':'day'}" gives refusal 30)
    ∷ (opens "3" "'partition-specs':[{'fields':[^{'source-id':1,'field-id':1000,'transform':'day'}" gives refusal 30)
    ∷ (opens "1" "'partition-specs':[{'fields':[^{'source-id':1,'field-id':1000,'name':'a'}" gives refusal 30)
    ∷ (opens "2" "'partition-specs':[{'fields':[^{'source-id':1,'field-id':1000,'name':'a'}" gives refusal 30)
    ∷ (opens "3" "'partition-specs':[{'fields':[^{'source-id':1,'field-id':1000,'name':'a'}" gives refusal 30)
    -- missing from an order: and from a sort field
    ∷ (opens "1" "'sort-orders':[^{'fields':[]}" gives refusal 30)
    ∷ (opens "2" "'sort-orders':[^{'fields':[]}" gives refusal 30)
    ∷ (opens "3" "'sort-orders':[^{'fields':[]}" gives refusal 30)
    ∷ (opens "1" "'sort-orders':[^{'order-id':1}" gives refusal 30)
    ∷ (opens "2" "'sort-orders':[^{'order-id':1}" gives refusal 30)
    ∷ (opens "3" "'sort-orders':[^{'order-id':1}" gives refusal 30)
    ∷ (opens "1" "'sort-orders':[{'fields':[^{'source-id':1,'direction':'asc','null-order':'nulls-last'}" gives refusal 30)
    ∷ (opens "2" "'sort-orders':[{'fields':[^{'source-id':1,'direction':'asc','null-order':'nulls-last'}" gives refusal 30)
    ∷ (opens "3" "'sort-orders':[{'fields':[^{'source-id':1,'direction':'asc','null-order':'nulls-last'}" gives refusal 30)
    ∷ (opens "1" "'sort-orders':[{'fields':[^{'transform':'identity','direction':'asc','null-order':'nulls-last'}" gives refusal 30)
    ∷ (opens "2" "'sort-orders':[{'fields':[^{'transform':'identity','direction':'asc','null-order':'nulls-last'}" gives refusal 30)
    ∷ (opens "3" "'sort-orders':[{'fields':[^{'transform':'identity','direction':'asc','null-order':'nulls-last'}" gives refusal 30)
    ∷ (opens "1" "'sort-orders':[{'fields':[^{'transform':'identity','source-id':1,'null-order':'nulls-last'}" gives refusal 30)
    ∷ (opens "2" "'sort-orders':[{'fields':[^{'transform':'identity','source-id':1,'null-order':'nulls-last'}" gives refusal 30)
    ∷ (opens "3" "'sort-orders':[{'fields':[^{'transform':'identity','source-id':1,'null-order':'nulls-last'}" gives refusal 30)
    ∷ (opens "1" "'sort-orders':[{'fields':[^{'transform':'identity','source-id':1,'direction':'asc'}" gives refusal 30)
    ∷ (opens "2" "'sort-orders':[{'fields':[^{'transform':'identity','source-id':1,'direction':'asc'}" gives refusal 30)
    ∷ (opens "3" "'sort-orders':[{'fields':[^{'transform':'identity','source-id':1,'direction':'asc'}" gives refusal 30)
    -- missing from a ref: its snapshot and its kind
    ∷ (opens "1" "'refs':{'a':^{'type':'tag'}" gives refusal 30)
    ∷ (opens "2" "'refs':{'a':^{'type':'tag'}" gives refusal 30)
    ∷ (opens "3" "'refs':{'a':^{'type':'tag'}" gives refusal 30)
    ∷ (opens "1" "'refs':{'a':^{'snapshot-id':1}" gives refusal 30)
    ∷ (opens "2" "'refs':{'a':^{'snapshot-id':1}" gives refusal 30)
    ∷ (opens "3" "'refs':{'a':^{'snapshot-id':1}" gives refusal 30)
    -- missing from a log entry: of either log, each of the two
    ∷ (opens "1" "'snapshot-log':[^{'timestamp-ms':1}" gives refusal 30)
    ∷ (opens "2" "'snapshot-log':[^{'timestamp-ms':1}" gives refusal 30)
    ∷ (opens "3" "'snapshot-log':[^{'timestamp-ms':1}" gives refusal 30)
    ∷ (opens "1" "'snapshot-log':[^{'snapshot-id':1}" gives refusal 30)
    ∷ (opens "2" "'snapshot-log':[^{'snapshot-id':1}" gives refusal 30)
    ∷ (opens "3" "'snapshot-log':[^{'snapshot-id':1}" gives refusal 30)
    ∷ (opens "1" "'metadata-log':[^{'timestamp-ms':1}" gives refusal 30)
    ∷ (opens "2" "'metadata-log':[^{'timestamp-ms':1}" gives refusal 30)
    ∷ (opens "3" "'metadata-log':[^{'timestamp-ms':1}" gives refusal 30)
    ∷ (opens "1" "'metadata-log':[^{'metadata-file':'a'}" gives refusal 30)
    ∷ (opens "2" "'metadata-log':[^{'metadata-file':'a'}" gives refusal 30)
    ∷ (opens "3" "'metadata-log':[^{'metadata-file':'a'}" gives refusal 30)
    -- missing from statistics: each of the three, in both tables
    ∷ (opens "1" "'statistics':[^{'statistics-path':'a','file-size-in-bytes':1}" gives refusal 30)
    ∷ (opens "2" "'statistics':[^{'statistics-path':'a','file-size-in-bytes':1}" gives refusal 30)
    ∷ (opens "3" "'statistics':[^{'statistics-path':'a','file-size-in-bytes':1}" gives refusal 30)
    ∷ (opens "1" "'statistics':[^{'snapshot-id':1,'file-size-in-bytes':1}" gives refusal 30)
    ∷ (opens "2" "'statistics':[^{'snapshot-id':1,'file-size-in-bytes':1}" gives refusal 30)
    ∷ (opens "3" "'statistics':[^{'snapshot-id':1,'file-size-in-bytes':1}" gives refusal 30)
    ∷ (opens "1" "'statistics':[^{'snapshot-id':1,'statistics-path':'a'}" gives refusal 30)
    ∷ (opens "2" "'statistics':[^{'snapshot-id':1,'statistics-path':'a'}" gives refusal 30)
    ∷ (opens "3" "'statistics':[^{'snapshot-id':1,'statistics-path':'a'}" gives refusal 30)
    ∷ (opens "1" "'partition-statistics':[^{'statistics-path':'a','file-size-in-bytes':1}" gives refusal 30)
    ∷ (opens "2" "'partition-statistics':[^{'statistics-path':'a','file-size-in-bytes':1}" gives refusal 30)
    ∷ (opens "3" "'partition-statistics':[^{'statistics-path':'a','file-size-in-bytes':1}" gives refusal 30)
    ∷ (opens "1" "'partition-statistics':[^{'snapshot-id':1,'file-size-in-bytes':1}" gives refusal 30)
    ∷ (opens "2" "'partition-statistics':[^{'snapshot-id':1,'file-size-in-bytes':1}" gives refusal 30)
    ∷ (opens "3" "'partition-statistics':[^{'snapshot-id':1,'file-size-in-bytes':1}" gives refusal 30)
    ∷ (opens "1" "'partition-statistics':[^{'snapshot-id':1,'statistics-path':'a'}" gives refusal 30)
    ∷ (opens "2" "'partition-statistics':[^{'snapshot-id':1,'statistics-path':'a'}" gives refusal 30)
    ∷ (opens "3" "'partition-statistics':[^{'snapshot-id':1,'statistics-path':'a'}" gives refusal 30)
    -- What is absent, and stands for what.
    -- no id of a partition field: in version 1 it is 1000 and the position in its list, of the single spec and of each of the others
    ∷ (whole (put "partition-spec" "[{'source-id':1,'name':'a','transform':'identity'},{'source-id':2,'field-id':2000,'name':'b','transform':'month'},{'source-id':3,'name':'c','transform':'day'}]" least1)
    gives says (with_fields (with_last_partition (pos 2000) fields1) (with_specs (spec_of (pos 0) (part (pos 1) (pos 1000) identity (pos 0) (bytes "a") ∷ part (pos 2) (pos 2000) month (pos 0) (bytes "b") ∷ part (pos 3) (pos 1002) day (pos 0) (bytes "c") ∷ []) ∷ []) said1)))
    ∷ (whole (plus "default-spec-id" "3" (plus "partition-specs" "[{'spec-id':3,'fields':[{'source-id':1,'name':'a','transform':'year'}]},{'spec-id':2,'fields':[{'source-id':1,'name':'b','transform':'year'},{'source-id':2,'name':'c','transform':'year'}]},{'spec-id':1,'fields':[]}]" least1))
    gives says (with_fields (with_last_partition (pos 1001) (with_default_spec (pos 3) fields1)) (with_specs (spec_of (pos 1) [] ∷ spec_of (pos 2) (part (pos 1) (pos 1000) year (pos 0) (bytes "b") ∷ part (pos 2) (pos 1001) year (pos 0) (bytes "c") ∷ []) ∷ spec_of (pos 3) (part (pos 1) (pos 1000) year (pos 0) (bytes "a") ∷ []) ∷ []) said1)))
    -- no last partition id: in version 1 it is the largest field id of all specs, at least 999
    ∷ (whole (put "partition-spec" "[{'source-id':1,'field-id':5,'name':'a','transform':'day'},{'source-id':2,'field-id':4,'name':'b','transform':'day'}]" least1)
    gives says (with_specs (spec_of (pos 0) (part (pos 1) (pos 5) day (pos 0) (bytes "a") ∷ part (pos 2) (pos 4) day (pos 0) (bytes "b") ∷ []) ∷ []) said1))
    ∷ (whole (plus "last-partition-id" "3" least1) gives says (with_fields (with_last_partition (pos 3) fields1) said1))
    -- single schema: in version 1 it decides, unless the table and the id of the current one are both there
    ∷ (whole (put "schema" "{'type':'struct','schema-id':4,'fields':[{'id':1,'name':'a','required':false,'type':'long'}]}" least1)
    gives says (with_fields (with_current_schema (pos 4) fields1) (with_schemas (schema_of (pos 4) (column (pos 1) long (bytes "a") ∷ []) ∷ []) said1)))
    ∷ (whole (plus "schemas" "[{'type':'struct','schema-id':4,'fields':[]}]" least1) gives says said1)
    ∷ (whole (plus "current-schema-id" "4" least1) gives says said1)
    ∷ (whole (plus "current-schema-id" "4" (plus "schemas" "[{'type':'struct','schema-id':4,'fields':[]}]" least1))
    gives says (with_fields (with_current_schema (pos 4) fields1) (with_schemas (schema_of (pos 4) [] ∷ []) said1)))
    -- single schema checked: also where it does not decide
    ∷ (opens "1" "'schemas':[],'current-schema-id':0,'schema':^5" gives refusal 28)
    ∷ (opens "1" "'schemas':[],'current-schema-id':0,'schema':{'type':^'list'" gives refusal 28)
    -- single spec: likewise, and it is spec 0
    ∷ (whole (plus "partition-specs" "[{'spec-id':4,'fields':[]}]" least1) gives says said1)
    ∷ (whole (plus "default-spec-id" "4" least1) gives says said1)
    ∷ (whole (plus "default-spec-id" "4" (plus "partition-specs" "[{'spec-id':4,'fields':[]}]" least1))
    gives says (with_fields (with_default_spec (pos 4) fields1) (with_specs (spec_of (pos 4) [] ∷ []) said1)))
    ∷ (opens "1" "'partition-specs':[],'default-spec-id':0,'partition-spec':^{" gives refusal 28)
    ∷ (opens "1" "'partition-specs':[],'default-spec-id':0,'partition-spec':[{'source-id':^'x'" gives refusal 28)
    -- no orders: order 0 without fields, in version 1; a list without any is not that
    ∷ (whole (plus "default-sort-order-id" "0" least1) gives says said1)
    ∷ (whole (plus "sort-orders" "[]" least1) gives not_formed)
    ∷ (whole (plus "default-sort-order-id" "2" (plus "sort-orders" "[{'order-id':2,'fields':[{'transform':'identity','source-id':1,'direction':'asc','null-order':'nulls-last'}]}]" least1))
    gives says (with_fields (with_default_order (pos 2) fields1) (with_orders (order_of (pos 2) (sort_by (pos 1) 0 1 ∷ []) ∷ []) said1)))
    -- no current snapshot: `null` and -1 are none, and no other number is
    ∷ (whole (plus "current-snapshot-id" "null" least1) gives says said1)
    ∷ (whole (plus "current-snapshot-id" "-1" least1) gives says said1)
    ∷ (whole (plus "current-snapshot-id" "-2" least1) gives not_formed)
    ∷ (opens "2" "'current-snapshot-id':^'5'" gives refusal 28)
    ∷ (opens "2" "'current-snapshot-id':^true" gives refusal 28)
    ∷ (opens "2" "'current-snapshot-id':^[" gives refusal 28)
    ∷ (opens "2" "'current-snapshot-id':^{" gives refusal 28)
    -- no refs: `main`, a plain branch, at the current snapshot; none where `refs` is there and empty, and so current and `main` disagree
    ∷ (whole (plus "current-snapshot-id" "5" (plus "snapshots" "[{'snapshot-id':5,'timestamp-ms':2}]" least1))
    gives says (with_fields (with_current (some (pos 5)) fields1) (with_refs (ref_to (bytes "main") branch (pos 5) ∷ []) (with_snapshots (snapshot_of (pos 5) (pos 0) ∷ []) said1))))
    ∷ (whole (plus "refs" "{}" (plus "current-snapshot-id" "5" (plus "snapshots" "[{'snapshot-id':5,'timestamp-ms':2}]" least1))) gives not_formed)
    ∷ (whole (plus "snapshots" "[{'snapshot-id':5,'timestamp-ms':2}]" least1) gives says (with_snapshots (snapshot_of (pos 5) (pos 0) ∷ []) said1))
    -- office 1: every ref is given to it
    ∷ (whole (plus "refs" "{'b':{'snapshot-id':5,'type':'tag'},'a':{'snapshot-id':5,'type':'branch'}}" (plus "snapshots" "[{'snapshot-id':5,'timestamp-ms':2}]" least1))
    gives says (with_refs (ref_to (bytes "a") branch (pos 5) ∷ ref_to (bytes "b") tag (pos 5) ∷ []) (with_snapshots (snapshot_of (pos 5) (pos 0) ∷ []) said1)))
    -- What is skipped: members of the outermost object that are not held, and their count.
    -- skipped: any JSON, each time it stands there, and a name that has no UTF-8
    ∷ (whole (plus "properties" "{'a':'b','a':[1.5,null]}" least1) gives skips 1 said1)
    ∷ (whole (plus "\\ud800" "1" (plus "properties" "{}" (plus "encryption-keys" "[]" (plus "properties" "5" least1)))) gives skips 4 said1)
    ∷ (opens "2" "'properties':{'a':[^x" gives refusal 27)
    -- of another version: skipped too, in the outermost object, and its value is any JSON
    ∷ (whole (plus "last-sequence-number" "5" (plus "next-row-id" "'x'" least1)) gives skips 2 said1)
    ∷ (whole (plus "next-row-id" "9" (plus "schema" "[]" (plus "partition-spec" "5" least2))) gives skips 3 said2)
    ∷ (whole (plus "schema" "{'type':'struct','fields':[]}" (plus "partition-spec" "[]" least3)) gives skips 2 said3)
    -- of another version in a snapshot: unknown
    ∷ (opens "1" "'snapshots':[{^'sequence-number':1" gives refusal 28)
    ∷ (opens "1" "'snapshots':[{^'first-row-id':1" gives refusal 28)
    ∷ (opens "1" "'snapshots':[{^'added-rows':1" gives refusal 28)
    ∷ (opens "2" "'snapshots':[{^'first-row-id':1" gives refusal 28)
    ∷ (opens "2" "'snapshots':[{^'added-rows':1" gives refusal 28)
    -- unknown: 28 in any object but the outermost, also where it is published
    ∷ (opens "3" "'snapshots':[{^'key-id':1" gives refusal 28)
    ∷ (opens "2" "'schemas':[{^'identifier-field-ids':[]" gives refusal 28)
    ∷ (opens "2" "'schemas':[{'fields':[{^'doc':''" gives refusal 28)
    ∷ (opens "2" "'partition-specs':[{^'other':1" gives refusal 28)
    ∷ (opens "2" "'partition-specs':[{'fields':[{^'source-ids':[]" gives refusal 28)
    ∷ (opens "2" "'sort-orders':[{^'other':1" gives refusal 28)
    ∷ (opens "2" "'sort-orders':[{'fields':[{^'source-ids':[]" gives refusal 28)
    ∷ (opens "2" "'refs':{'a':{^'owner':1" gives refusal 28)
    ∷ (opens "2" "'snapshot-log':[{^'other':1" gives refusal 28)
    ∷ (opens "2" "'metadata-log':[{^'other':1" gives refusal 28)
    ∷ (opens "2" "'statistics':[{^'key-metadata':1" gives refusal 28)
    ∷ (opens "2" "'partition-statistics':[{^'blob-metadata':[]" gives refusal 28)
    ∷ (opens "2" "'partition-statistics':[{^'file-footer-size-in-bytes':1" gives refusal 28)
    ∷ (opens "2" "'snapshots':[{^'\\ud800':1" gives refusal 28)
    ∷ (opens "2" "'snapshots':[{^'other'" gives refusal 28)
    -- passed over: any JSON, in which names may repeat
    ∷ (opens "3" "'snapshots':[{'manifest-list':[1],'summary':'x','schema-id':{'a':1,'a':[null]}^" gives refusal 27)
    ∷ (opens "2" "'statistics':[{'file-footer-size-in-bytes':{'a':1,'a':2},'blob-metadata':'x'^" gives refusal 27)
    ∷ (opens "1" "'statistics':[{'file-footer-size-in-bytes':5,'blob-metadata':5,^" gives refusal 27)
    -- repeated: 28 at the second name, whose value is not judged; of what is passed over too
    ∷ (opens "2" "'location':'a','last-column-id':1,^'location':'a'" gives refusal 28)
    ∷ (opens "2" "'location':'a',^'location'" gives refusal 28)
    ∷ (opens "2" "'snapshots':[{'summary':1,^'summary':1" gives refusal 28)
    ∷ (opens "2" "'schemas':[{'fields':[{'type':'long',^'type':'int'" gives refusal 28)
    ∷ (opens "2" "'snapshots':[{'snapshot-id':1,'sequence-number':1,'timestamp-ms':1},{'snapshot-id':1^" gives refusal 27)
    -- What a value is to be: 28 at its first byte.
    -- 64 bits: -9223372036854775808 to 9223372036854775807, in each member that holds such a number
    ∷ (opens "2" "'last-sequence-number':-9223372036854775808,'last-updated-ms':9223372036854775807,'current-snapshot-id':-3000000000,'default-sort-order-id':-3000000000,'snapshots':[{'snapshot-id':-3000000000,'parent-snapshot-id':-3000000000,'sequence-number':-3000000000,'timestamp-ms':-3000000000}],'snapshot-log':[{'snapshot-id':-3000000000,'timestamp-ms':-3000000000}],'metadata-log':[{'metadata-file':'','timestamp-ms':-3000000000}],'sort-orders':[{'fields':[],'order-id':-3000000000}],'refs':{'':{'type':'tag','snapshot-id':-3000000000,'max-snapshot-age-ms':-3000000000,'max-ref-age-ms':-3000000000}},'statistics':[{'snapshot-id':-3000000000,'statistics-path':'','file-size-in-bytes':-3000000000}],'partition-statistics':[{'snapshot-id':-3000000000,'statistics-path':'','file-size-in-bytes':-3000000000}]^" gives refusal 27)
    ∷ (opens "2" "'last-sequence-number':^9223372036854775808," gives refusal 28)
    ∷ (opens "3" "'last-sequence-number':^-9223372036854775809," gives refusal 28)
    ∷ (opens "2" "'last-updated-ms':^9223372036854775808," gives refusal 28)
    ∷ (opens "2" "'current-snapshot-id':^9223372036854775808," gives refusal 28)
    ∷ (opens "2" "'default-sort-order-id':^9223372036854775808," gives refusal 28)
    ∷ (opens "2" "'snapshots':[{'snapshot-id':^9223372036854775808," gives refusal 28)
    ∷ (opens "2" "'snapshots':[{'parent-snapshot-id':^9223372036854775808," gives refusal 28)
    ∷ (opens "2" "'snapshots':[{'sequence-number':^9223372036854775808," gives refusal 28)
    ∷ (opens "2" "'snapshots':[{'timestamp-ms':^9223372036854775808," gives refusal 28)
    ∷ (opens "2" "'snapshot-log':[{'snapshot-id':^9223372036854775808," gives refusal 28)
    ∷ (opens "2" "'snapshot-log':[{'timestamp-ms':^9223372036854775808," gives refusal 28)
    ∷ (opens "2" "'metadata-log':[{'timestamp-ms':^9223372036854775808," gives refusal 28)
    ∷ (opens "2" "'sort-orders':[{'order-id':^9223372036854775808," gives refusal 28)
    ∷ (opens "2" "'refs':{'a':{'snapshot-id':^9223372036854775808," gives refusal 28)
    ∷ (opens "2" "'refs':{'a':{'max-snapshot-age-ms':^9223372036854775808," gives refusal 28)
    ∷ (opens "2" "'refs':{'a':{'max-ref-age-ms':^9223372036854775808," gives refusal 28)
    ∷ (opens "2" "'statistics':[{'snapshot-id':^9223372036854775808," gives refusal 28)
    ∷ (opens "2" "'statistics':[{'file-size-in-bytes':^9223372036854775808," gives refusal 28)
    ∷ (opens "2" "'partition-statistics':[{'snapshot-id':^9223372036854775808," gives refusal 28)
    ∷ (opens "2" "'partition-statistics':[{'file-size-in-bytes':^9223372036854775808," gives refusal 28)
    -- 32 bits: -2147483648 to 2147483647
    ∷ (opens "2" "'last-column-id':-2147483648,'current-schema-id':2147483647,'default-spec-id':-2147483648,'last-partition-id':-2147483648,'schemas':[{'schema-id':-2147483648,'type':'struct','fields':[{'id':-2147483648,'name':'','required':false,'type':'long'}]}],'partition-specs':[{'spec-id':-2147483648,'fields':[{'source-id':-2147483648,'field-id':-2147483648,'name':'','transform':'day'}]}],'sort-orders':[{'order-id':1,'fields':[{'transform':'identity','source-id':-2147483648,'direction':'asc','null-order':'nulls-last'}]}],'refs':{'':{'type':'tag','snapshot-id':1,'min-snapshots-to-keep':-2147483648}}^" gives refusal 27)
    ∷ (opens "2" "'last-column-id':^2147483648," gives refusal 28)
    ∷ (opens "2" "'current-schema-id':^2147483648," gives refusal 28)
    ∷ (opens "2" "'default-spec-id':^2147483648," gives refusal 28)
    ∷ (opens "2" "'last-partition-id':^2147483648," gives refusal 28)
    ∷ (opens "2" "'schemas':[{'schema-id':^2147483648," gives refusal 28)
    ∷ (opens "2" "'schemas':[{'fields':[{'id':^2147483648," gives refusal 28)
    ∷ (opens "2" "'partition-specs':[{'spec-id':^2147483648," gives refusal 28)
    ∷ (opens "2" "'partition-specs':[{'fields':[{'source-id':^2147483648," gives refusal 28)
    ∷ (opens "2" "'partition-specs':[{'fields':[{'field-id':^2147483648," gives refusal 28)
    ∷ (opens "2" "'sort-orders':[{'fields':[{'source-id':^2147483648," gives refusal 28)
    ∷ (opens "2" "'refs':{'a':{'min-snapshots-to-keep':^2147483648," gives refusal 28)
    -- row ids: 0 to 18446744073709551615
    ∷ (opens "3" "'next-row-id':18446744073709551615,'snapshots':[{'first-row-id':18446744073709551615,'added-rows':18446744073709551615,^" gives refusal 27)
    ∷ (opens "3" "'next-row-id':^18446744073709551616," gives refusal 28)
    ∷ (opens "3" "'next-row-id':^-1," gives refusal 28)
    ∷ (opens "3" "'snapshots':[{'first-row-id':^18446744073709551616," gives refusal 28)
    ∷ (opens "3" "'snapshots':[{'first-row-id':^-1," gives refusal 28)
    ∷ (opens "3" "'snapshots':[{'added-rows':^18446744073709551616," gives refusal 28)
    ∷ (opens "3" "'snapshots':[{'added-rows':^-1," gives refusal 28)
    -- null: none of the others may be it
    ∷ (opens "2" "'snapshots':[{'parent-snapshot-id':^null" gives refusal 28)
    ∷ (opens "2" "'refs':^null" gives refusal 28)
    -- words: those of the tables
    ∷ (opens "2" "'schemas':[{'type':^'list'" gives refusal 28)
    ∷ (opens "2" "'refs':{'a':{'type':^'Branch'" gives refusal 28)
    ∷ (opens "2" "'sort-orders':[{'fields':[{'transform':^'bucket[4]'" gives refusal 28)
    ∷ (opens "2" "'sort-orders':[{'fields':[{'direction':^'up'" gives refusal 28)
    ∷ (opens "2" "'sort-orders':[{'fields':[{'null-order':^'first'" gives refusal 28)
    ∷ (opens "2" "'partition-specs':[{'fields':[{'transform':^'hour'" gives refusal 28)
    ∷ (opens "2" "'table-uuid':^'0123456789abcdef1032547698badcfe'" gives refusal 28)
    -- texts: and not what is none
    ∷ (opens "2" "'location':^5," gives refusal 28)
    ∷ (opens "2" "'location':^['a']" gives refusal 28)
    ∷ (opens "2" "'location':^{" gives refusal 28)
    ∷ (opens "2" "'location':^'\\ud800'" gives refusal 28)
    ∷ (opens "2" "'metadata-log':[{'metadata-file':^5," gives refusal 28)
    ∷ (opens "2" "'statistics':[{'statistics-path':^5," gives refusal 28)
    ∷ (opens "2" "'partition-statistics':[{'statistics-path':^5," gives refusal 28)
    ∷ (opens "2" "'schemas':[{'fields':[{'name':^5," gives refusal 28)
    ∷ (opens "2" "'partition-specs':[{'fields':[{'name':^5," gives refusal 28)
    -- schemas: a field's type and `required` are 28 at the schema, also at the single one; all else at its own place
    ∷ (opens "2" "'schemas':[^{'type':'struct','fields':[{'id':7,'type':'int'" gives refusal 28)
    ∷ (opens "2" "'schemas':[{'schema-id':1,'type':'struct','fields':[]},^{'fields':[{'required':true" gives refusal 28)
    ∷ (opens "1" "'schema':^{'fields':[{'type':['long']" gives refusal 28)
    ∷ (opens "1" "'schema':^{'fields':[{'required':{" gives refusal 28)
    ∷ (opens "1" "'schema':{'fields':[{'id':^[" gives refusal 28)
    -- lists: a table is one, and of objects
    ∷ (opens "2" "'schemas':^{" gives refusal 28)
    ∷ (opens "2" "'schemas':^5," gives refusal 28)
    ∷ (opens "2" "'schemas':[^5," gives refusal 28)
    ∷ (opens "2" "'schemas':[^[" gives refusal 28)
    ∷ (opens "2" "'schemas':[{'fields':[^5," gives refusal 28)
    ∷ (opens "1" "'partition-spec':[^5," gives refusal 28)
    ∷ (opens "2" "'partition-specs':[^5," gives refusal 28)
    ∷ (opens "2" "'partition-specs':[{'fields':[^5," gives refusal 28)
    ∷ (opens "2" "'snapshots':[^5," gives refusal 28)
    ∷ (opens "2" "'snapshot-log':[^5," gives refusal 28)
    ∷ (opens "2" "'metadata-log':[^5," gives refusal 28)
    ∷ (opens "2" "'sort-orders':[^5," gives refusal 28)
    ∷ (opens "2" "'sort-orders':[{'fields':[^5," gives refusal 28)
    ∷ (opens "2" "'statistics':[^5," gives refusal 28)
    ∷ (opens "2" "'partition-statistics':[^5," gives refusal 28)
    ∷ (opens "2" "'snapshots':[{'snapshot-id':1,'sequence-number':1,'timestamp-ms':1},^5," gives refusal 28)
    -- refs: an object of objects, and no name twice; a name stands for itself, also an empty one
    ∷ (opens "2" "'refs':^[" gives refusal 28)
    ∷ (opens "2" "'refs':{'a':^5," gives refusal 28)
    ∷ (opens "2" "'refs':{'a':^[" gives refusal 28)
    ∷ (opens "2" "'refs':{'a':{'snapshot-id':1,'type':'tag'},'b':{'snapshot-id':1,'type':'tag'},^'a':{" gives refusal 28)
    ∷ (opens "2" "'refs':{'a':{'snapshot-id':1,'type':'tag'},^'\\u0061'" gives refusal 28)
    ∷ (opens "2" "'refs':{^'\\udc00':{" gives refusal 28)
    ∷ (opens "2" "'refs':{'a':{'snapshot-id':1,'type':'tag'},'b':^5," gives refusal 28)
    -- Capacities: 29 at the first byte.
    -- texts of 96 bytes: a location, a metadata file, a path of statistics
    ∷ (texted "2" "'location':'" 96 "'^" gives refusal 27)
    ∷ (texted "2" "'location':^'" 97 "'" gives refusal 29)
    ∷ (texted "2" "'metadata-log':[{'metadata-file':'" 96 "'^" gives refusal 27)
    ∷ (texted "2" "'metadata-log':[{'metadata-file':^'" 97 "'" gives refusal 29)
    ∷ (texted "2" "'statistics':[{'statistics-path':'" 96 "'^" gives refusal 27)
    ∷ (texted "2" "'statistics':[{'statistics-path':^'" 97 "'" gives refusal 29)
    ∷ (texted "2" "'partition-statistics':[{'statistics-path':'" 96 "'^" gives refusal 27)
    ∷ (texted "2" "'partition-statistics':[{'statistics-path':^'" 97 "'" gives refusal 29)
    -- names of 32 bytes: of a ref, a field and a partition field
    ∷ (texted "2" "'refs':{'" 32 "':^" gives refusal 27)
    ∷ (texted "2" "'refs':{^'" 33 "':" gives refusal 29)
    ∷ (texted "2" "'refs':{^'" 33 "'" gives refusal 29)
    ∷ (texted "2" "'schemas':[{'fields':[{'name':'" 32 "'^" gives refusal 27)
    ∷ (texted "2" "'schemas':[{'fields':[{'name':^'" 33 "'" gives refusal 29)
    ∷ (texted "2" "'partition-specs':[{'fields':[{'name':'" 32 "'^" gives refusal 27)
    ∷ (texted "2" "'partition-specs':[{'fields':[{'name':^'" 33 "'" gives refusal 29)
    -- tables: 64 snapshots, 128 entries of either log, 16 schemas, orders and specs, 32 statistics files each; at the bracket once one more is there
    ∷ (crowded "2" "'snapshots':[^" 64 "0" gives refusal 28)
    ∷ (crowded "2" "'snapshots':^[" 65 "0" gives refusal 29)
    ∷ (crowded "2" "'snapshot-log':[^" 128 "0" gives refusal 28)
    ∷ (crowded "2" "'snapshot-log':^[" 129 "0" gives refusal 29)
    ∷ (crowded "2" "'metadata-log':[^" 128 "0" gives refusal 28)
    ∷ (crowded "2" "'metadata-log':^[" 129 "0" gives refusal 29)
    ∷ (crowded "2" "'schemas':[^" 16 "0" gives refusal 28)
    ∷ (crowded "2" "'schemas':^[" 17 "0" gives refusal 29)
    ∷ (crowded "2" "'partition-specs':[^" 16 "0" gives refusal 28)
    ∷ (crowded "2" "'partition-specs':^[" 17 "0" gives refusal 29)
    ∷ (crowded "2" "'sort-orders':[^" 16 "0" gives refusal 28)
    ∷ (crowded "2" "'sort-orders':^[" 17 "0" gives refusal 29)
    ∷ (crowded "2" "'statistics':[^" 32 "0" gives refusal 28)
    ∷ (crowded "2" "'statistics':^[" 33 "0" gives refusal 29)
    ∷ (crowded "2" "'partition-statistics':[^" 32 "0" gives refusal 28)
    ∷ (crowded "2" "'partition-statistics':^[" 33 "0" gives refusal 29)
    -- fields: 32 of a schema, 8 of an order and of a spec, also of the single one
    ∷ (crowded "2" "'schemas':[{'fields':[^" 32 "0" gives refusal 28)
    ∷ (crowded "2" "'schemas':[{'fields':^[" 33 "0" gives refusal 29)
    ∷ (crowded "2" "'sort-orders':[{'fields':[^" 8 "0" gives refusal 28)
    ∷ (crowded "2" "'sort-orders':[{'fields':^[" 9 "0" gives refusal 29)
    ∷ (crowded "2" "'partition-specs':[{'fields':[^" 8 "0" gives refusal 28)
    ∷ (crowded "2" "'partition-specs':[{'fields':^[" 9 "0" gives refusal 29)
    ∷ (crowded "1" "'partition-spec':[^" 8 "0" gives refusal 28)
    ∷ (crowded "1" "'partition-spec':^[" 9 "0" gives refusal 29)
    -- past the capacity: what stands there is still judged, as it may refuse what encloses the list
    ∷ (file (begin "2" ++ json "'schemas':[^{'fields':[" ++ several 32 (json "0") ++ json ",{'type':'int'") gives refusal 28)
    -- 16 refs: at the bracket of `refs` once one more name is there
    ∷ (crowded "2" "'refs':{'b':^0,'c':0," 14 "'a':0" gives refusal 28)
    ∷ (crowded "2" "'refs':^{" 17 "'a':0" gives refusal 29)
    ∷ (file (begin "2" ++ json "'refs':^{" ++ several 16 (json "'a':0") ++ json ",'b'") gives refusal 29)
    -- nested: the 17th open bracket, also in what is skipped; what encloses it lacks nothing
    ∷ (file (begin "2" ++ json "'properties':" ++ many 15 (json "[") ++ json "1^") gives refusal 27)
    ∷ (file (begin "2" ++ json "'properties':" ++ many 15 (json "[") ++ json "^[" ++ many 16 (json "]") ++ json "}") gives refusal 29)
    -- The least of all that is wrong, and 1 after all.
    -- earliest: 30 at an object before what is wrong inside it, and behind what stands before it
    ∷ (file (json "^{'format-version':3,'location':5}") gives refusal 30)
    ∷ (file (json "{'format-version':^4,'snapshots':[{}]") gives refusal 28)
    ∷ (opens "2" "'snapshots':[^{'snapshot-id':'x'}" gives refusal 30)
    ∷ (opens "2" "'location':^5,'snapshots':[{}" gives refusal 28)
    ∷ (opens "2" "'location':^5,x" gives refusal 28)
    ∷ (opens "2" "'refs':{'a':^{},'b':5" gives refusal 30)
    -- 1: equal keys in a table, a default or a current one that is not held, a ref to a snapshot that is not there; and 30 before it
    ∷ (whole (plus "snapshots" "[{'snapshot-id':5,'timestamp-ms':2},{'snapshot-id':5,'timestamp-ms':2}]" least1) gives not_formed)
    ∷ (whole (plus "statistics" "[{'snapshot-id':5,'statistics-path':'a','file-size-in-bytes':2},{'snapshot-id':5,'statistics-path':'b','file-size-in-bytes':2}]" least1) gives not_formed)
    ∷ (whole (put "current-schema-id" "1" least2) gives not_formed)
    ∷ (whole (put "default-spec-id" "1" least2) gives not_formed)
    ∷ (whole (put "default-sort-order-id" "1" least2) gives not_formed)
    ∷ (whole (plus "refs" "{'a':{'snapshot-id':1,'type':'tag'}}" least1) gives not_formed)
    ∷ (whole (put "last-sequence-number" "-1" least2) gives not_formed)
    ∷ (lacks "location" (put "current-schema-id" "1" least2) gives refusal 30)
    -- What is written: members in the public document's order, without spaces.
    -- least written: the least metadata of each version; empty tables are `[]`, and no refs `{}`
    ∷ (writing said1 gives shows shown1)
    ∷ (writing said2 gives shows shown2)
    ∷ (writing said3 gives shows shown3)
    -- everything written: all that is held, of each version
    ∷ (writing held3 gives shows written3)
    ∷ (writing held2 gives shows written2)
    ∷ (writing held1 gives shows written1)
    -- single ones written: version 1 has the current schema and the fields of the default spec once more
    ∷ (writing (with_fields (with_current_schema (pos 0) (with_default_spec (pos 0) held1.fields)) held1)
    gives shows (put "default-spec-id" "0" (put "partition-spec" "[]" (put "current-schema-id" "0" (put "schema" "{'type':'struct','fields':[],'schema-id':0}" written1)))))
    -- numbers written: digits without leading zeros, and a minus
    ∷ (writing (updated (pos 0)) gives shows (put "last-updated-ms" "0" shown2))
    ∷ (writing (updated (pos 9)) gives shows (put "last-updated-ms" "9" shown2))
    ∷ (writing (updated (pos 10)) gives shows (put "last-updated-ms" "10" shown2))
    ∷ (writing (updated (negsuc 0)) gives shows (put "last-updated-ms" "-1" shown2))
    ∷ (writing (updated (pos 9223372036854775807)) gives shows (put "last-updated-ms" "9223372036854775807" shown2))
    ∷ (writing (updated (negsuc 9223372036854775807)) gives shows (put "last-updated-ms" "-9223372036854775808" shown2))
    -- escapes: quotation mark, backslash and control bytes, in the short form where there is one; every other byte stands as it is
    ∷ (writing (located (34 ∷ 92 ∷ 8 ∷ 12 ∷ 10 ∷ 13 ∷ 9 ∷ [])) gives shows (put "location" "'\\'\\\\\\b\\f\\n\\r\\t'" shown2))
    ∷ (writing (located (0 ∷ 7 ∷ 11 ∷ 14 ∷ 25 ∷ 26 ∷ 31 ∷ 32 ∷ 47 ∷ 126 ∷ [])) gives shows (put "location" "'\\u0000\\u0007\\u000b\\u000e\\u0019\\u001a\\u001f /~'" shown2))
    ∷ (writing (located (127 ∷ 195 ∷ 169 ∷ [])) gives shows (put_bytes "location" (34 ∷ 127 ∷ 195 ∷ 169 ∷ 34 ∷ []) shown2))
    -- every text: names of refs, fields and partition fields, metadata files and paths are escaped too
    ∷ (writing (with_refs (ref_to (34 ∷ []) tag (pos 5) ∷ []) (with_snapshots (snapshot_of (pos 5) (pos 0) ∷ []) said2))
    gives shows (put "refs" "{'\\'':{'snapshot-id':5,'type':'tag'}}" (put "snapshots" "[{'snapshot-id':5,'sequence-number':0,'timestamp-ms':2}]" shown2)))
    ∷ (writing (with_schemas (schema_of (pos 0) (column (pos 1) long (34 ∷ []) ∷ []) ∷ []) said2)
    gives shows (put "schemas" "[{'type':'struct','fields':[{'id':1,'name':'\\'','required':false,'type':'long'}],'schema-id':0}]" shown2))
    ∷ (writing (with_metadata_log (metadata_file (34 ∷ []) (pos 1) ∷ []) said2) gives shows (put "metadata-log" "[{'metadata-file':'\\'','timestamp-ms':1}]" shown2))
    ∷ (writing (with_statistics Statistics (statistics_file (pos 5) (34 ∷ []) (pos 1) ∷ []) said2)
    gives shows (put "statistics" "[{'snapshot-id':5,'statistics-path':'\\'','file-size-in-bytes':1}]" shown2))
    -- transforms written: the five
    ∷ (writing (with_specs (spec_of (pos 0) (part (pos 1) (pos 1000) identity (pos 0) (34 ∷ []) ∷ part (pos 2) (pos 1001) year (pos 0) (bytes "b") ∷ part (pos 3) (pos 1002) month (pos 0) (bytes "c") ∷ []) ∷ spec_of (pos 1) (part (pos 1) (pos 1003) day (pos 0) (bytes "d") ∷ part (pos 1) (pos 1004) bucket (pos 2147483647) (bytes "e") ∷ []) ∷ []) said2)
    gives shows (put "partition-specs" "[{'spec-id':0,'fields':[{'source-id':1,'field-id':1000,'name':'\\'','transform':'identity'},{'source-id':2,'field-id':1001,'name':'b','transform':'year'},{'source-id':3,'field-id':1002,'name':'c','transform':'month'}]},{'spec-id':1,'fields':[{'source-id':1,'field-id':1003,'name':'d','transform':'day'},{'source-id':1,'field-id':1004,'name':'e','transform':'bucket[2147483647]'}]}]" shown2))
    -- 38, what the file can not show.
    -- sequence numbers not shown: in version 1 all are 0, the last one and each snapshot's
    ∷ (writing (with_fields (with_last_sequence (record { 0 = pos 1 }) (record { 0 = 0 }) fields1) said1) gives number 38)
    ∷ (writing (with_snapshots (snapshot_of (pos 4) (pos 0) ∷ snapshot_of (pos 5) (pos 1) ∷ []) said1) gives number 38)
    ∷ (writing (with_snapshots (snapshot_of (pos 5) (pos 0) ∷ []) said1) gives shows (put "snapshots" "[{'snapshot-id':5,'timestamp-ms':2}]" shown1))
    -- row ids not shown: below version 3 no next one but 0, and no row range, not one of 0 and 0 either
    ∷ (writing (with_fields (with_version 1 (record { 0 = 1 }) fields1) said1) gives number 38)
    ∷ (writing (with_fields (with_version 2 (record { 0 = 1 }) fields2) said2) gives number 38)
    ∷ (writing (with_snapshots (ranged (range_from 0 0) ∷ []) said1) gives number 38)
    ∷ (writing (with_snapshots (snapshot_of (pos 4) (pos 0) ∷ ranged (range_from 0 0) ∷ []) said2) gives number 38)
    ∷ (writing (with_snapshots (ranged (range_from 0 0) ∷ []) said3)
    gives shows (put "snapshots" "[{'snapshot-id':5,'sequence-number':0,'timestamp-ms':2,'first-row-id':0,'added-rows':0}]" shown3))
    -- owners not shown: a ref of another office than 1
    ∷ (writing (with_refs (ref_to (bytes "a") tag (pos 5) ∷ record { name = bytes "b"; owner = 2; reference = plain tag (pos 5) } ∷ []) (with_snapshots (snapshot_of (pos 5) (pos 0) ∷ []) said2)) gives number 38)
    -- texts that are not UTF-8: a location, a name of a ref, of a field or of a partition field, a metadata file, a path of statistics; also the second of several
    ∷ (writing (located (255 ∷ [])) gives number 38)
    ∷ (writing (with_refs (ref_to (bytes "a") tag (pos 5) ∷ ref_to (255 ∷ []) tag (pos 5) ∷ []) (with_snapshots (snapshot_of (pos 5) (pos 0) ∷ []) said2)) gives number 38)
    ∷ (writing (with_metadata_log (metadata_file [] (pos 1) ∷ metadata_file (255 ∷ []) (pos 1) ∷ []) said2) gives number 38)
    ∷ (writing (with_schemas (schema_of (pos 0) [] ∷ schema_of (pos 1) (column (pos 1) long (bytes "a") ∷ column (pos 2) long (255 ∷ []) ∷ []) ∷ []) said2) gives number 38)
    ∷ (writing (with_specs (spec_of (pos 0) [] ∷ spec_of (pos 1) (part (pos 1) (pos 1000) day (pos 0) (bytes "a") ∷ part (pos 2) (pos 1001) day (pos 0) (255 ∷ []) ∷ []) ∷ []) said2) gives number 38)
    ∷ (writing (with_statistics Statistics (statistics_file (pos 4) [] (pos 1) ∷ statistics_file (pos 5) (255 ∷ []) (pos 1) ∷ []) said2) gives number 38)
    ∷ (writing (with_statistics PartitionStatistics (statistics_file (pos 4) [] (pos 1) ∷ statistics_file (pos 5) (255 ∷ []) (pos 1) ∷ []) said2) gives number 38)
    -- UTF-8: characters of one to four bytes, each with its first and its last; the second byte by the first, each later one between 128 and 191
    ∷ (writing (located every_length) gives shows (put_bytes "location" (34 ∷ every_length ++ (34 ∷ [])) shown2))
    ∷ (writing (located (128 ∷ [])) gives number 38)
    ∷ (writing (located (97 ∷ 193 ∷ 128 ∷ [])) gives number 38)
    ∷ (writing (located (195 ∷ [])) gives number 38)
    ∷ (writing (located (195 ∷ 97 ∷ [])) gives number 38)
    ∷ (writing (located (195 ∷ 169 ∷ 128 ∷ [])) gives number 38)
    ∷ (writing (located (224 ∷ 159 ∷ 128 ∷ [])) gives number 38)
    ∷ (writing (located (237 ∷ 160 ∷ 128 ∷ [])) gives number 38)
    ∷ (writing (located (225 ∷ 128 ∷ [])) gives number 38)
    ∷ (writing (located (225 ∷ 128 ∷ 192 ∷ [])) gives number 38)
    ∷ (writing (located (225 ∷ 128 ∷ 127 ∷ [])) gives number 38)
    ∷ (writing (located (240 ∷ 144 ∷ 127 ∷ 128 ∷ [])) gives number 38)
    ∷ (writing (located (240 ∷ 144 ∷ 192 ∷ 128 ∷ [])) gives number 38)
    ∷ (writing (located (244 ∷ 144 ∷ 128 ∷ 128 ∷ [])) gives number 38)
    -- Order: 1, then 38, then 25.
    -- short buffer: 25 where it is shorter than the file, and nothing is written
    ∷ (writing_into (length (file_of shown2)) said2 gives shows shown2)
    ∷ (writing_into (length (file_of shown2) - 1) said2 gives number 25)
    ∷ (writing_into 0 said1 gives number 25)
    ∷ (writing_into 0 (located (255 ∷ [])) gives number 38)
    -- not well formed: 1 before the others
    ∷ (writing (with_specs [] said2) gives number 1)
    ∷ (writing_into 0 (with_specs [] (located (255 ∷ []))) gives number 1)
    ∷ []
