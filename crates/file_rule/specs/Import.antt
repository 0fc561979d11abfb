-- The metadata that a file says, and what is answered to a file: document 02, request (vii).
use Rattle.std.specs.Prelude.{ℕ, zero, suc, ◌+◌, Bool, true, false, cond, not, ◌&&◌, List, [], ◌∷◌, ◌++◌, map, eqb, ltb, ℤ, pos, negsuc, replicate}
use Prim.Native.String.{String}
use Rattle.std.proofs.Math.Option.{Option, none, some}
use Rattle.rules.specs.Words.{is_some, or_else, highest, larger, eq_z, collect, same_bytes}
use Rattle.rules.specs.Names.{main_name}
use Rattle.rules.specs.WellFormed.{branch, snapshot_below, ref_below, schema_below, order_below, spec_below, statistics_below, metadata_formed}
use Rattle.rules.specs.Register.{SingleFields, Reference, NamedRef, LogEntry, FileEntry, Schema, SortOrder, PartitionField, PartitionSpec, StatisticsFile, Metadata}
use Rattle.json_rule.specs.Letters.{bytes}
use Rattle.json_rule.specs.Lexemes.{Lexeme}
use Rattle.json_rule.specs.Values.{text_of}
use Rattle.json_rule.specs.Tree.{Defect, Json, Items, Members, no_member, bare_name, member, Text, text}
use Rattle.json_rule.specs.Members.{value_of, members_in, text_by, number_by, number_or0, items_by, members_by}
use Rattle.json_rule.specs.Records.{records_of, natural_of, uuid_of, snapshot_of, reference_of, schema_of, order_of, partition_field_of}
use Rattle.json_rule.specs.Defects.{least}
use Rattle.file_rule.specs.Tables.{TheFile, rows_in}
use Rattle.file_rule.specs.FileDefects.{version_of, row_by, file_defects}

-- ---- tables in order

-- "import takes members and table records in any order": a record is put before the first that is not below it
unfoldable pub inserted : {A : Type 0} → (A → A → Bool) → A → List A → List A
inserted below x [] = x ∷ []
inserted below x (y ∷ ys) = cond (below y x) (y ∷ inserted below x ys) (x ∷ y ∷ ys)

unfoldable pub sorted : {A : Type 0} → (A → A → Bool) → List A → List A
sorted below [] = []
sorted below (x ∷ xs) = inserted below x (sorted below xs)

-- ---- records

abbrev pub log_entry_of : Members → LogEntry
log_entry_of ms = record { snapshot = number_or0 "snapshot-id" ms; time = number_or0 "timestamp-ms" ms }

abbrev pub file_entry_of : Members → FileEntry
file_entry_of ms = record { file = text_by "metadata-file" ms; time = number_or0 "timestamp-ms" ms }

abbrev pub statistics_of : Members → StatisticsFile
statistics_of ms = record { snapshot = number_or0 "snapshot-id" ms; path = text_by "statistics-path" ms; size = number_or0 "file-size-in-bytes" ms }

-- a field of version 1 that has no id has 1000 and its position in its list
abbrev pub with_position : ℕ → List PartitionField → List PartitionField
with_position n [] = []
with_position n (f ∷ fs) =
    record { source = f.source; id = some (or_else f.id (pos (1000 + n))); transform = f.transform; buckets = f.buckets; name = f.name }
    ∷ with_position (suc n) fs

abbrev pub spec_fields_of : Items → List PartitionField
spec_fields_of xs = with_position 0 (records_of partition_field_of xs)

abbrev pub spec_of : Members → PartitionSpec
spec_of ms = record { id = number_or0 "spec-id" ms; fields = spec_fields_of (items_by "fields" ms) }

-- a file says no owner: "Import gives every ref to office 1"
abbrev pub refs_of : Members → List NamedRef
refs_of no_member = []
refs_of (bare_name t) = []
refs_of (member t x ms) = record { name = or_else (text_of t) []; owner = 1; reference = reference_of (members_in x) } ∷ refs_of ms

-- ---- what is absent

-- whether a member is there
abbrev pub has : String → Members → Bool
has name ms = is_some (value_of (bytes name) ms)

-- in version 1 the table and the id of the current one decide where both are there, and else the single schema
abbrev pub schema_decides : ℕ → Members → Bool
schema_decides version ms = eqb version 1 && not (has "schemas" ms && has "current-schema-id" ms)

abbrev pub spec_decides : ℕ → Members → Bool
spec_decides version ms = eqb version 1 && not (has "partition-specs" ms && has "default-spec-id" ms)

abbrev pub schemas_of : ℕ → Members → List Schema
schemas_of version ms = cond (schema_decides version ms) (schema_of (members_by "schema" ms) ∷ []) (records_of schema_of (items_by "schemas" ms))

abbrev pub current_schema_of : ℕ → Members → ℤ
current_schema_of version ms = cond (schema_decides version ms) (schema_of (members_by "schema" ms)).id (number_or0 "current-schema-id" ms)

abbrev pub specs_of : ℕ → Members → List PartitionSpec
specs_of version ms =
    cond (spec_decides version ms) (record { id = pos 0; fields = spec_fields_of (items_by "partition-spec" ms) } ∷ []) (records_of spec_of (items_by "partition-specs" ms))

abbrev pub default_spec_of : ℕ → Members → ℤ
default_spec_of version ms = cond (spec_decides version ms) (pos 0) (number_or0 "default-spec-id" ms)

-- the largest field id of all specs, at least 999
abbrev pub largest_id : List PartitionSpec → ℤ
largest_id [] = pos 999
largest_id (s ∷ ss) = larger (highest (map (λ (f : PartitionField). or_else f.id (pos 0)) s.fields)) (largest_id ss)

abbrev pub orders_of : Members → List SortOrder
orders_of ms = cond (has "sort-orders" ms) (records_of order_of (items_by "sort-orders" ms)) (record { id = pos 0; fields = [] } ∷ [])

-- `null` and -1 are none
abbrev pub current_of : Members → Option ℤ
current_of ms = elim (number_by "current-snapshot-id" ms) [ none ↦ none | some id ↦ cond (eq_z id (negsuc 0)) none (some id) ]

-- `main`, a plain branch, at the current snapshot
abbrev pub main_at : Option ℤ → List NamedRef
main_at none = []
main_at (some id) = record { name = main_name; owner = 1; reference = record { snapshot = id; kind = branch; min_snapshots = none; max_snapshot_age = none; max_ref_age = none } } ∷ []

-- ---- the metadata

unfoldable pub fields_of : ℕ → Members → SingleFields
fields_of version ms =
    record {
      version = version;
      uuid = cond (has "table-uuid" ms) (uuid_of (text_by "table-uuid" ms)) (replicate 16 0);
      location = text_by "location" ms;
      last_updated = number_or0 "last-updated-ms" ms;
      last_sequence = record { 0 = cond (ltb 1 version) (number_or0 "last-sequence-number" ms) (pos 0) };
      next_row = record { 0 = cond (ltb 2 version) (natural_of (number_or0 "next-row-id" ms)) 0 };
      last_column = number_or0 "last-column-id" ms;
      current = current_of ms;
      current_schema = current_schema_of version ms;
      default_order = number_or0 "default-sort-order-id" ms;
      default_spec = default_spec_of version ms;
      last_partition = or_else (number_by "last-partition-id" ms) (largest_id (specs_of version ms));
    }

unfoldable pub metadata_of : ℕ → Members → Metadata
metadata_of version ms =
    record {
      fields = fields_of version ms;
      snapshots = sorted snapshot_below (records_of snapshot_of (items_by "snapshots" ms));
      refs = sorted ref_below (cond (has "refs" ms) (refs_of (members_by "refs" ms)) (main_at (current_of ms)));
      snapshot_log = records_of log_entry_of (items_by "snapshot-log" ms);
      metadata_log = records_of file_entry_of (items_by "metadata-log" ms);
      schemas = sorted schema_below (schemas_of version ms);
      orders = sorted order_below (orders_of ms);
      statistics = sorted statistics_below (records_of statistics_of (items_by "statistics" ms));
      partition_statistics = sorted statistics_below (records_of statistics_of (items_by "partition-statistics" ms));
      specs = sorted spec_below (specs_of version ms);
    }

-- ---- the answer

-- "Top-level members we do not hold are skipped, and their count is the notice that the file held more"
unfoldable pub skipped_in : ℕ → Members → ℕ
skipped_in version no_member = 0
skipped_in version (bare_name t) = 0
skipped_in version (member t x ms) = cond (is_some (row_by (rows_in version TheFile) (text_of t))) (skipped_in version ms) (suc (skipped_in version ms))

-- number and place; how many members were skipped, and the metadata; none on a refusal
pub record Imported : Type 0 where
  pub number : ℕ
  pub place : ℕ
  pub skipped : ℕ
  pub metadata : Option Metadata

abbrev pub refused : ℕ → ℕ → Imported
refused number place = record { number = number; place = place; skipped = 0; metadata = none }

-- "then 1": a file with which nothing is wrong, and whose metadata is not well formed
abbrev pub formed_or1 : ℕ → Metadata → Imported
formed_or1 skipped m = cond (metadata_formed m) (record { number = 0; place = 0; skipped = skipped; metadata = some m }) (refused 1 0)

abbrev pub said_by : Option Json → Members
said_by none = no_member
said_by (some x) = members_in x

abbrev pub answered : Members → Option Defect → Imported
answered ms none = formed_or1 (skipped_in (version_of ms) ms) (metadata_of (version_of ms) ms)
answered ms (some d) = refused d.number d.place

unfoldable pub imported : List ℕ → Imported
imported bs = answered (said_by (text bs).tree) (least (file_defects (text bs)))
