-- What a tree says does not hang on its places: its version, its metadata, and how many members are skipped.
use Prim.Native.Nat.{ℕ, suc}
use Prim.Native.String.{String}
use mathlib.Core.Path.{◌≡◌, refl, ap, ◌∙◌}
use mathlib.Core.Bool.{Bool, true, false, cond, not, ◌&&◌}
use mathlib.Core.List.{List, [], ◌∷◌}
use mathlib.Core.Option.{Option, none, some, map}
use lib.Dec.{eqb, ltb}
use lib.IntN.{ℤ, pos}
use Rattle.rules.specs.Words.{is_some, or_else, same_bytes}
use Rattle.rules.specs.WellFormed.{branch, tag, long, timestamp, snapshot_below, ref_below, schema_below, order_below, spec_below, statistics_below}
use Rattle.json_rule.specs.Letters.{bytes}
use Rattle.json_rule.specs.Lexemes.{Lexeme}
use Rattle.json_rule.specs.Values.{text_of, whole_number_of}
use Rattle.json_rule.specs.Tree.{Json, Scalar, Array, Object, Items, no_item, item, Members, no_member, bare_name, member}
use Rattle.json_rule.specs.Members.{is_named, names_of, value_of, text_in, number_in, items_in, members_in, text_by, number_by, number_or0, items_by, members_by}
use Rattle.json_rule.specs.Records.{records_of, natural_of, range_of, snapshot_of, reference_of, field_of, schema_of, sort_field_of, order_of, transform_of, buckets_of, partition_field_of}
use Rattle.file_rule.specs.Tables.{TheFile, rows_in}
use Rattle.file_rule.specs.FileDefects.{known_version, version_of, row_by}
use Rattle.file_rule.specs.Import.{sorted, log_entry_of, file_entry_of, statistics_of, with_position, spec_fields_of, spec_of, refs_of, has, schema_decides, spec_decides, specs_of, largest_id, metadata_of, skipped_in}
use Rattle.file_spacing.specs.Places.{moved_lexeme, moved, moved_items, moved_members}
use Rattle.file_spacing.proofs.Parts.{Same, metadata_same}

-- what a value says, if there is one
abbrev pub text_at : Option Json → List ℕ
text_at o = elim o [ none ↦ [] | some x ↦ or_else (text_in x) [] ]

abbrev pub number_at : Option Json → Option ℤ
number_at o = elim o [ none ↦ none | some x ↦ number_in x ]

abbrev pub items_at : Option Json → Items
items_at o = elim o [ none ↦ no_item | some x ↦ items_in x ]

abbrev pub members_at : Option Json → Members
members_at o = elim o [ none ↦ no_member | some x ↦ members_in x ]

abbrev pub version_at : Option Json → ℕ
version_at o = elim o [ none ↦ 0 | some x ↦ elim (number_in x) [ none ↦ 0 | some n ↦ known_version n ] ]

module _ (f : ℕ → ℕ) where
  -- ---- values

  pub text_moved : (t : Lexeme) → text_of (moved_lexeme f t) ≡ text_of t
  unfolding text_of
  text_moved t = refl

  pub number_moved : (t : Lexeme) → whole_number_of (moved_lexeme f t) ≡ whole_number_of t
  unfolding whole_number_of
  number_moved t = refl

  text_in_lem : (x : Json) → text_in (moved f x) ≡ text_in x
  unfolding moved
  text_in_lem (Scalar t) = text_moved t
  text_in_lem (Array place xs closed) = refl
  text_in_lem (Object place ms closed) = refl

  number_in_lem : (x : Json) → number_in (moved f x) ≡ number_in x
  unfolding moved
  number_in_lem (Scalar t) = number_moved t
  number_in_lem (Array place xs closed) = refl
  number_in_lem (Object place ms closed) = refl

  items_in_lem : (x : Json) → items_in (moved f x) ≡ moved_items f (items_in x)
  unfolding moved
  items_in_lem (Scalar t) = refl
  items_in_lem (Array place xs closed) = refl
  items_in_lem (Object place ms closed) = refl

  pub members_in_lem : (x : Json) → members_in (moved f x) ≡ moved_members f (members_in x)
  unfolding moved
  members_in_lem (Scalar t) = refl
  members_in_lem (Array place xs closed) = refl
  members_in_lem (Object place ms closed) = refl

  -- ---- by name

  pick : (b : Bool) (x : Json) (o r : Option Json) → r ≡ map (moved f) o → cond b (some (moved f x)) r ≡ map (moved f) (cond b (some x) o)
  pick true x o r e = refl
  pick false x o r e = e

  value_moved : (name : List ℕ) (ms : Members) → value_of name (moved_members f ms) ≡ map (moved f) (value_of name ms)
  unfolding moved text_of
  value_moved name no_member = refl
  value_moved name (bare_name t) = refl
  value_moved name (member t x ms) = pick (is_named name t) x (value_of name ms) (value_of name (moved_members f ms)) (value_moved name ms)

  pub names_moved : (ms : Members) → names_of (moved_members f ms) ≡ names_of ms
  unfolding moved text_of
  names_moved no_member = refl
  names_moved (bare_name t) = refl
  names_moved (member t x ms) = ap (λ (l : List (List ℕ)). elim (text_of t) [ none ↦ l | some name ↦ name ∷ l ]) (names_moved ms)

  text_at_lem : (o : Option Json) → text_at (map (moved f) o) ≡ text_at o
  text_at_lem none = refl
  text_at_lem (some x) = ap (λ (t : Option (List ℕ)). or_else t []) (text_in_lem x)

  number_at_lem : (o : Option Json) → number_at (map (moved f) o) ≡ number_at o
  number_at_lem none = refl
  number_at_lem (some x) = number_in_lem x

  items_at_lem : (o : Option Json) → items_at (map (moved f) o) ≡ moved_items f (items_at o)
  unfolding moved
  items_at_lem none = refl
  items_at_lem (some x) = items_in_lem x

  members_at_lem : (o : Option Json) → members_at (map (moved f) o) ≡ moved_members f (members_at o)
  unfolding moved
  members_at_lem none = refl
  members_at_lem (some x) = members_in_lem x

  is_there_lem : (o : Option Json) → is_some (map (moved f) o) ≡ is_some o
  is_there_lem none = refl
  is_there_lem (some x) = refl

  text_by_lem : (name : String) (ms : Members) → text_by name (moved_members f ms) ≡ text_by name ms
  text_by_lem name ms = ap text_at (value_moved (bytes name) ms) ∙ text_at_lem (value_of (bytes name) ms)

  number_by_lem : (name : String) (ms : Members) → number_by name (moved_members f ms) ≡ number_by name ms
  number_by_lem name ms = ap number_at (value_moved (bytes name) ms) ∙ number_at_lem (value_of (bytes name) ms)

  number_or : (name : String) (ms : Members) → number_or0 name (moved_members f ms) ≡ number_or0 name ms
  number_or name ms = ap (λ (o : Option ℤ). or_else o (pos 0)) (number_by_lem name ms)

  items_by_lem : (name : String) (ms : Members) → items_by name (moved_members f ms) ≡ moved_items f (items_by name ms)
  items_by_lem name ms = ap items_at (value_moved (bytes name) ms) ∙ items_at_lem (value_of (bytes name) ms)

  members_by_lem : (name : String) (ms : Members) → members_by name (moved_members f ms) ≡ moved_members f (members_by name ms)
  members_by_lem name ms = ap members_at (value_moved (bytes name) ms) ∙ members_at_lem (value_of (bytes name) ms)

  has_moved : (name : String) (ms : Members) → has name (moved_members f ms) ≡ has name ms
  has_moved name ms = ap (λ (o : Option Json). is_some o) (value_moved (bytes name) ms) ∙ is_there_lem (value_of (bytes name) ms)

  pub version_moved : (ms : Members) → version_of (moved_members f ms) ≡ version_of ms
  unfolding version_of
  version_moved ms = ap version_at (value_moved (bytes "format-version") ms) ∙ go (value_of (bytes "format-version") ms)
    where
      go : (o : Option Json) → version_at (map (moved f) o) ≡ version_at o
      go none = refl
      go (some x) = ap (λ (n : Option ℤ). elim n as (λ _. ℕ) [ none ↦ 0 | some n ↦ known_version n ]) (number_in_lem x)

  -- ---- records

  pub records_moved : {A : Type 0} (make : Members → A) → ((ms : Members) → make (moved_members f ms) ≡ make ms) → (xs : Items) → records_of make (moved_items f xs) ≡ records_of make xs
  unfolding moved
  records_moved make e no_item = refl
  records_moved make e (item x xs) = λ i. (ap make (members_in_lem x) ∙ e (members_in x)) i ∷ records_moved make e xs i

  fields_made : {A : Type 0} (make : Members → A) → ((ms : Members) → make (moved_members f ms) ≡ make ms) → (name : String) (ms : Members)
      → records_of make (items_by name (moved_members f ms)) ≡ records_of make (items_by name ms)
  fields_made make e name ms = ap (records_of make) (items_by_lem name ms) ∙ records_moved make e (items_by name ms)

  snapshot_moved : (ms : Members) → snapshot_of (moved_members f ms) ≡ snapshot_of ms
  snapshot_moved ms = λ i. record {
    id = number_or "snapshot-id" ms i;
    parent = number_by_lem "parent-snapshot-id" ms i;
    sequence = record { 0 = number_or "sequence-number" ms i };
    time = number_or "timestamp-ms" ms i;
    rows = range_of (number_by_lem "first-row-id" ms i) (number_by_lem "added-rows" ms i);
  }

  reference_moved : (ms : Members) → reference_of (moved_members f ms) ≡ reference_of ms
  reference_moved ms = λ i. record {
    snapshot = number_or "snapshot-id" ms i;
    kind = cond (same_bytes (text_by_lem "type" ms i) (bytes "branch")) branch tag;
    min_snapshots = number_by_lem "min-snapshots-to-keep" ms i;
    max_snapshot_age = number_by_lem "max-snapshot-age-ms" ms i;
    max_ref_age = number_by_lem "max-ref-age-ms" ms i;
  }

  field_moved : (ms : Members) → field_of (moved_members f ms) ≡ field_of ms
  field_moved ms = λ i. record { id = number_or "id" ms i; field_type = cond (same_bytes (text_by_lem "type" ms i) (bytes "long")) long timestamp; name = text_by_lem "name" ms i }

  schema_moved : (ms : Members) → schema_of (moved_members f ms) ≡ schema_of ms
  schema_moved ms = λ i. record { id = number_or "schema-id" ms i; fields = fields_made field_of field_moved "fields" ms i }

  sort_field_moved : (ms : Members) → sort_field_of (moved_members f ms) ≡ sort_field_of ms
  sort_field_moved ms = λ i. record {
    source = number_or "source-id" ms i;
    direction = cond (same_bytes (text_by_lem "direction" ms i) (bytes "asc")) 0 1;
    nulls = cond (same_bytes (text_by_lem "null-order" ms i) (bytes "nulls-first")) 0 1;
  }

  order_moved : (ms : Members) → order_of (moved_members f ms) ≡ order_of ms
  order_moved ms = λ i. record { id = number_or "order-id" ms i; fields = fields_made sort_field_of sort_field_moved "fields" ms i }

  partition_field_moved : (ms : Members) → partition_field_of (moved_members f ms) ≡ partition_field_of ms
  partition_field_moved ms = λ i. record {
    source = number_or "source-id" ms i;
    id = number_by_lem "field-id" ms i;
    transform = transform_of (text_by_lem "transform" ms i);
    buckets = buckets_of (text_by_lem "transform" ms i);
    name = text_by_lem "name" ms i;
  }

  spec_fields_lem : (name : String) (ms : Members) → spec_fields_of (items_by name (moved_members f ms)) ≡ spec_fields_of (items_by name ms)
  spec_fields_lem name ms = ap (with_position 0) (fields_made partition_field_of partition_field_moved name ms)

  spec_moved : (ms : Members) → spec_of (moved_members f ms) ≡ spec_of ms
  spec_moved ms = λ i. record { id = number_or "spec-id" ms i; fields = spec_fields_lem "fields" ms i }

  log_moved : (ms : Members) → log_entry_of (moved_members f ms) ≡ log_entry_of ms
  log_moved ms = λ i. record { snapshot = number_or "snapshot-id" ms i; time = number_or "timestamp-ms" ms i }

  file_moved : (ms : Members) → file_entry_of (moved_members f ms) ≡ file_entry_of ms
  file_moved ms = λ i. record { file = text_by_lem "metadata-file" ms i; time = number_or "timestamp-ms" ms i }

  statistics_moved : (ms : Members) → statistics_of (moved_members f ms) ≡ statistics_of ms
  statistics_moved ms = λ i. record { snapshot = number_or "snapshot-id" ms i; path = text_by_lem "statistics-path" ms i; size = number_or "file-size-in-bytes" ms i }

  refs_moved : (ms : Members) → refs_of (moved_members f ms) ≡ refs_of ms
  unfolding moved text_of
  refs_moved no_member = refl
  refs_moved (bare_name t) = refl
  refs_moved (member t x ms) = λ i. record { name = or_else (text_of t) []; owner = 1; reference = (ap reference_of (members_in_lem x) ∙ reference_moved (members_in x)) i } ∷ refs_moved ms i

  -- ---- the file

  schema_decides_lem : (version : ℕ) (ms : Members) → schema_decides version (moved_members f ms) ≡ schema_decides version ms
  schema_decides_lem version ms = λ i. eqb version 1 && not (has_moved "schemas" ms i && has_moved "current-schema-id" ms i)

  spec_decides_lem : (version : ℕ) (ms : Members) → spec_decides version (moved_members f ms) ≡ spec_decides version ms
  spec_decides_lem version ms = λ i. eqb version 1 && not (has_moved "partition-specs" ms i && has_moved "default-spec-id" ms i)

  single_schema : (ms : Members) → schema_of (members_by "schema" (moved_members f ms)) ≡ schema_of (members_by "schema" ms)
  single_schema ms = ap schema_of (members_by_lem "schema" ms) ∙ schema_moved (members_by "schema" ms)

  specs_said : (version : ℕ) (ms : Members) → specs_of version (moved_members f ms) ≡ specs_of version ms
  specs_said version ms = λ i. cond (spec_decides_lem version ms i) (record { id = pos 0; fields = spec_fields_lem "partition-spec" ms i } ∷ []) (fields_made spec_of spec_moved "partition-specs" ms i)

  all_said : (version : ℕ) (ms : Members) → Same version (moved_members f ms) ms
  all_said version ms = record {
    has_uuid = has_moved "table-uuid" ms;
    uuid = text_by_lem "table-uuid" ms;
    location = text_by_lem "location" ms;
    last_updated = number_or "last-updated-ms" ms;
    last_sequence = ap (λ (n : ℤ). cond (ltb 1 version) n (pos 0)) (number_or "last-sequence-number" ms);
    next_row = ap (λ (n : ℤ). cond (ltb 2 version) (natural_of n) 0) (number_or "next-row-id" ms);
    last_column = number_or "last-column-id" ms;
    current = number_by_lem "current-snapshot-id" ms;
    current_schema = λ i. cond (schema_decides_lem version ms i) (single_schema ms i).id (number_or "current-schema-id" ms i);
    default_order = number_or "default-sort-order-id" ms;
    default_spec = λ i. cond (spec_decides_lem version ms i) (pos 0) (number_or "default-spec-id" ms i);
    last_partition = number_by_lem "last-partition-id" ms;
    largest = ap largest_id (specs_said version ms);
    snapshots = ap (sorted snapshot_below) (fields_made snapshot_of snapshot_moved "snapshots" ms);
    has_refs = has_moved "refs" ms;
    refs = ap (sorted ref_below) (ap refs_of (members_by_lem "refs" ms) ∙ refs_moved (members_by "refs" ms));
    snapshot_log = fields_made log_entry_of log_moved "snapshot-log" ms;
    metadata_log = fields_made file_entry_of file_moved "metadata-log" ms;
    schemas = λ i. sorted schema_below (cond (schema_decides_lem version ms i) (single_schema ms i ∷ []) (fields_made schema_of schema_moved "schemas" ms i));
    orders = λ i. sorted order_below (cond (has_moved "sort-orders" ms i) (fields_made order_of order_moved "sort-orders" ms i) (record { id = pos 0; fields = [] } ∷ []));
    statistics = ap (sorted statistics_below) (fields_made statistics_of statistics_moved "statistics" ms);
    partitions = ap (sorted statistics_below) (fields_made statistics_of statistics_moved "partition-statistics" ms);
    specs = ap (sorted spec_below) (specs_said version ms);
  }

  pub metadata_moved : (version : ℕ) (ms : Members) → metadata_of version (moved_members f ms) ≡ metadata_of version ms
  metadata_moved version ms = metadata_same version (moved_members f ms) ms (all_said version ms)

  pub skipped_moved : (version : ℕ) (ms : Members) → skipped_in version (moved_members f ms) ≡ skipped_in version ms
  unfolding moved text_of skipped_in
  skipped_moved version no_member = refl
  skipped_moved version (bare_name t) = refl
  skipped_moved version (member t x ms) = ap (λ (n : ℕ). cond (is_some (row_by (rows_in version TheFile) (text_of t))) n (suc n)) (skipped_moved version ms)
