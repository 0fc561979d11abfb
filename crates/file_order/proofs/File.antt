-- A file with its members in another order, anywhere in it, says the same.
use Prim.Native.Nat.{ℕ, suc}
use Prim.Native.String.{String}
use mathlib.Core.Path.{◌≡◌, refl, sym, ap, subst, ◌∙◌}
use mathlib.Core.Bool.{Bool, true, false, cond, not, ◌&&◌, false≢true, true≢false}
use mathlib.Core.List.{List, [], ◌∷◌}
use mathlib.Core.Option.{Option, none, some}
use lib.Dec.{eqb, leb, ltb}
use lib.IntN.{ℤ, pos}
use borrow.Table.Steps.{cases}
use Rattle.rules.specs.Words.{is_some, or_else, ascending}
use Rattle.rules.specs.Names.{name_below}
use Rattle.rules.specs.Capacities.{snapshot_room, ref_room, snapshot_log_room, metadata_log_room, schema_room, sort_order_room, spec_room, partition_field_room, statistics_room}
use Rattle.rules.specs.WellFormed.{snapshot_below, ref_below, schema_below, order_below, spec_below, statistics_below}
use Rattle.rules.specs.Register.{NamedRef, Schema}
use Rattle.rules.proofs.Checks.{and_left, or_left}
use Rattle.rules.proofs.Orders.{names_ordered}
use Rattle.json_rule.specs.Letters.{bytes}
use Rattle.json_rule.specs.Lexemes.{Lexeme}
use Rattle.json_rule.specs.Values.{text_of}
use Rattle.json_rule.specs.Tree.{over_capacity, Json, Object, Members}
use Rattle.json_rule.specs.Members.{value_of, members_in, number_or0, items_by, members_by}
use Rattle.json_rule.specs.Records.{records_of, natural_of, snapshot_of, reference_of, schema_of, order_of, partition_field_of}
use Rattle.json_rule.specs.Defects.{unless, with_name}
use Rattle.file_rule.specs.Tables.{FileKind, TheFile, HeldSnapshot, HeldSchema, HeldSpec, HeldPartitionField, HeldOrder, HeldRef, HeldLogEntry, HeldFileEntry, HeldStatistics, HeldPartitionStatistics, FileShape, Several, ByName, OfKind, row_in, rows_in}
use Rattle.file_rule.specs.FileDefects.{published_as, version_of, row_by, skips_unknown, members_count, defects, member_defects, named_defects}
use Rattle.file_rule.specs.Import.{sorted, log_entry_of, file_entry_of, statistics_of, with_position, spec_fields_of, spec_of, refs_of, has, schema_decides, spec_decides, schemas_of, specs_of, largest_id, metadata_of, skipped_in}
use Rattle.file_round.proofs.Scalars.{Version, one, two, three}
use Rattle.file_round.proofs.Bounds.{Formed}
use Rattle.file_spacing.proofs.Said.{members_at, version_at}
use Rattle.file_spacing.proofs.Parts.{Same}
use Rattle.file_order.specs.Order.{in_array, in_object, TurnedMembers, turned, in_member, behind_member}
use Rattle.file_order.proofs.Turning.{no_both, OwnRight, own_right}
use Rattle.file_order.proofs.Kept.{Near, alike, near, text_near, number_near, has_near, value_near, RowShape, value_said_lem, record_turned, list_kept, Good}
use Rattle.file_order.proofs.Records.{listed, row_shape, snapshot_good, reference_good, partition_field_good, log_good, file_good, statistics_good, schema_good, order_good, spec_good}
use Rattle.file_order.proofs.Sorting.{Exchanged, kept, swapped, later, sorted_exchanged}

-- ---- refs

abbrev ref_as : Lexeme → Members → NamedRef
ref_as t ms = record { name = or_else (text_of t) []; owner = 1; reference = reference_of ms }

refs_turned : (version schema : ℕ) {ms ns : Members} → TurnedMembers ms ns → (seen : List (List ℕ)) → named_defects version schema (OfKind HeldRef) seen ms ≡ [] → Exchanged NamedRef (refs_of ms) (refs_of ns)
refs_turned version schema turned seen e = swapped
refs_turned version schema (in_member {t = t} {x = x} {y = y} {ms = ms} h) seen e =
    let r : OwnRight version schema (OfKind HeldRef) seen t x ms = own_right version schema (OfKind HeldRef) seen t x ms e in
    subst (λ (n : NamedRef). Exchanged NamedRef (ref_as t (members_in x) ∷ refs_of ms) (n ∷ refs_of ms))
    (λ i. record { name = or_else (text_of t) []; owner = 1; reference = record_turned version HeldRef reference_of (reference_good version) h schema r.value i }) kept
refs_turned version schema (behind_member {t = t} {x = x} {ms = ms} h) seen e = later (refs_turned version schema h (with_name seen (text_of t)) (own_right version schema (OfKind HeldRef) seen t x ms e).others)

refs_near : (version schema room : ℕ) (of_schema : Bool) {o p : Option Json} → Near o p → ((x : Json) → o ≡ some x → defects version schema of_schema (ByName room (OfKind HeldRef)) x ≡ [])
    → Exchanged NamedRef (refs_of (members_at o)) (refs_of (members_at p))
unfolding defects
refs_near version schema room of_schema alike e = kept
refs_near version schema room of_schema (near (in_array h)) e = kept
refs_near version schema room of_schema (near (in_object {place = place} {ms = ms} {closed = closed} h)) e =
    refs_turned version schema h [] (no_both (unless (leb (members_count ms) room) place over_capacity) (named_defects version schema (OfKind HeldRef) [] ms) (e (Object place ms closed) refl)).1

-- ---- a record under a name

record_near : {A : Type 0} (version : ℕ) (kind : FileKind) (make : Members → A) → Good version kind make → (schema : ℕ) {o p : Option Json} → Near o p
    → ((x : Json) → o ≡ some x → defects version schema false (OfKind kind) x ≡ []) → make (members_at o) ≡ make (members_at p)
record_near version kind make g schema alike e = refl
record_near version kind make g schema (near {x = x} h) e = record_turned version kind make g h schema (e x refl)

-- ---- what is skipped, and the version

skip_two : (version n : ℕ) (a b : Bool) → cond a (cond b n (suc n)) (suc (cond b n (suc n))) ≡ cond b (cond a n (suc n)) (suc (cond a n (suc n)))
skip_two version n true true = refl
skip_two version n true false = refl
skip_two version n false true = refl
skip_two version n false false = refl

pub skipped_turned : (version : ℕ) {ms ns : Members} → TurnedMembers ms ns → skipped_in version ms ≡ skipped_in version ns
unfolding skipped_in
skipped_turned version (turned {t = t} {u = u} {ms = ms}) = skip_two version (skipped_in version ms) (is_some (row_by (rows_in version TheFile) (text_of t))) (is_some (row_by (rows_in version TheFile) (text_of u)))
skipped_turned version (in_member h) = refl
skipped_turned version (behind_member {t = t} h) = ap (λ (n : ℕ). cond (is_some (row_by (rows_in version TheFile) (text_of t))) n (suc n)) (skipped_turned version h)

version_near : {o p : Option Json} → Near o p → version_at o ≡ version_at p
version_near alike = refl
version_near (near (in_array h)) = refl
version_near (near (in_object h)) = refl

-- ---- choices

-- the first choice need be the same only where it is taken
when : {A : Type 0} (b : Bool) {x u : A} (y : A) → (b ≡ true → x ≡ u) → cond b x y ≡ cond b u y
when true y h = h refl
when false y h = refl

-- what holds of a version where a test holds of it
by_version_lem : (P : ℕ → Type 0) (test : ℕ → Bool) → (test 1 ≡ true → P 1) → (test 2 ≡ true → P 2) → (test 3 ≡ true → P 3) → {version : ℕ} → Version version → test version ≡ true → P version
by_version_lem P test p q r one h = p h
by_version_lem P test p q r two h = q h
by_version_lem P test p q r three h = r h

abbrev PublishedIn : List ℕ → ℕ → Type 0
PublishedIn w version = is_some (published_as w (rows_in version TheFile)) ≡ true

-- ---- members of a file

module _ {version : ℕ} (v : Version version) (ms ns : Members) (h : TurnedMembers ms ns) (e : member_defects version 0 TheFile (rows_in version TheFile) [] ms ≡ []) where
  value_by : (w : List ℕ) → PublishedIn w version → Near (value_of w ms) (value_of w ns)
  value_by w p = value_near version 0 TheFile (rows_in version TheFile) w (or_left (not (skips_unknown TheFile)) p) h [] e

  -- one that every version publishes
  always : (name : String) → PublishedIn (bytes name) 1 → PublishedIn (bytes name) 2 → PublishedIn (bytes name) 3 → Near (value_of (bytes name) ms) (value_of (bytes name) ns)
  always name p q r = value_by (bytes name) (by_version_lem (PublishedIn (bytes name)) (λ n. true) (λ _. p) (λ _. q) (λ _. r) v refl)

  number_or : (name : String) → Near (value_of (bytes name) ms) (value_of (bytes name) ns) → number_or0 name ms ≡ number_or0 name ns
  number_or name k = ap (λ (o : Option ℤ). or_else o (pos 0)) (number_near k)

  pub version_turned : version_of ms ≡ version_of ns
  unfolding version_of rows_in row_in
  version_turned = version_near (always "format-version" refl refl refl)

  -- ---- tables

  list_by : {A : Type 0} (kind : FileKind) (make : Members → A) → Good version kind make → (name : String) (room : ℕ) → RowShape (rows_in version TheFile) (bytes name) (Several room (OfKind kind))
      → records_of make (items_by name ms) ≡ records_of make (items_by name ns)
  list_by kind make g name room r = list_kept version kind make g TheFile (bytes name) room r ms ns h 0 e

  snapshots_kept : records_of snapshot_of (items_by "snapshots" ms) ≡ records_of snapshot_of (items_by "snapshots" ns)
  unfolding rows_in row_in
  snapshots_kept = list_by HeldSnapshot snapshot_of (snapshot_good version) "snapshots" snapshot_room
      (row_shape v TheFile (bytes "snapshots") (Several snapshot_room (OfKind HeldSnapshot)) false false false refl refl refl)

  log_kept : records_of log_entry_of (items_by "snapshot-log" ms) ≡ records_of log_entry_of (items_by "snapshot-log" ns)
  unfolding rows_in row_in
  log_kept = list_by HeldLogEntry log_entry_of (log_good version) "snapshot-log" snapshot_log_room
      (row_shape v TheFile (bytes "snapshot-log") (Several snapshot_log_room (OfKind HeldLogEntry)) false false false refl refl refl)

  files_kept : records_of file_entry_of (items_by "metadata-log" ms) ≡ records_of file_entry_of (items_by "metadata-log" ns)
  unfolding rows_in row_in
  files_kept = list_by HeldFileEntry file_entry_of (file_good version) "metadata-log" metadata_log_room
      (row_shape v TheFile (bytes "metadata-log") (Several metadata_log_room (OfKind HeldFileEntry)) false false false refl refl refl)

  schemas_kept : records_of schema_of (items_by "schemas" ms) ≡ records_of schema_of (items_by "schemas" ns)
  unfolding rows_in row_in
  schemas_kept = list_by HeldSchema schema_of (schema_good v) "schemas" schema_room
      (row_shape v TheFile (bytes "schemas") (Several schema_room (OfKind HeldSchema)) false true true refl refl refl)

  orders_kept : records_of order_of (items_by "sort-orders" ms) ≡ records_of order_of (items_by "sort-orders" ns)
  unfolding rows_in row_in
  orders_kept = list_by HeldOrder order_of (order_good v) "sort-orders" sort_order_room
      (row_shape v TheFile (bytes "sort-orders") (Several sort_order_room (OfKind HeldOrder)) false true true refl refl refl)

  specs_kept : records_of spec_of (items_by "partition-specs" ms) ≡ records_of spec_of (items_by "partition-specs" ns)
  unfolding rows_in row_in
  specs_kept = list_by HeldSpec spec_of (spec_good v) "partition-specs" spec_room
      (row_shape v TheFile (bytes "partition-specs") (Several spec_room (OfKind HeldSpec)) false true true refl refl refl)

  statistics_kept : records_of statistics_of (items_by "statistics" ms) ≡ records_of statistics_of (items_by "statistics" ns)
  unfolding rows_in row_in
  statistics_kept = list_by HeldStatistics statistics_of (statistics_good version HeldStatistics refl) "statistics" statistics_room
      (row_shape v TheFile (bytes "statistics") (Several statistics_room (OfKind HeldStatistics)) false false false refl refl refl)

  partitions_kept : records_of statistics_of (items_by "partition-statistics" ms) ≡ records_of statistics_of (items_by "partition-statistics" ns)
  unfolding rows_in row_in
  partitions_kept = list_by HeldPartitionStatistics statistics_of (statistics_good version HeldPartitionStatistics refl) "partition-statistics" statistics_room
      (row_shape v TheFile (bytes "partition-statistics") (Several statistics_room (OfKind HeldPartitionStatistics)) false false false refl refl refl)

  -- ---- what version 1 has alone

  single_row : eqb version 1 ≡ true → published_as (bytes "schema") (rows_in version TheFile) ≡ some (listed (bytes "schema") (OfKind HeldSchema) true)
  unfolding rows_in row_in
  single_row q =
      by_version_lem (λ (n : ℕ). published_as (bytes "schema") (rows_in n TheFile) ≡ some (listed (bytes "schema") (OfKind HeldSchema) true)) (λ (n : ℕ). eqb n 1)
      (λ _. refl) (λ n. absurd (false≢true n)) (λ n. absurd (false≢true n)) v q

  single_schema : eqb version 1 ≡ true → schema_of (members_by "schema" ms) ≡ schema_of (members_by "schema" ns)
  single_schema q =
      record_near version HeldSchema schema_of (schema_good v) 0 (value_by (bytes "schema") (ap is_some (single_row q)))
      (λ x k. value_said_lem version 0 TheFile (rows_in version TheFile) (bytes "schema") (listed (bytes "schema") (OfKind HeldSchema) true) (single_row q) ms [] e refl x k)

  single_spec_lem : eqb version 1 ≡ true → spec_fields_of (items_by "partition-spec" ms) ≡ spec_fields_of (items_by "partition-spec" ns)
  unfolding rows_in row_in
  single_spec_lem q =
      ap (with_position 0) (list_by HeldPartitionField partition_field_of (partition_field_good version) "partition-spec" partition_field_room
      (by_version_lem (λ (n : ℕ). RowShape (rows_in n TheFile) (bytes "partition-spec") (Several partition_field_room (OfKind HeldPartitionField))) (λ (n : ℕ). eqb n 1)
      (λ _. record { row = listed (bytes "partition-spec") (Several partition_field_room (OfKind HeldPartitionField)) true; found = refl; is = refl }) (λ n. absurd (false≢true n)) (λ n. absurd (false≢true n)) v q))

  -- ---- refs

  refs_exchanged : Exchanged NamedRef (refs_of (members_by "refs" ms)) (refs_of (members_by "refs" ns))
  unfolding rows_in row_in
  refs_exchanged =
      let r : RowShape (rows_in version TheFile) (bytes "refs") (ByName ref_room (OfKind HeldRef)) = row_shape v TheFile (bytes "refs") (ByName ref_room (OfKind HeldRef)) false false false refl refl refl in
      refs_near version 0 ref_room r.row.of_schema (value_by (bytes "refs") (ap is_some r.found))
      (λ x k. ap (λ (shape : FileShape). defects version 0 r.row.of_schema shape x) (sym r.is) ∙ value_said_lem version 0 TheFile (rows_in version TheFile) (bytes "refs") r.row r.found ms [] e refl x k)

  none_there : (o : Option Json) → is_some o ≡ false → refs_of (members_at o) ≡ []
  none_there none n = refl
  none_there (some x) n = absurd (true≢false n)

  module _ (f : Formed (metadata_of version ms)) where
    -- where refs are absent there are none to put in order
    refs_ascend : ascending ref_below (sorted ref_below (refs_of (members_by "refs" ms))) ≡ true
    unfolding metadata_of sorted
    refs_ascend =
        cases (has "refs" ms)
        (λ q. rw q at f.refs.order)
        (λ q. ap (λ (l : List NamedRef). ascending ref_below (sorted ref_below l)) (none_there (value_of (bytes "refs") ms) q))

    -- ---- all of it

    schema_decides_lem : schema_decides version ms ≡ schema_decides version ns
    unfolding rows_in row_in
    schema_decides_lem = λ i. eqb version 1 && not (has_near (always "schemas" refl refl refl) i && has_near (always "current-schema-id" refl refl refl) i)

    spec_decides_lem : spec_decides version ms ≡ spec_decides version ns
    unfolding rows_in row_in
    spec_decides_lem = λ i. eqb version 1 && not (has_near (always "partition-specs" refl refl refl) i && has_near (always "default-spec-id" refl refl refl) i)

    schemas_said : schemas_of version ms ≡ schemas_of version ns
    schemas_said =
        when (schema_decides version ms) (records_of schema_of (items_by "schemas" ms)) (λ q. ap (λ (s : Schema). s ∷ []) (single_schema (and_left (eqb version 1) _ q)))
        ∙ (λ i. cond (schema_decides_lem i) (schema_of (members_by "schema" ns) ∷ []) (schemas_kept i))

    specs_said : specs_of version ms ≡ specs_of version ns
    specs_said =
        when (spec_decides version ms) (records_of spec_of (items_by "partition-specs" ms)) (λ q. λ i. record { id = pos 0; fields = single_spec_lem (and_left (eqb version 1) _ q) i } ∷ [])
        ∙ (λ i. cond (spec_decides_lem i) (record { id = pos 0; fields = spec_fields_of (items_by "partition-spec" ns) } ∷ []) (specs_kept i))

    pub file_turned : Same version ms ns
    unfolding rows_in row_in
    file_turned = record {
      has_uuid = has_near (always "table-uuid" refl refl refl);
      uuid = text_near (always "table-uuid" refl refl refl);
      location = text_near (always "location" refl refl refl);
      last_updated = number_or "last-updated-ms" (always "last-updated-ms" refl refl refl);
      last_sequence = when (ltb 1 version) (pos 0) (λ q. number_or "last-sequence-number" (value_by (bytes "last-sequence-number")
          (by_version_lem (PublishedIn (bytes "last-sequence-number")) (λ (n : ℕ). ltb 1 n) (λ n. absurd (false≢true n)) (λ _. refl) (λ _. refl) v q)));
      next_row = when (ltb 2 version) 0 (λ q. ap natural_of (number_or "next-row-id" (value_by (bytes "next-row-id")
          (by_version_lem (PublishedIn (bytes "next-row-id")) (λ (n : ℕ). ltb 2 n) (λ n. absurd (false≢true n)) (λ n. absurd (false≢true n)) (λ _. refl) v q))));
      last_column = number_or "last-column-id" (always "last-column-id" refl refl refl);
      current = number_near (always "current-snapshot-id" refl refl refl);
      current_schema = when (schema_decides version ms) (number_or0 "current-schema-id" ms) (λ q. ap (λ (s : Schema). s.id) (single_schema (and_left (eqb version 1) _ q)))
          ∙ (λ i. cond (schema_decides_lem i) (schema_of (members_by "schema" ns)).id (number_or "current-schema-id" (always "current-schema-id" refl refl refl) i));
      default_order = number_or "default-sort-order-id" (always "default-sort-order-id" refl refl refl);
      default_spec = λ i. cond (spec_decides_lem i) (pos 0) (number_or "default-spec-id" (always "default-spec-id" refl refl refl) i);
      last_partition = number_near (always "last-partition-id" refl refl refl);
      largest = ap largest_id specs_said;
      snapshots = ap (sorted snapshot_below) snapshots_kept;
      has_refs = has_near (always "refs" refl refl refl);
      refs = sorted_exchanged name_below names_ordered (λ (r : NamedRef). r.name) refs_exchanged refs_ascend;
      snapshot_log = log_kept;
      metadata_log = files_kept;
      schemas = ap (sorted schema_below) schemas_said;
      orders = λ i. sorted order_below (cond (has_near (always "sort-orders" refl refl refl) i) (orders_kept i) (record { id = pos 0; fields = [] } ∷ []));
      statistics = ap (sorted statistics_below) statistics_kept;
      partitions = ap (sorted statistics_below) partitions_kept;
      specs = ap (sorted spec_below) specs_said;
    }
