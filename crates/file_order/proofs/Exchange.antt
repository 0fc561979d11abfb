-- A file with the records of a table in another order says the same.
use Prim.Native.Nat.{ℕ, suc}
use Prim.Native.String.{String}
use mathlib.Core.Path.{◌≡◌, refl, sym, ap, ◌∙◌}
use mathlib.Core.Bool.{Bool, true, false, cond, not, ◌&&◌, true≢false}
use mathlib.Core.List.{List, [], ◌∷◌, ◌++◌, map}
use mathlib.Core.Option.{Option, none, some}
use lib.Dec.{eqb, leb, ltb}
use lib.IntN.{ℤ, pos}
use lib.Signed.{lt_z}
use borrow.Table.Steps.{cases}
use Rattle.rules.specs.Words.{is_some, or_else, some_with, highest, larger, ascending}
use Rattle.rules.specs.WellFormed.{ref_below, schema_below, order_below, spec_below}
use Rattle.rules.specs.Register.{Snapshot, Schema, SortOrder, PartitionField, PartitionSpec, StatisticsFile}
use Rattle.rules.proofs.Orders.{numbers_ordered}
use Rattle.json_rule.specs.Letters.{bytes}
use Rattle.json_rule.specs.Values.{text_of}
use Rattle.json_rule.specs.Tree.{over_capacity, Json, Array, Items, Members}
use Rattle.json_rule.specs.Members.{is_one_of, is_named, names_of, value_of, number_or0, items_by, members_by}
use Rattle.json_rule.specs.Records.{records_of, natural_of, snapshot_of, schema_of, order_of}
use Rattle.json_rule.specs.Defects.{unless, with_name, count_of}
use Rattle.file_rule.specs.Tables.{FileKind, TheFile, FileShape, Single, IdOrNull, Several, ByName, OfKind, Published, rows_in}
use Rattle.file_rule.specs.FileDefects.{version_of, row_by, defects, item_defects, member_defects}
use Rattle.file_rule.specs.Import.{sorted, log_entry_of, file_entry_of, statistics_of, spec_fields_of, spec_of, refs_of, has, schema_decides, spec_decides, largest_id, metadata_of, skipped_in}
use Rattle.file_round.proofs.Bounds.{Formed}
use Rattle.file_spacing.proofs.Said.{text_at, number_at, items_at, members_at, version_at}
use Rattle.file_spacing.proofs.Parts.{Same}
use Rattle.file_order.specs.Order.{ExchangedItems, exchanged, behind, tables, ExchangedIn, in_table, behind_table}
use Rattle.file_order.proofs.Names.{new_row}
use Rattle.file_order.proofs.Turning.{no_both, both_none, said_of, member_right, right_member}
use Rattle.file_order.proofs.Kept.{named_is}
use Rattle.file_order.proofs.Sorting.{Exchanged, kept, swapped, later, most_turned, sorted_exchanged}

-- ---- nothing is wrong

count_exchanged : {xs ys : Items} → ExchangedItems xs ys → count_of ys ≡ count_of xs
count_exchanged exchanged = refl
count_exchanged (behind h) = ap suc (count_exchanged h)

module _ (version schema : ℕ) where
  items_right : {xs ys : Items} → ExchangedItems xs ys → (each : FileShape) → item_defects version schema each xs ≡ [] → item_defects version schema each ys ≡ []
  unfolding defects
  items_right (exchanged {x = x} {y = y} {xs = xs}) each e =
      let h = no_both (defects version schema false each x) (defects version schema false each y ++ item_defects version schema each xs) e in
      let k = no_both (defects version schema false each y) (item_defects version schema each xs) h.1 in
      both_none k.0 (both_none h.0 k.1)
  items_right (behind {x = x} {xs = xs} h) each e =
      let k = no_both (defects version schema false each x) (item_defects version schema each xs) e in
      both_none k.0 (items_right h each k.1)

  array_right : {xs ys : Items} → ExchangedItems xs ys → (place : ℕ) (closed of_schema : Bool) (shape : FileShape) → defects version schema of_schema shape (Array place xs closed) ≡ []
      → defects version schema of_schema shape (Array place ys closed) ≡ []
  unfolding defects
  array_right {xs} {ys} h place closed of_schema (Several room each) e =
      let k = no_both (unless (leb (count_of xs) room) place over_capacity) (item_defects version schema each xs) e in
      both_none (ap (λ (n : ℕ). unless (leb n room) place over_capacity) (count_exchanged h) ∙ k.0) (items_right h each k.1)
  array_right h place closed of_schema (Single shape) e = e
  array_right h place closed of_schema IdOrNull e = e
  array_right h place closed of_schema (ByName room each) e = e
  array_right h place closed of_schema (OfKind kind) e = e

  said_right : {xs ys : Items} → ExchangedItems xs ys → (place : ℕ) (closed : Bool) (o : Option Published) → said_of version schema o (Array place xs closed) ≡ [] → said_of version schema o (Array place ys closed) ≡ []
  said_right h place closed none e = refl
  said_right h place closed (some r) e = array_right h place closed r.of_schema r.shape e

  pub members_right : (kind : FileKind) (rows : List Published) {ms ns : Members} → ExchangedIn ms ns → (seen : List (List ℕ)) → member_defects version schema kind rows seen ms ≡ [] → member_defects version schema kind rows seen ns ≡ []
  members_right kind rows (in_table {t = t} {place = place} {xs = xs} {ys = ys} {closed = closed} {ms = ms} q h) seen e =
      let r = member_right version schema kind rows seen t (Array place xs closed) ms e in
      right_member version schema kind rows seen t (Array place ys closed) ms (record { name = r.name; value = said_right h place closed (new_row rows seen (text_of t)) r.value; others = r.others })
  members_right kind rows (behind_table {t = t} {x = x} {ms = ms} {ns = ns} h) seen e =
      let r = member_right version schema kind rows seen t x ms e in
      right_member version schema kind rows seen t x ns (record { name = r.name; value = r.value; others = members_right kind rows h (with_name seen (text_of t)) r.others })

pub names_exchanged : {ms ns : Members} → ExchangedIn ms ns → names_of ns ≡ names_of ms
names_exchanged (in_table q h) = refl
names_exchanged (behind_table {t = t} h) = ap (λ (l : List (List ℕ)). elim (text_of t) [ none ↦ l | some name ↦ name ∷ l ]) (names_exchanged h)

pub skipped_exchanged : (version : ℕ) {ms ns : Members} → ExchangedIn ms ns → skipped_in version ms ≡ skipped_in version ns
unfolding skipped_in
skipped_exchanged version (in_table q h) = refl
skipped_exchanged version (behind_table {t = t} h) = ap (λ (n : ℕ). cond (is_some (row_by (rows_in version TheFile) (text_of t))) n (suc n)) (skipped_exchanged version h)

-- ---- the value of a name

data ExchangedAt : Option Json → Option Json → Type 0 where
  as_before : {o : Option Json} → ExchangedAt o o
  in_list : {place : ℕ} {xs ys : Items} {closed : Bool} → ExchangedItems xs ys → ExchangedAt (some (Array place xs closed)) (some (Array place ys closed))

either_at : (b : Bool) {x y : Json} {o p : Option Json} → ExchangedAt (some x) (some y) → ExchangedAt o p → ExchangedAt (cond b (some x) o) (cond b (some y) p)
either_at true h k = h
either_at false h k = k

value_at_lem : {ms ns : Members} → ExchangedIn ms ns → (w : List ℕ) → ExchangedAt (value_of w ms) (value_of w ns)
value_at_lem (in_table {t = t} q h) w = either_at (is_named w t) (in_list h) as_before
value_at_lem (behind_table {t = t} h) w = either_at (is_named w t) as_before (value_at_lem h w)

-- one that is no table
value_same : {ms ns : Members} → ExchangedIn ms ns → (w : List ℕ) → is_one_of tables w ≡ false → value_of w ms ≡ value_of w ns
value_same (in_table {t = t} {ms = ms} q h) w n =
    cases (is_named w t)
    (λ p. absurd (true≢false (sym q ∙ ap (λ (o : Option (List ℕ)). some_with (is_one_of tables) o) (named_is w (text_of t) p) ∙ n)))
    (λ p. rw p)
value_same (behind_table {t = t} {x = x} h) w n = ap (λ (o : Option Json). cond (is_named w t) (some x) o) (value_same h w n)

text_at_lem : {o p : Option Json} → ExchangedAt o p → text_at o ≡ text_at p
text_at_lem as_before = refl
text_at_lem (in_list h) = refl

number_at_lem : {o p : Option Json} → ExchangedAt o p → number_at o ≡ number_at p
number_at_lem as_before = refl
number_at_lem (in_list h) = refl

members_at_lem : {o p : Option Json} → ExchangedAt o p → members_at o ≡ members_at p
members_at_lem as_before = refl
members_at_lem (in_list h) = refl

has_at : {o p : Option Json} → ExchangedAt o p → is_some o ≡ is_some p
has_at as_before = refl
has_at (in_list h) = refl

version_at_lem : {o p : Option Json} → ExchangedAt o p → version_at o ≡ version_at p
version_at_lem as_before = refl
version_at_lem (in_list h) = refl

pub version_exchanged : {ms ns : Members} → ExchangedIn ms ns → version_of ms ≡ version_of ns
unfolding version_of
version_exchanged h = version_at_lem (value_at_lem h (bytes "format-version"))

-- ---- tables

records_exchanged : {A : Type 0} (make : Members → A) {xs ys : Items} → ExchangedItems xs ys → Exchanged A (records_of make xs) (records_of make ys)
records_exchanged make exchanged = swapped
records_exchanged make (behind h) = later (records_exchanged make h)

list_at : {A : Type 0} (make : Members → A) {o p : Option Json} → ExchangedAt o p → Exchanged A (records_of make (items_at o)) (records_of make (items_at p))
list_at make as_before = kept
list_at make (in_list h) = records_exchanged make h

largest_exchanged : {l m : List PartitionSpec} → Exchanged PartitionSpec l m → largest_id l ≡ largest_id m
largest_exchanged kept = refl
largest_exchanged (swapped {a = a} {b = b} {l = l}) = most_turned lt_z numbers_ordered (ids_of a) (ids_of b) (largest_id l)
  where
    ids_of : PartitionSpec → ℤ
    ids_of s = highest (map (λ (f : PartitionField). or_else f.id (pos 0)) s.fields)
largest_exchanged (later {a = a} h) = ap (λ (z : ℤ). larger (highest (map (λ (f : PartitionField). or_else f.id (pos 0)) a.fields)) z) (largest_exchanged h)

module _ {A : Type 0} (key : A → ℤ) where
  abbrev below : A → A → Bool
  below a b = lt_z (key a) (key b)

  -- a table, or what stands in its place
  table_first : (b : Bool) (single l m : List A) → Exchanged A l m → ascending below (sorted below (cond b single l)) ≡ true → sorted below (cond b single l) ≡ sorted below (cond b single m)
  table_first true single l m h e = refl
  table_first false single l m h e = sorted_exchanged lt_z numbers_ordered key h e

  table_last : (b : Bool) (single l m : List A) → Exchanged A l m → ascending below (sorted below (cond b l single)) ≡ true → sorted below (cond b l single) ≡ sorted below (cond b m single)
  table_last true single l m h e = sorted_exchanged lt_z numbers_ordered key h e
  table_last false single l m h e = refl

-- ---- all of it

module _ (version : ℕ) (ms ns : Members) (h : ExchangedIn ms ns) (f : Formed (metadata_of version ms)) where
  value_by : (name : String) → ExchangedAt (value_of (bytes name) ms) (value_of (bytes name) ns)
  value_by name = value_at_lem h (bytes name)

  number_or : (name : String) → number_or0 name ms ≡ number_or0 name ns
  number_or name = ap (λ (o : Option ℤ). or_else o (pos 0)) (number_at_lem (value_by name))

  items_same : (name : String) → is_one_of tables (bytes name) ≡ false → items_by name ms ≡ items_by name ns
  items_same name n = ap items_at (value_same h (bytes name) n)

  schema_decides_lem : schema_decides version ms ≡ schema_decides version ns
  schema_decides_lem = λ i. eqb version 1 && not (has_at (value_by "schemas") i && has_at (value_by "current-schema-id") i)

  spec_decides_lem : spec_decides version ms ≡ spec_decides version ns
  spec_decides_lem = λ i. eqb version 1 && not (has_at (value_by "partition-specs") i && has_at (value_by "default-spec-id") i)

  single_schema : schema_of (members_by "schema" ms) ≡ schema_of (members_by "schema" ns)
  single_schema = ap schema_of (members_at_lem (value_by "schema"))

  abbrev single_spec : Members → PartitionSpec
  single_spec ks = record { id = pos 0; fields = spec_fields_of (items_by "partition-spec" ks) }

  single_spec_lem : single_spec ms ≡ single_spec ns
  single_spec_lem = λ i. record { id = pos 0; fields = spec_fields_of (items_same "partition-spec" refl i) }

  largest_spec : (b : Bool) → largest_id (cond b (single_spec ms ∷ []) (records_of spec_of (items_by "partition-specs" ms))) ≡ largest_id (cond b (single_spec ms ∷ []) (records_of spec_of (items_by "partition-specs" ns)))
  largest_spec true = refl
  largest_spec false = largest_exchanged (list_at spec_of (value_by "partition-specs"))

  pub file_exchanged : Same version ms ns
  unfolding metadata_of
  file_exchanged = record {
    has_uuid = has_at (value_by "table-uuid");
    uuid = text_at_lem (value_by "table-uuid");
    location = text_at_lem (value_by "location");
    last_updated = number_or "last-updated-ms";
    last_sequence = ap (λ (n : ℤ). cond (ltb 1 version) n (pos 0)) (number_or "last-sequence-number");
    next_row = ap (λ (n : ℤ). cond (ltb 2 version) (natural_of n) 0) (number_or "next-row-id");
    last_column = number_or "last-column-id";
    current = number_at_lem (value_by "current-snapshot-id");
    current_schema = λ i. cond (schema_decides_lem i) (single_schema i).id (number_or "current-schema-id" i);
    default_order = number_or "default-sort-order-id";
    default_spec = λ i. cond (spec_decides_lem i) (pos 0) (number_or "default-spec-id" i);
    last_partition = number_at_lem (value_by "last-partition-id");
    largest = largest_spec (spec_decides version ms) ∙ (λ i. largest_id (cond (spec_decides_lem i) (single_spec_lem i ∷ []) (records_of spec_of (items_by "partition-specs" ns))));
    snapshots = sorted_exchanged lt_z numbers_ordered (λ (s : Snapshot). s.id) (list_at snapshot_of (value_by "snapshots")) f.snapshots.order;
    has_refs = has_at (value_by "refs");
    refs = ap (λ (ks : Members). sorted ref_below (refs_of ks)) (members_at_lem (value_by "refs"));
    snapshot_log = ap (records_of log_entry_of) (items_same "snapshot-log" refl);
    metadata_log = ap (records_of file_entry_of) (items_same "metadata-log" refl);
    schemas =
        table_first (λ (s : Schema). s.id) (schema_decides version ms) (schema_of (members_by "schema" ms) ∷ []) (records_of schema_of (items_by "schemas" ms)) (records_of schema_of (items_by "schemas" ns)) (list_at schema_of (value_by "schemas")) f.schemas.order
        ∙ (λ i. sorted schema_below (cond (schema_decides_lem i) (single_schema i ∷ []) (records_of schema_of (items_by "schemas" ns))));
    orders =
        table_last (λ (s : SortOrder). s.id) (has "sort-orders" ms) (record { id = pos 0; fields = [] } ∷ []) (records_of order_of (items_by "sort-orders" ms)) (records_of order_of (items_by "sort-orders" ns)) (list_at order_of (value_by "sort-orders")) f.orders.order
        ∙ (λ i. sorted order_below (cond (has_at (value_by "sort-orders") i) (records_of order_of (items_by "sort-orders" ns)) (record { id = pos 0; fields = [] } ∷ [])));
    statistics = sorted_exchanged lt_z numbers_ordered (λ (s : StatisticsFile). s.snapshot) (list_at statistics_of (value_by "statistics")) f.statistics.order;
    partitions = sorted_exchanged lt_z numbers_ordered (λ (s : StatisticsFile). s.snapshot) (list_at statistics_of (value_by "partition-statistics")) f.partitions.order;
    specs =
        table_first (λ (s : PartitionSpec). s.id) (spec_decides version ms) (single_spec ms ∷ []) (records_of spec_of (items_by "partition-specs" ms)) (records_of spec_of (items_by "partition-specs" ns)) (list_at spec_of (value_by "partition-specs")) f.specs.order
        ∙ (λ i. sorted spec_below (cond (spec_decides_lem i) (single_spec_lem i ∷ []) (records_of spec_of (items_by "partition-specs" ns))));
  }
