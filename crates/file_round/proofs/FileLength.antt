-- The longest file has 339,202 bytes. It is of version 1, which has the current schema and the fields of the default spec once more, and it has no current
-- snapshot: where there is one, the ref `main` has its short name.
use Prim.Native.Nat.{ℕ, zero, suc, ◌+◌, ◌*◌, ◌≤◌}
use native.Mathlib.Omega.{arith}
use mathlib.Core.Path.{◌≡◌, refl, ◌∙◌, sym, ap}
use mathlib.Core.Bool.{Bool, true, false, cond, ◌&&◌, ◌||◌, beq, false≢true}
use mathlib.Core.List.{List, [], ◌∷◌, ◌++◌}
use mathlib.Core.Option.{Option, none, some}
use lib.Dec.{leb}
use lib.IntN.{ℤ, pos}
use lib.ListN.{length, length-append}
use lib.Signed.{non_neg}
use borrow.Author.Tests.{leb-true}
use Rattle.rules.specs.Words.{is_some, if_some, or_else, same_option, eq_z, all, any, first, is_empty, unequal_by, unequal, same_bytes}
use Rattle.rules.specs.Capacities.{ref_room, schema_field_room, sort_field_room}
use Rattle.rules.specs.Names.{main_name, is_main}
use Rattle.rules.specs.Register.{Snapshot, NamedRef, LogEntry, FileEntry, Schema, SortOrder, PartitionSpec, StatisticsFile, Metadata}
use Rattle.rules.specs.WellFormed.{name_formed, reference_formed, owner_formed, ref_formed, snapshot_formed, schema_field_formed, field_ids, field_names, schema_formed, sort_field_formed, offered_order_formed, order_formed, spec_formed, file_name_formed, statistics_file_formed, main_ref, main_snapshot, metadata_formed}
use Rattle.rules.proofs.Checks.{parts, both, and_left, and_right, by_either}
use Rattle.rules.proofs.Orders.{eq_z_equal, names_told_lem}
use Rattle.rules.proofs.Tables.{all_then, all_first, first_any}
use Rattle.file_rule.specs.Written.{digits_in, number_text, escaped_byte, quoted}
use Rattle.file_rule.specs.Files.{hex_byte, uuid_from, uuid_text, file_text}
use Rattle.file_rule.specs.Export.{is_shown}
use Rattle.file_rule.specs.Fits.{fits32, fits64, snapshot_fits, ref_fits, log_entry_fits, file_entry_fits, schema_fits, order_fits, spec_fits, statistics_fits, metadata_fits}
use Rattle.file_round.proofs.Documents.{Document, Entries, Record, entry, bytes_of, bytes_of_members}
use Rattle.file_round.proofs.Plain.{is_byte, dash, uuid_text_lem}
use Rattle.file_round.proofs.Fields.{field, field_if, field_text, fields_text, number, flat}
use Rattle.file_round.proofs.Scalars.{Version, one, two, three}
use Rattle.file_round.proofs.Lists.{listing, all_both}
use Rattle.file_round.proofs.Snapshots.{snapshot_show}
use Rattle.file_round.proofs.Refs.{reference_show, ref_entries, refs_show}
use Rattle.file_round.proofs.Logs.{log_show, file_show as entryShow, statistics_show}
use Rattle.file_round.proofs.Schemas.{schema_show, order_show}
use Rattle.file_round.proofs.Specs.{part_show, spec_show}
use Rattle.file_round.proofs.File.{Bounds, held_schema, default_fields, head_groups, schema_groups, spec_groups, snapshot_groups, tail_groups, file_show, file_written}
use Rattle.file_round.proofs.Bounds.{Formed, formed, InRecords, in_records, version_formed_lem, metadata_bounds}
use Rattle.file_round.proofs.Length.{length32, length64, any32, any64, length_unsigned, quoted_length, size, total, field_length, token_length, first_length, fields_length, flat_length, object_whole, list_length}
use Rattle.file_round.proofs.Sizes.{snapshot_size, snapshot_length, reference_length, log_length, file_length, statistics_length, schema_length, order_length, spec_fields_lem, parts_length, spec_length}

-- ---- refs

-- what the short name of `main` saves
abbrev saved : List NamedRef → ℕ
saved l = cond (any (λ (r : NamedRef). is_main r.name) l) 188 0

abbrev ref_holds : NamedRef → Bool
ref_holds r = ref_formed r && ref_fits r

reference_within : (r : NamedRef) → ref_holds r ≡ true → length (bytes_of (reference_show r.reference)) ≤ 165
reference_within r h =
    reference_length r.reference (parts (name_formed r.name) (reference_formed r.reference ∷ owner_formed r ∷ []) (and_left (ref_formed r) (ref_fits r) h)).1.0 (and_right (ref_formed r) (ref_fits r) h)

name_within : (r : NamedRef) → ref_holds r ≡ true → length (quoted r.name) ≤ 194
name_within r h = quoted_length 32 r.name (parts (name_formed r.name) (reference_formed r.reference ∷ owner_formed r ∷ []) (and_left (ref_formed r) (ref_fits r) h)).0

main_short : (name : List ℕ) → is_main name ≡ true → length (quoted name) ≡ 6
unfolding quoted escaped_byte
main_short name h = ap (λ n. length (quoted n)) (names_told_lem.equal name main_name h)

members_length : (l : List NamedRef) → all ref_holds l ≡ true → length (bytes_of_members (ref_entries l)) + saved l ≤ length l * 361
unfolding bytes_of
members_length [] h = omega arith
members_length (r ∷ l) h = go (is_main r.name) refl (members_length l (and_right (ref_holds r) (all ref_holds l) h))
  where
    m : length (bytes_of_members (ref_entries (r ∷ l))) ≡ length (quoted r.name) + 2 + length (bytes_of (reference_show r.reference)) + length (bytes_of_members (ref_entries l))
    m =
        let inside = bytes_of (reference_show r.reference) ++ bytes_of_members (ref_entries l) in
        omega (arith, length-append (quoted r.name) (58 ∷ inside), length-append (bytes_of (reference_show r.reference)) (bytes_of_members (ref_entries l)))

    go : (b : Bool) → is_main r.name ≡ b → length (bytes_of_members (ref_entries l)) + saved l ≤ length l * 361
        → length (bytes_of_members (ref_entries (r ∷ l))) + cond (b || any (λ (x : NamedRef). is_main x.name) l) 188 0 ≤ suc (length l) * 361
    go true e k = omega (arith, m, main_short r.name e, reference_within r (and_left (ref_holds r) (all ref_holds l) h))
    go false e k = omega (arith, m, name_within r (and_left (ref_holds r) (all ref_holds l) h), reference_within r (and_left (ref_holds r) (all ref_holds l) h))

-- brackets in place of the first comma
record_length : (name : List ℕ) (d : Document) (es : Entries) → length (bytes_of (Record (entry name d es))) ≡ suc (length (bytes_of_members (entry name d es)))
unfolding bytes_of
record_length name d es = omega (arith, length-append (quoted name ++ (58 ∷ bytes_of d ++ bytes_of_members es)) (125 ∷ []))

refs_length : (l : List NamedRef) → all ref_holds l ≡ true → leb (length l) ref_room ≡ true → length (bytes_of (refs_show l)) + saved l ≤ 5777
unfolding bytes_of
refs_length [] h c = omega arith
refs_length (r ∷ l) h c =
    let k : suc (length l) ≤ 16 = leb-true (suc (length l)) 16 c in
    omega (arith, record_length r.name (reference_show r.reference) (ref_entries l), members_length (r ∷ l) h)

-- a current snapshot and all names at their longest do not go together
record Shares (o : Option ℤ) (l : List NamedRef) : Type 0 where
  current : ℕ
  refs : ℕ
  current_within : length (field_text (field_if "current-snapshot-id" number o)) ≤ current
  refs_within : length (field_text (field "refs" (refs_show l))) ≤ refs
  together : current + refs ≤ 5785

main_there : (l : List NamedRef) (z : ℤ) → same_option eq_z (some z) (main_snapshot l) ≡ true → saved l ≡ 188
main_there l z h = ap (λ b. cond b 188 0) (sym (first_any (λ (r : NamedRef). is_main r.name) l) ∙ go (main_ref l) h)
  where
    go : (o : Option NamedRef) → same_option eq_z (some z) (elim o [ none ↦ none | some r ↦ some r.reference.snapshot ]) ≡ true → is_some o ≡ true
    go none e = absurd (false≢true e)
    go (some r) e = refl

number_within : (z : ℤ) → non_neg z ≡ true → fits64 z ≡ true → length (bytes_of (number z)) ≤ 19
unfolding bytes_of
number_within z n f = length64 z n f

shares : (o : Option ℤ) (l : List NamedRef) → same_option eq_z o (main_snapshot l) ≡ true → if_some non_neg o ≡ true → if_some fits64 o ≡ true → length (bytes_of (refs_show l)) + saved l ≤ 5777 → Shares o l
unfolding quoted escaped_byte
shares none l h n f k = record { current = 0; refs = 5785; current_within = omega arith; refs_within = field_length "refs" (refs_show l) 5777 (omega arith); together = omega arith }
shares (some z) l h n f k =
    record {
      current = 42;
      refs = 5597;
      current_within = field_length "current-snapshot-id" (number z) 19 (number_within z n f);
      refs_within = field_length "refs" (refs_show l) 5589 (omega (arith, main_there l z h));
      together = omega arith;
    }

-- ---- the uuid

abbrev dashes : ℕ → ℕ → ℕ
dashes i zero = 0
dashes i (suc n) = length (dash i) + dashes (1 + i) n

uuid_from_lem : (i : ℕ) (bs : List ℕ) → length (uuid_from i bs) ≡ dashes i (length bs) + 2 * length bs
uuid_from_lem i [] = omega arith
uuid_from_lem i (b ∷ bs) = omega (arith, length-append (dash i ++ hex_byte b) (uuid_from (1 + i) bs), length-append (dash i) (hex_byte b), uuid_from_lem (1 + i) bs)

uuid_length : (bs : List ℕ) → length bs ≡ 16 → all is_byte bs ≡ true → length (quoted (uuid_from 0 bs)) ≡ 38
unfolding uuid_text
uuid_length bs h k =
    sym (ap length (uuid_text_lem bs k)) ∙ ap suc (length-append (uuid_from 0 bs) (34 ∷ [])) ∙ ap (λ n. suc (n + 1)) (uuid_from_lem 0 bs) ∙ ap (λ n. suc (dashes 0 n + 2 * n + 1)) h

-- ---- the file

record Facts (version : ℕ) (m : Metadata) : Type 0 where
  shares : Shares m.fields.current m.refs
  uuid : length (quoted (uuid_from 0 m.fields.uuid)) ≤ 38
  location : length (quoted m.fields.location) ≤ 578
  last_sequence : length (number_text m.fields.last_sequence.0) ≤ 19
  last_updated : length (number_text m.fields.last_updated) ≤ 20
  last_column : length (number_text m.fields.last_column) ≤ 11
  one_schema : length (bytes_of (schema_show (held_schema m))) ≤ 8243
  schemas : length (bytes_of (listing schema_show m.schemas)) ≤ 131905
  current_schema : length (number_text m.fields.current_schema) ≤ 10
  one_spec : length (bytes_of (listing part_show (default_fields m))) ≤ 2257
  specs : length (bytes_of (listing spec_show m.specs)) ≤ 36641
  default_spec : length (number_text m.fields.default_spec) ≤ 10
  last_partition : length (number_text m.fields.last_partition) ≤ 10
  snapshots : length (bytes_of (listing (snapshot_show version) m.snapshots)) ≤ suc (64 * suc (snapshot_size version))
  log : length (bytes_of (listing log_show m.snapshot_log)) ≤ 9217
  files : length (bytes_of (listing entryShow m.metadata_log)) ≤ 81025
  orders : length (bytes_of (listing order_show m.orders)) ≤ 12737
  default_order : length (number_text m.fields.default_order) ≤ 19
  statistics : length (bytes_of (listing statistics_show m.statistics)) ≤ 21569
  partitions : length (bytes_of (listing statistics_show m.partition_statistics)) ≤ 21569
  next_row : length (number_text (pos m.fields.next_row.0)) ≤ 20

version_length : {version : ℕ} → Version version → length (number_text (pos version)) ≤ 1
unfolding number_text digits_in
version_length one = omega arith
version_length two = omega arith
version_length three = omega arith

-- group by group: what version 2 added, and what only version 1 has
module _ (m : Metadata) {version : ℕ} (f : Facts version m) where
  later_head : length (fields_text (flat (head_groups 2 m))) ≤ 753
  unfolding quoted escaped_byte
  later_head =
      fields_length (flat (head_groups 2 m)) (52 ∷ 590 ∷ 43 ∷ 39 ∷ 29 ∷ [])
      (token_length "table-uuid" (quoted (uuid_from 0 m.fields.uuid)) 38 f.uuid, (token_length "location" (quoted m.fields.location) 578 f.location, (token_length "last-sequence-number" (number_text m.fields.last_sequence.0) 19 f.last_sequence, (token_length "last-updated-ms" (number_text m.fields.last_updated) 20 f.last_updated, (token_length "last-column-id" (number_text m.fields.last_column) 11 f.last_column, tt)))))

  head_length : {w : ℕ} → Version w → length (fields_text (flat (head_groups w m))) ≤ cond (leb 2 w) 753 710
  unfolding quoted escaped_byte
  head_length one =
      fields_length (flat (head_groups 1 m)) (52 ∷ 590 ∷ 39 ∷ 29 ∷ [])
      (token_length "table-uuid" (quoted (uuid_from 0 m.fields.uuid)) 38 f.uuid, (token_length "location" (quoted m.fields.location) 578 f.location, (token_length "last-updated-ms" (number_text m.fields.last_updated) 20 f.last_updated, (token_length "last-column-id" (number_text m.fields.last_column) 11 f.last_column, tt))))
  head_length two = later_head
  head_length three = later_head

  later_schemas : length (fields_text (flat (schema_groups 2 m))) ≤ 131947
  unfolding quoted escaped_byte
  later_schemas =
      fields_length (flat (schema_groups 2 m)) (131916 ∷ 31 ∷ []) (field_length "schemas" (listing schema_show m.schemas) 131905 f.schemas, (token_length "current-schema-id" (number_text m.fields.current_schema) 10 f.current_schema, tt))

  schemas_length : {w : ℕ} → Version w → length (fields_text (flat (schema_groups w m))) ≤ cond (leb 2 w) 131947 140200
  unfolding quoted escaped_byte
  schemas_length one = first_length (field "schema" (schema_show (held_schema m))) (flat (schema_groups 2 m)) 8253 131947 (field_length "schema" (schema_show (held_schema m)) 8243 f.one_schema) later_schemas
  schemas_length two = later_schemas
  schemas_length three = later_schemas

  later_specs : length (fields_text (flat (spec_groups 2 m))) ≤ 36720
  unfolding quoted escaped_byte
  later_specs =
      fields_length (flat (spec_groups 2 m)) (36660 ∷ 29 ∷ 31 ∷ [])
      (field_length "partition-specs" (listing spec_show m.specs) 36641 f.specs, (token_length "default-spec-id" (number_text m.fields.default_spec) 10 f.default_spec, (token_length "last-partition-id" (number_text m.fields.last_partition) 10 f.last_partition, tt)))

  specs_length : {w : ℕ} → Version w → length (fields_text (flat (spec_groups w m))) ≤ cond (leb 2 w) 36720 38995
  unfolding quoted escaped_byte
  specs_length one = first_length (field "partition-spec" (listing part_show (default_fields m))) (flat (spec_groups 2 m)) 2275 36720 (field_length "partition-spec" (listing part_show (default_fields m)) 2257 f.one_spec) later_specs
  specs_length two = later_specs
  specs_length three = later_specs

  snapshots_length : length (fields_text (flat (snapshot_groups version m))) ≤ total (f.shares.current ∷ size "snapshots" (suc (64 * suc (snapshot_size version))) ∷ 9233 ∷ 81041 ∷ [])
  unfolding quoted escaped_byte
  snapshots_length =
      fields_length (flat (snapshot_groups version m)) (f.shares.current ∷ size "snapshots" (suc (64 * suc (snapshot_size version))) ∷ 9233 ∷ 81041 ∷ [])
      (f.shares.current_within, (field_length "snapshots" (listing (snapshot_show version) m.snapshots) (suc (64 * suc (snapshot_size version))) f.snapshots, (field_length "snapshot-log" (listing log_show m.snapshot_log) 9217 f.log, (field_length "metadata-log" (listing entryShow m.metadata_log) 81025 f.files, tt))))

  early_tail : length (fields_text (flat (tail_groups 1 m))) ≤ total (12752 ∷ 44 ∷ f.shares.refs ∷ 21583 ∷ 21593 ∷ [])
  unfolding quoted escaped_byte
  early_tail =
      fields_length (flat (tail_groups 1 m)) (12752 ∷ 44 ∷ f.shares.refs ∷ 21583 ∷ 21593 ∷ [])
      (field_length "sort-orders" (listing order_show m.orders) 12737 f.orders, (token_length "default-sort-order-id" (number_text m.fields.default_order) 19 f.default_order, (f.shares.refs_within, (field_length "statistics" (listing statistics_show m.statistics) 21569 f.statistics, (field_length "partition-statistics" (listing statistics_show m.partition_statistics) 21569 f.partitions, tt)))))

  tail_length : {w : ℕ} → Version w → length (fields_text (flat (tail_groups w m))) ≤ total (12752 ∷ 44 ∷ f.shares.refs ∷ 21583 ∷ 21593 ∷ cond (leb 3 w) 35 0 ∷ [])
  unfolding quoted escaped_byte
  tail_length one = early_tail
  tail_length two = early_tail
  tail_length three =
      fields_length (flat (tail_groups 3 m)) (12752 ∷ 44 ∷ f.shares.refs ∷ 21583 ∷ 21593 ∷ 35 ∷ [])
      (field_length "sort-orders" (listing order_show m.orders) 12737 f.orders, (token_length "default-sort-order-id" (number_text m.fields.default_order) 19 f.default_order, (f.shares.refs_within, (field_length "statistics" (listing statistics_show m.statistics) 21569 f.statistics, (field_length "partition-statistics" (listing statistics_show m.partition_statistics) 21569 f.partitions, (token_length "next-row-id" (number_text (pos m.fields.next_row.0)) 20 f.next_row, tt))))))

-- the groups together
file_whole : (version : ℕ) (m : Metadata) → length (bytes_of (file_show version m))
    ≡ suc (length (field_text (field "format-version" (number (pos version)))) + (length (fields_text (flat (head_groups version m))) + (length (fields_text (flat (schema_groups version m))) + (length (fields_text (flat (spec_groups version m))) + (length (fields_text (flat (snapshot_groups version m))) + length (fields_text (flat (tail_groups version m))))))))
file_whole version m =
    let h = flat (head_groups version m) in
    let s = flat (schema_groups version m) in
    let p = flat (spec_groups version m) in
    let n = flat (snapshot_groups version m) in
    let t = flat (tail_groups version m) in
    omega (arith, object_whole "format-version" (number (pos version)) (flat (h ∷ s ∷ p ∷ n ∷ t ∷ [])), flat_length h (s ∷ p ∷ n ∷ t ∷ []), flat_length s (p ∷ n ∷ t ∷ []), flat_length p (n ∷ t ∷ []), flat_length n (t ∷ []), flat_length t [])

file_size : (m : Metadata) {version : ℕ} → Version version → Facts version m → length (bytes_of (file_show version m)) ≤ 339202
unfolding quoted escaped_byte
file_size m one f = omega (arith, file_whole 1 m, token_length "format-version" (number_text (pos 1)) 1 (version_length one), head_length m f one, schemas_length m f one, specs_length m f one, snapshots_length m f, tail_length m f one, f.shares.together)
file_size m two f = omega (arith, file_whole 2 m, token_length "format-version" (number_text (pos 2)) 1 (version_length two), head_length m f two, schemas_length m f two, specs_length m f two, snapshots_length m f, tail_length m f two, f.shares.together)
file_size m three f = omega (arith, file_whole 3 m, token_length "format-version" (number_text (pos 3)) 1 (version_length three), head_length m f three, schemas_length m f three, specs_length m f three, snapshots_length m f, tail_length m f three, f.shares.together)

-- ---- what well-formed metadata says of these

-- an id that one of a table has is not below 0, if none of its ids is
held_non_neg : {A : Type 0} (key : A → ℤ) (id : ℤ) (l : List A) → any (λ x. eq_z (key x) id) l ≡ true → all (λ x. non_neg (key x)) l ≡ true → non_neg id ≡ true
held_non_neg key id [] h k = absurd (false≢true h)
held_non_neg key id (x ∷ l) h k =
    by_either (eq_z (key x) id) (any (λ y. eq_z (key y) id) l) (λ e. rw (sym (eq_z_equal (key x) id e)) (and_left (non_neg (key x)) (all (λ y. non_neg (key y)) l) k))
    (λ e. held_non_neg key id l e (and_right (non_neg (key x)) (all (λ y. non_neg (key y)) l) k)) h

abbrev schema_holds : Schema → Bool
schema_holds s = schema_formed s && schema_fits s

abbrev spec_holds : PartitionSpec → Bool
spec_holds s = spec_formed s && spec_fits s

one_schema : (id : ℤ) (o : Option Schema) → non_neg id ≡ true → fits32 id ≡ true → if_some schema_holds o ≡ true → length (bytes_of (schema_show (or_else o (record { id = id; fields = [] })))) ≤ 8243
one_schema id none n f h = schema_length (record { id = id; fields = [] }) (both (both (both (both (both n refl) refl) refl) refl) (both f refl))
one_schema id (some s) n f h = schema_length s h

one_spec : (o : Option PartitionSpec) → if_some spec_holds o ≡ true → length (bytes_of (listing part_show (elim o [ none ↦ [] | some s ↦ s.fields ]))) ≤ 2257
one_spec none h = parts_length [] refl refl
one_spec (some s) h = let k = spec_fields_lem s h in parts_length s.fields k.0 k.1

schema_id_lem : (s : Schema) → schema_formed s ≡ true → non_neg s.id ≡ true
schema_id_lem s h = (parts (non_neg s.id) (leb (length s.fields) schema_field_room ∷ all schema_field_formed s.fields ∷ unequal (field_ids s) ∷ unequal_by same_bytes (field_names s) ∷ []) h).0

order_id : (o : SortOrder) → order_formed o ≡ true → non_neg o.id ≡ true
order_id o h =
    (parts (non_neg o.id) (leb (length o.fields) sort_field_room ∷ all sort_field_formed o.fields ∷ []) (and_left (offered_order_formed o) (beq (is_empty o.fields) (eq_z o.id (pos 0))) h)).0

spec_id_lem : (s : PartitionSpec) → spec_holds s ≡ true → non_neg s.id ≡ true
spec_id_lem s h = (spec_fields_lem s h).2

module _ (m : Metadata) {version : ℕ} (v : Version version) (b : Bounds version m) (f : Formed m) (r : InRecords m) where
  schemas_hold : all schema_holds m.schemas ≡ true
  schemas_hold = all_both schema_formed schema_fits m.schemas f.schemas.each r.schemas

  specs_hold : all spec_holds m.specs ≡ true
  specs_hold = all_both spec_formed spec_fits m.specs f.specs.each r.specs

  schema_non_neg : non_neg m.fields.current_schema ≡ true
  schema_non_neg = held_non_neg (λ (s : Schema). s.id) m.fields.current_schema m.schemas f.schema_held (all_then schema_formed (λ (s : Schema). non_neg s.id) schema_id_lem m.schemas f.schemas.each)

  order_non_neg : non_neg m.fields.default_order ≡ true
  order_non_neg = held_non_neg (λ (o : SortOrder). o.id) m.fields.default_order m.orders f.order_held (all_then order_formed (λ (o : SortOrder). non_neg o.id) order_id m.orders f.orders.each)

  spec_non_neg : non_neg m.fields.default_spec ≡ true
  spec_non_neg = held_non_neg (λ (s : PartitionSpec). s.id) m.fields.default_spec m.specs f.spec_held (all_then spec_holds (λ (s : PartitionSpec). non_neg s.id) spec_id_lem m.specs specs_hold)

  facts : Facts version m
  facts =
      record {
        shares = shares m.fields.current m.refs f.current b.current_held r.current (refs_length m.refs (all_both ref_formed ref_fits m.refs f.refs.each r.refs) f.refs.count);
        uuid = omega (arith, uuid_length m.fields.uuid b.uuid_length b.uuid_bytes);
        location = quoted_length 96 m.fields.location b.location;
        last_sequence = length64 m.fields.last_sequence.0 f.last_sequence r.last_sequence;
        last_updated = any64 m.fields.last_updated r.last_updated;
        last_column = any32 m.fields.last_column r.last_column;
        one_schema = one_schema m.fields.current_schema (first (λ (s : Schema). eq_z s.id m.fields.current_schema) m.schemas) schema_non_neg r.current_schema (all_first schema_holds (λ (s : Schema). eq_z s.id m.fields.current_schema) m.schemas schemas_hold);
        schemas = list_length schema_show schema_holds 8243 schema_length 15 m.schemas schemas_hold f.schemas.count;
        current_schema = length32 m.fields.current_schema schema_non_neg r.current_schema;
        one_spec = one_spec (first (λ (s : PartitionSpec). eq_z s.id m.fields.default_spec) m.specs) (all_first spec_holds (λ (s : PartitionSpec). eq_z s.id m.fields.default_spec) m.specs specs_hold);
        specs = list_length spec_show spec_holds 2289 spec_length 15 m.specs specs_hold f.specs.count;
        default_spec = length32 m.fields.default_spec spec_non_neg r.default_spec;
        last_partition = length32 m.fields.last_partition f.last_partition r.last_partition;
        snapshots = list_length (snapshot_show version) (λ (s : Snapshot). snapshot_formed s && snapshot_fits s) (snapshot_size version) (snapshot_length v) 63 m.snapshots (all_both snapshot_formed snapshot_fits m.snapshots f.snapshots.each r.snapshots) f.snapshots.count;
        log = list_length log_show (λ (e : LogEntry). non_neg e.snapshot && log_entry_fits e) 71 log_length 127 m.snapshot_log (all_both (λ (e : LogEntry). non_neg e.snapshot) log_entry_fits m.snapshot_log f.log r.log) f.log_count;
        files = list_length entryShow (λ (e : FileEntry). file_name_formed e.file && file_entry_fits e) 632 file_length 127 m.metadata_log (all_both (λ (e : FileEntry). file_name_formed e.file) file_entry_fits m.metadata_log f.files r.files) f.file_count;
        orders = list_length order_show (λ (o : SortOrder). order_formed o && order_fits o) 795 order_length 15 m.orders (all_both order_formed order_fits m.orders f.orders.each r.orders) f.orders.count;
        default_order = length64 m.fields.default_order order_non_neg r.default_order;
        statistics = list_length statistics_show (λ (s : StatisticsFile). statistics_file_formed s && statistics_fits s) 673 statistics_length 31 m.statistics (all_both statistics_file_formed statistics_fits m.statistics f.statistics.each r.statistics) f.statistics.count;
        partitions = list_length statistics_show (λ (s : StatisticsFile). statistics_file_formed s && statistics_fits s) 673 statistics_length 31 m.partition_statistics (all_both statistics_file_formed statistics_fits m.partition_statistics f.partitions.each r.partitions) f.partitions.count;
        next_row = length_unsigned m.fields.next_row.0 r.next_row;
      }

-- no export is longer
pub export_length : (m : Metadata) → metadata_formed m ≡ true → is_shown m ≡ true → metadata_fits m ≡ true → length (file_text m) ≤ 339202
export_length m h s k =
    let v = version_formed_lem m h s k in
    let b = metadata_bounds m h s k in
    rw (file_written m v b) (file_size m v (facts m v b (formed m h) (in_records m k)))
