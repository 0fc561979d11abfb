-- How long the records of a file are at most.
use Prim.Native.Nat.{ℕ, ◌≤◌}
use native.Mathlib.Omega.{arith}
use mathlib.Core.Path.{◌≡◌, refl, ap}
use mathlib.Core.Bool.{Bool, true, false, cond, ◌&&◌, beq, false≢true}
use mathlib.Core.List.{List, [], ◌∷◌}
use mathlib.Core.Option.{Option, none, some}
use lib.Dec.{eqb, leb}
use lib.IntN.{ℤ, pos, negsuc}
use lib.ListN.{length, length-append}
use lib.Signed.{le_z, non_neg}
use borrow.Author.Tests.{leb-true}
use Rattle.rules.specs.Words.{is_some, if_some, or_else, eq_z, all, unequal_by, unequal, same_bytes, is_empty}
use Rattle.rules.specs.Capacities.{schema_field_room, sort_field_room, partition_field_room}
use Rattle.rules.specs.Register.{RowRange, Snapshot, Reference, LogEntry, FileEntry, SchemaField, Schema, SortField, SortOrder, PartitionField, PartitionSpec, StatisticsFile}
use Rattle.rules.specs.WellFormed.{branch, long, at_least_one, snapshot_formed, kind_formed, retention_formed, reference_formed, field_type_formed, name_formed, schema_field_formed, field_ids, field_names, schema_formed, sort_field_formed, offered_order_formed, order_formed, transform_formed, partition_field_formed, offered_spec_formed, spec_formed, file_name_formed, statistics_file_formed}
use Rattle.rules.specs.Partitions.{is_redundant, partition_names, partition_ids}
use Rattle.rules.proofs.Checks.{parts, and_left, and_right}
use Rattle.json_rule.specs.Letters.{bytes}
use Rattle.file_rule.specs.Written.{digits_in, number_text, escaped_byte, quoted}
use Rattle.file_rule.specs.Files.{transform_text}
use Rattle.file_rule.specs.Fits.{fits32, fits64, fits_unsigned, range_fits, snapshot_fits, reference_fits, log_entry_fits, file_entry_fits, field_fits, schema_fits, sort_field_fits, order_fits, partition_field_fits, spec_fits, statistics_fits}
use Rattle.file_round.proofs.Documents.{bytes_of}
use Rattle.file_round.proofs.Plain.{Held, an_identity, a_year, a_month, a_day, a_bucket, held, transform_word, transform_written}
use Rattle.file_round.proofs.Fields.{field, number, quotation, flat}
use Rattle.file_round.proofs.Scalars.{Version, one, two, three, if_there}
use Rattle.file_round.proofs.Lists.{listing, all_both}
use Rattle.file_round.proofs.Length.{digits_length, length32, length64, any64, length_unsigned, quoted_length, size, field_length, if_length, object_length, list_length}
use Rattle.file_round.proofs.Snapshots.{first_row, added_rows, snapshot_groups, snapshot_show}
use Rattle.file_round.proofs.Refs.{kind_word, reference_groups, reference_show}
use Rattle.file_round.proofs.Logs.{log_show, file_show, statistics_show}
use Rattle.file_round.proofs.Schemas.{type_word, false_token, column_show, schema_show, direction_word, nulls_word, sort_show, order_show}
use Rattle.file_round.proofs.Specs.{id_of, word_of, part_show, spec_show}

one_non_neg : (z : ℤ) → at_least_one z ≡ true → non_neg z ≡ true
one_non_neg (pos n) h = refl
one_non_neg (negsuc n) h = absurd (false≢true h)

-- ---- snapshots

abbrev pub snapshot_size : ℕ → ℕ
snapshot_size version = cond (leb 3 version) 220 (cond (leb 2 version) 150 112)

record SnapshotFacts (s : Snapshot) : Type 0 where
  id : length (number_text s.id) ≤ 19
  parent : (z : ℤ) → s.parent ≡ some z → length (number_text z) ≤ 19
  sequence : length (number_text s.sequence.0) ≤ 19
  time : length (number_text s.time) ≤ 20
  first : (r : RowRange) → s.rows ≡ some r → length (number_text (pos r.first.0)) ≤ 20
  added : (r : RowRange) → s.rows ≡ some r → length (number_text (pos r.added)) ≤ 20

snapshot_facts : (s : Snapshot) → (snapshot_formed s && snapshot_fits s) ≡ true → SnapshotFacts s
unfolding snapshot_fits
snapshot_facts s h =
    let f = parts (non_neg s.id) (if_some non_neg s.parent ∷ non_neg s.sequence.0 ∷ []) (and_left (snapshot_formed s) (snapshot_fits s) h) in
    let k = parts (fits64 s.id) (if_some fits64 s.parent ∷ fits64 s.sequence.0 ∷ fits64 s.time ∷ if_some range_fits s.rows ∷ []) (and_right (snapshot_formed s) (snapshot_fits s) h) in
    record {
      id = length64 s.id f.0 k.0;
      parent = λ z e. length64 z (if_there non_neg s.parent f.1.0 z e) (if_there fits64 s.parent k.1.0 z e);
      sequence = length64 s.sequence.0 f.1.1.0 k.1.1.0;
      time = any64 s.time k.1.1.1.0;
      first = λ r e. length_unsigned r.first.0 (and_left (fits_unsigned r.first.0) (fits_unsigned r.added) (if_there range_fits s.rows k.1.1.1.1.0 r e));
      added = λ r e. length_unsigned r.added (and_right (fits_unsigned r.first.0) (fits_unsigned r.added) (if_there range_fits s.rows k.1.1.1.1.0 r e));
    }

module _ (s : Snapshot) (f : SnapshotFacts s) where
  snapshot_size_lem : {version : ℕ} → Version version → length (bytes_of (snapshot_show version s)) ≤ snapshot_size version
  unfolding quoted escaped_byte bytes_of
  snapshot_size_lem one =
      object_length "snapshot-id" (number s.id) (flat (snapshot_groups 1 s)) (size "snapshot-id" 19 ∷ size "parent-snapshot-id" 19 ∷ size "timestamp-ms" 20 ∷ [])
      (field_length "snapshot-id" (number s.id) 19 f.id, (if_length "parent-snapshot-id" number s.parent 19 f.parent, (field_length "timestamp-ms" (number s.time) 20 f.time, tt)))
  snapshot_size_lem two =
      object_length "snapshot-id" (number s.id) (flat (snapshot_groups 2 s)) (size "snapshot-id" 19 ∷ size "parent-snapshot-id" 19 ∷ size "sequence-number" 19 ∷ size "timestamp-ms" 20 ∷ [])
      (field_length "snapshot-id" (number s.id) 19 f.id, (if_length "parent-snapshot-id" number s.parent 19 f.parent, (field_length "sequence-number" (number s.sequence.0) 19 f.sequence, (field_length "timestamp-ms" (number s.time) 20 f.time, tt))))
  snapshot_size_lem three =
      object_length "snapshot-id" (number s.id) (flat (snapshot_groups 3 s)) (size "snapshot-id" 19 ∷ size "parent-snapshot-id" 19 ∷ size "sequence-number" 19 ∷ size "timestamp-ms" 20 ∷ size "first-row-id" 20 ∷ size "added-rows" 20 ∷ [])
      (field_length "snapshot-id" (number s.id) 19 f.id, (if_length "parent-snapshot-id" number s.parent 19 f.parent, (field_length "sequence-number" (number s.sequence.0) 19 f.sequence, (field_length "timestamp-ms" (number s.time) 20 f.time, (if_length "first-row-id" first_row s.rows 20 f.first, (if_length "added-rows" added_rows s.rows 20 f.added, tt))))))

pub snapshot_length : {version : ℕ} → Version version → (s : Snapshot) → (snapshot_formed s && snapshot_fits s) ≡ true → length (bytes_of (snapshot_show version s)) ≤ snapshot_size version
snapshot_length v s h = snapshot_size_lem s (snapshot_facts s h) v

-- ---- references

pub kind_length : (b : Bool) → length (quoted (cond b (bytes "branch") (bytes "tag"))) ≤ 8
unfolding quoted escaped_byte
kind_length true = omega arith
kind_length false = omega arith

pub reference_length : (r : Reference) → reference_formed r ≡ true → reference_fits r ≡ true → length (bytes_of (reference_show r)) ≤ 165
unfolding quoted escaped_byte bytes_of reference_fits
reference_length r h k =
    let f = parts (non_neg r.snapshot) (kind_formed r ∷ retention_formed r ∷ []) h in
    let t = parts (if_some at_least_one r.min_snapshots) (if_some at_least_one r.max_snapshot_age ∷ if_some at_least_one r.max_ref_age ∷ []) f.1.1.0 in
    let b = parts (fits64 r.snapshot) (if_some fits32 r.min_snapshots ∷ if_some fits64 r.max_snapshot_age ∷ if_some fits64 r.max_ref_age ∷ []) k in
    object_length "snapshot-id" (number r.snapshot) (flat (reference_groups r)) (size "snapshot-id" 19 ∷ size "type" 8 ∷ size "min-snapshots-to-keep" 10 ∷ size "max-snapshot-age-ms" 19 ∷ size "max-ref-age-ms" 19 ∷ []) (
      field_length "snapshot-id" (number r.snapshot) 19 (length64 r.snapshot f.0 b.0),
      (
        field_length "type" (quotation (kind_word r.kind)) 8 (kind_length (eqb r.kind branch)),
        (
          if_length "min-snapshots-to-keep" number r.min_snapshots 10 (λ z e. length32 z (one_non_neg z (if_there at_least_one r.min_snapshots t.0 z e)) (if_there fits32 r.min_snapshots b.1.0 z e)),
          (
            if_length "max-snapshot-age-ms" number r.max_snapshot_age 19 (λ z e. length64 z (one_non_neg z (if_there at_least_one r.max_snapshot_age t.1.0 z e)) (if_there fits64 r.max_snapshot_age b.1.1.0 z e)),
            (if_length "max-ref-age-ms" number r.max_ref_age 19 (λ z e. length64 z (one_non_neg z (if_there at_least_one r.max_ref_age t.1.1.0 z e)) (if_there fits64 r.max_ref_age b.1.1.1.0 z e)), tt),
          ),
        ),
      ),
    )

-- ---- entries of logs, and statistics files

pub log_length : (e : LogEntry) → (non_neg e.snapshot && log_entry_fits e) ≡ true → length (bytes_of (log_show e)) ≤ 71
unfolding quoted escaped_byte bytes_of
log_length e h =
    let n = and_left (non_neg e.snapshot) (log_entry_fits e) h in
    let k = and_right (non_neg e.snapshot) (log_entry_fits e) h in
    object_length "snapshot-id" (number e.snapshot) (field "timestamp-ms" (number e.time) ∷ []) (size "snapshot-id" 19 ∷ size "timestamp-ms" 20 ∷ [])
    (field_length "snapshot-id" (number e.snapshot) 19 (length64 e.snapshot n (and_left (fits64 e.snapshot) (fits64 e.time) k)), (field_length "timestamp-ms" (number e.time) 20 (any64 e.time (and_right (fits64 e.snapshot) (fits64 e.time) k)), tt))

pub file_length : (e : FileEntry) → (file_name_formed e.file && file_entry_fits e) ≡ true → length (bytes_of (file_show e)) ≤ 632
unfolding quoted escaped_byte bytes_of
file_length e h =
    object_length "metadata-file" (quotation e.file) (field "timestamp-ms" (number e.time) ∷ []) (size "metadata-file" 578 ∷ size "timestamp-ms" 20 ∷ [])
    (field_length "metadata-file" (quotation e.file) 578 (quoted_length 96 e.file (and_left (file_name_formed e.file) (file_entry_fits e) h)), (field_length "timestamp-ms" (number e.time) 20 (any64 e.time (and_right (file_name_formed e.file) (file_entry_fits e) h)), tt))

pub statistics_length : (f : StatisticsFile) → (statistics_file_formed f && statistics_fits f) ≡ true → length (bytes_of (statistics_show f)) ≤ 673
unfolding quoted escaped_byte bytes_of
statistics_length f h =
    let p = parts (non_neg f.snapshot) (file_name_formed f.path ∷ non_neg f.size ∷ []) (and_left (statistics_file_formed f) (statistics_fits f) h) in
    let k = and_right (statistics_file_formed f) (statistics_fits f) h in
    object_length "snapshot-id" (number f.snapshot) (field "statistics-path" (quotation f.path) ∷ field "file-size-in-bytes" (number f.size) ∷ []) (size "snapshot-id" 19 ∷ size "statistics-path" 578 ∷ size "file-size-in-bytes" 19 ∷ [])
    (field_length "snapshot-id" (number f.snapshot) 19 (length64 f.snapshot p.0 (and_left (fits64 f.snapshot) (fits64 f.size) k)), (field_length "statistics-path" (quotation f.path) 578 (quoted_length 96 f.path p.1.0), (field_length "file-size-in-bytes" (number f.size) 19 (length64 f.size p.1.1.0 (and_right (fits64 f.snapshot) (fits64 f.size) k)), tt)))

-- ---- schemas

type_length : (b : Bool) → length (quoted (type_word b)) ≤ 11
unfolding quoted escaped_byte
type_length true = omega arith
type_length false = omega arith

column_length : (f : SchemaField) → (schema_field_formed f && field_fits f) ≡ true → length (bytes_of (column_show f)) ≤ 255
unfolding quoted escaped_byte bytes_of
column_length f h =
    let p = parts (at_least_one f.id) (field_type_formed f.field_type ∷ name_formed f.name ∷ []) (and_left (schema_field_formed f) (field_fits f) h) in
    object_length "id" (number f.id) (field "name" (quotation f.name) ∷ field "required" false_token ∷ field "type" (quotation (type_word (eqb f.field_type long))) ∷ []) (size "id" 10 ∷ size "name" 194 ∷ size "required" 5 ∷ size "type" 11 ∷ [])
    (field_length "id" (number f.id) 10 (length32 f.id (one_non_neg f.id p.0) (and_right (schema_field_formed f) (field_fits f) h)), (field_length "name" (quotation f.name) 194 (quoted_length 32 f.name p.1.1.0), (field_length "required" false_token 5 (omega arith), (field_length "type" (quotation (type_word (eqb f.field_type long))) 11 (type_length (eqb f.field_type long)), tt))))

pub schema_length : (s : Schema) → (schema_formed s && schema_fits s) ≡ true → length (bytes_of (schema_show s)) ≤ 8243
unfolding quoted escaped_byte bytes_of
schema_length s h =
    let p = parts (non_neg s.id) (leb (length s.fields) schema_field_room ∷ all schema_field_formed s.fields ∷ unequal (field_ids s) ∷ unequal_by same_bytes (field_names s) ∷ []) (and_left (schema_formed s) (schema_fits s) h) in
    let k = and_right (schema_formed s) (schema_fits s) h in
    object_length "type" (quotation (bytes "struct")) (field "fields" (listing column_show s.fields) ∷ field "schema-id" (number s.id) ∷ []) (size "type" 8 ∷ size "fields" 8193 ∷ size "schema-id" 10 ∷ []) (
      field_length "type" (quotation (bytes "struct")) 8 (omega arith),
      (
        field_length "fields" (listing column_show s.fields) 8193 (list_length column_show (λ (f : SchemaField). schema_field_formed f && field_fits f) 255 column_length 31 s.fields (all_both schema_field_formed field_fits s.fields p.1.1.0 (and_right (fits32 s.id) (all field_fits s.fields) k)) p.1.0),
        (field_length "schema-id" (number s.id) 10 (length32 s.id p.0 (and_left (fits32 s.id) (all field_fits s.fields) k)), tt),
      ),
    )

-- ---- sort orders

direction_length : (b : Bool) → length (quoted (direction_word b)) ≤ 6
unfolding quoted escaped_byte
direction_length true = omega arith
direction_length false = omega arith

nulls_length : (b : Bool) → length (quoted (nulls_word b)) ≤ 13
unfolding quoted escaped_byte
nulls_length true = omega arith
nulls_length false = omega arith

pub sort_length : (f : SortField) → (sort_field_formed f && sort_field_fits f) ≡ true → length (bytes_of (sort_show f)) ≤ 93
unfolding quoted escaped_byte bytes_of
sort_length f h =
    let p = parts (at_least_one f.source) (leb f.direction 1 ∷ leb f.nulls 1 ∷ []) (and_left (sort_field_formed f) (sort_field_fits f) h) in
    object_length "transform" (quotation (bytes "identity")) (field "source-id" (number f.source) ∷ field "direction" (quotation (direction_word (eqb f.direction 0))) ∷ field "null-order" (quotation (nulls_word (eqb f.nulls 0))) ∷ [])
    (size "transform" 10 ∷ size "source-id" 10 ∷ size "direction" 6 ∷ size "null-order" 13 ∷ [])
    (field_length "transform" (quotation (bytes "identity")) 10 (omega arith), (field_length "source-id" (number f.source) 10 (length32 f.source (one_non_neg f.source p.0) (and_right (sort_field_formed f) (sort_field_fits f) h)), (field_length "direction" (quotation (direction_word (eqb f.direction 0))) 6 (direction_length (eqb f.direction 0)), (field_length "null-order" (quotation (nulls_word (eqb f.nulls 0))) 13 (nulls_length (eqb f.nulls 0)), tt))))

pub order_length : (o : SortOrder) → (order_formed o && order_fits o) ≡ true → length (bytes_of (order_show o)) ≤ 795
unfolding quoted escaped_byte bytes_of
order_length o h =
    let p = parts (non_neg o.id) (leb (length o.fields) sort_field_room ∷ all sort_field_formed o.fields ∷ []) (and_left (offered_order_formed o) (beq (is_empty o.fields) (eq_z o.id (pos 0))) (and_left (order_formed o) (order_fits o) h)) in
    let k = and_right (order_formed o) (order_fits o) h in
    object_length "order-id" (number o.id) (field "fields" (listing sort_show o.fields) ∷ []) (size "order-id" 19 ∷ size "fields" 753 ∷ [])
    (field_length "order-id" (number o.id) 19 (length64 o.id p.0 (and_left (fits64 o.id) (all sort_field_fits o.fields) k)), (field_length "fields" (listing sort_show o.fields) 753 (list_length sort_show (λ (f : SortField). sort_field_formed f && sort_field_fits f) 93 sort_length 7 o.fields (all_both sort_field_formed sort_field_fits o.fields p.1.1.0 (and_right (fits64 o.id) (all sort_field_fits o.fields) k)) p.1.0), tt))

-- ---- partition specs

held_length : {t : ℕ} {n : ℤ} → Held t n → le_z n (pos 2147483647) ≡ true → length (transform_text t n) ≤ 20
unfolding transform_text number_text
held_length an_identity h = omega arith
held_length a_year h = omega arith
held_length a_month h = omega arith
held_length a_day h = omega arith
held_length (a_bucket n p) h = let k : n ≤ 2147483647 = leb-true n 2147483647 h in omega (arith, length-append (digits_in 20 n) (93 ∷ 34 ∷ []), digits_length 20 9 n (omega arith))

pub transform_length : (t : ℕ) (n : ℤ) → transform_formed t n ≡ true → le_z n (pos 2147483647) ≡ true → length (quoted (transform_word t n)) ≤ 20
transform_length t n h k = omega (arith, ap length (transform_written t n h k).written, held_length (held t n h) k)

-- one that is held has an id
abbrev pub part_formed : PartitionField → Bool
part_formed f = partition_field_formed f && partition_field_fits f

id_non_neg : (o : Option ℤ) → if_some at_least_one o ≡ true → non_neg (or_else o (pos 0)) ≡ true
id_non_neg none h = refl
id_non_neg (some z) h = one_non_neg z h

id_fits : (o : Option ℤ) → if_some fits32 o ≡ true → fits32 (or_else o (pos 0)) ≡ true
id_fits none h = refl
id_fits (some z) h = h

pub part_length : (f : PartitionField) → part_formed f ≡ true → length (bytes_of (part_show f)) ≤ 281
unfolding quoted escaped_byte bytes_of
part_length f h =
    let p = parts (at_least_one f.source) (if_some at_least_one f.id ∷ transform_formed f.transform f.buckets ∷ leb 1 (length f.name) ∷ name_formed f.name ∷ []) (and_left (partition_field_formed f) (partition_field_fits f) h) in
    let k = parts (fits32 f.source) (if_some fits32 f.id ∷ fits32 f.buckets ∷ []) (and_right (partition_field_formed f) (partition_field_fits f) h) in
    object_length "source-id" (number f.source) (field "field-id" (number (id_of f)) ∷ field "name" (quotation f.name) ∷ field "transform" (quotation (word_of f)) ∷ []) (size "source-id" 10 ∷ size "field-id" 10 ∷ size "name" 194 ∷ size "transform" 20 ∷ [])
    (field_length "source-id" (number f.source) 10 (length32 f.source (one_non_neg f.source p.0) k.0), (field_length "field-id" (number (id_of f)) 10 (length32 (id_of f) (id_non_neg f.id p.1.0) (id_fits f.id k.1.0)), (field_length "name" (quotation f.name) 194 (quoted_length 32 f.name p.1.1.1.1.0), (field_length "transform" (quotation (word_of f)) 20 (transform_length f.transform f.buckets p.1.1.0 (and_right (le_z (negsuc 2147483647) f.buckets) (le_z f.buckets (pos 2147483647)) k.1.1.0)), tt))))

-- the fields of a spec
pub spec_fields_lem : (s : PartitionSpec) → (spec_formed s && spec_fits s) ≡ true → (all part_formed s.fields ≡ true) × (leb (length s.fields) partition_field_room ≡ true) × (non_neg s.id ≡ true) × (fits32 s.id ≡ true)
spec_fields_lem s h =
    let q = parts (offered_spec_formed s) (all (λ (f : PartitionField). is_some f.id) s.fields ∷ unequal_by same_bytes (partition_names s) ∷ unequal (partition_ids s) ∷ unequal_by is_redundant s.fields ∷ []) (and_left (spec_formed s) (spec_fits s) h) in
    let p = parts (non_neg s.id) (leb (length s.fields) partition_field_room ∷ all partition_field_formed s.fields ∷ []) q.0 in
    let k = and_right (spec_formed s) (spec_fits s) h in
    (all_both partition_field_formed partition_field_fits s.fields p.1.1.0 (and_right (fits32 s.id) (all partition_field_fits s.fields) k), p.1.0, p.0, and_left (fits32 s.id) (all partition_field_fits s.fields) k)

pub parts_length : (l : List PartitionField) → all part_formed l ≡ true → leb (length l) partition_field_room ≡ true → length (bytes_of (listing part_show l)) ≤ 2257
parts_length l h k = list_length part_show part_formed 281 part_length 7 l h k

pub spec_length : (s : PartitionSpec) → (spec_formed s && spec_fits s) ≡ true → length (bytes_of (spec_show s)) ≤ 2289
unfolding quoted escaped_byte bytes_of
spec_length s h =
    let k = spec_fields_lem s h in
    object_length "spec-id" (number s.id) (field "fields" (listing part_show s.fields) ∷ []) (size "spec-id" 10 ∷ size "fields" 2257 ∷ [])
    (field_length "spec-id" (number s.id) 10 (length32 s.id k.2 k.3), (field_length "fields" (listing part_show s.fields) 2257 (parts_length s.fields k.0 k.1), tt))
