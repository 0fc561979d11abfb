-- How long a written log is at most: 64 updates of which each adds a schema of 32 fields.
use Prim.Native.Nat.{ℕ, suc, ◌+◌, ◌*◌, ◌≤◌}
use native.Mathlib.Omega.{arith}
use Prim.Native.String.{String}
use mathlib.Core.Path.{◌≡◌, ◌∙◌, ap}
use mathlib.Core.Bool.{Bool, true, false, ◌&&◌, false≢true}
use mathlib.Core.List.{List, [], ◌∷◌, ◌++◌}
use lib.Dec.{eqb, leb}
use lib.IntN.{ℤ, pos, negsuc}
use lib.ListN.{length, length-append}
use lib.Signed.{le_z}
use borrow.Author.Tests.{eqb-true, leb-true, le-leb}
use Rattle.rules.specs.Words.{if_some, all}
use Rattle.rules.specs.Capacities.{name_room, location_room, removal_room, schema_field_room, sort_field_room, partition_field_room, list_room}
use Rattle.rules.specs.WellFormed.{branch, kind_formed, schema_field_formed, schema_formed, partition_field_formed, offered_spec_formed, transform_formed, at_least_one, name_formed, update_formed}
use Rattle.rules.specs.Register.{Reference, Schema, SortOrder, PartitionField, PartitionSpec, Update}
use Rattle.rules.specs.Register.Update.{AssignUuid, UpgradeFormatVersion, SetLocation, AddSnapshot, SetBranchSnapshot, RemoveSnapshots, SetRef, RemoveRef, AddSchema, SetCurrentSchema, RemoveSchemas, AddSortOrder, SetDefaultSortOrder, SetStatistics, RemoveStatistics, AddPartitionSpec, SetDefaultPartitionSpec, RemovePartitionSpecs, NotFormed}
use Rattle.rules.proofs.Checks.{by_test, parts, both, and_left, and_right}
use Rattle.json_rule.specs.Letters.{bytes}
use Rattle.json_rule.specs.Records.{Sent, Plain, SendsSchema, SendsSpec}
use Rattle.file_rule.specs.Written.{number_text, quoted, escaped_byte}
use Rattle.file_rule.specs.Files.{hex_byte, uuid_from}
use Rattle.file_rule.specs.Export.{is_utf8}
use Rattle.file_rule.specs.Fits.{fits32, fits64, field_fits, reference_fits, partition_field_fits, uuid_fits}
use Rattle.file_round.proofs.Documents.{Document, bytes_of}
use Rattle.file_round.proofs.Fields.{field, field_if, number, quotation, object}
use Rattle.file_round.proofs.Lists.{listing, all_both, each_written}
use Rattle.file_round.proofs.Length.{any32, any64, length_unsigned, quoted_length, size, field_length, if_length, object_length, list_length}
use Rattle.file_round.proofs.Sizes.{snapshot_length, schema_length, sort_length, transform_length, kind_length}
use Rattle.file_round.proofs.Scalars.{three, if_there}
use Rattle.file_round.proofs.Snapshots.{snapshot_show}
use Rattle.file_round.proofs.Schemas.{column_ok, schema_show, schema_ok, sort_show, sort_field_ok, order_show, order_ok}
use Rattle.file_round.proofs.Refs as refs
use Rattle.file_round.proofs.Refs.{kind_word}
use Rattle.file_round.proofs.Specs.{word_of}
use Rattle.file_round.proofs.Plain.{is_byte, dash}
use Rattle.log_rule.specs.LogText.{sent_text, log_text, is_carried_update, is_carried}
use Rattle.log_rule.specs.Held.{log_fits}
use Rattle.log_round.proofs.Actions.{with_action}
use Rattle.log_round.proofs.Specs.{part_show, part_ok, spec_show, spec_ok}
use Rattle.log_round.proofs.Updates.{ref_fields, sent_fields, plain_ok, sent_ok, sent_shown}
use Rattle.log_round.proofs.Carried.{sents_of, sent_formed, log_sends, log_text_lem, all_told}

-- one update with one member beside its action
module _ (word name : String) (d : Document) (n : ℕ) (h : length (bytes_of d) ≤ n) where
  one_length : suc (size "action" (length (bytes_of (quotation (bytes word)))) + (size name n + 0)) ≤ 8276 → length (bytes_of (object (with_action word (field name d ∷ [])))) ≤ 8276
  one_length k =
      let w = length (bytes_of (quotation (bytes word))) in
      omega (arith, object_length "action" (quotation (bytes word)) (field name d ∷ []) (size "action" w ∷ size name n ∷ []) (field_length "action" (quotation (bytes word)) w (omega arith), (field_length name d n h, tt)))

-- ---- uuids

dash_length : (i : ℕ) → length (dash i) ≤ 1
dash_length i =
    by_test (λ l. length l ≤ 1) (eqb i 4) (λ _. omega arith)
    (λ _. by_test (λ l. length l ≤ 1) (eqb i 6) (λ _. omega arith) (λ _. by_test (λ l. length l ≤ 1) (eqb i 8) (λ _. omega arith) (λ _. by_test (λ l. length l ≤ 1) (eqb i 10) (λ _. omega arith) (λ _. omega arith))))

uuid_length : (i : ℕ) (bs : List ℕ) → length (uuid_from i bs) ≤ 3 * length bs
uuid_length i [] = omega arith
uuid_length i (b ∷ bs) = omega (arith, length-append (dash i ++ hex_byte b) (uuid_from (1 + i) bs), length-append (dash i) (hex_byte b), dash_length i, uuid_length (1 + i) bs)

quoted_uuid : (uuid : List ℕ) → uuid_fits uuid ≡ true → length (quoted (uuid_from 0 uuid)) ≤ 290
quoted_uuid uuid h =
    let n : length uuid ≡ 16 = eqb-true (length uuid) 16 (and_left (eqb (length uuid) 16) (all is_byte uuid) h) in
    quoted_length 48 (uuid_from 0 uuid) (le-leb (length (uuid_from 0 uuid)) 48 (omega (arith, uuid_length 0 uuid)))

-- ---- records

schema_size : (s : Schema) → schema_ok s ≡ true → schema_formed s ≡ true → length (bytes_of (schema_show s)) ≤ 8243
schema_size s h f =
    let k = parts (fits32 s.id) (leb (length s.fields) schema_field_room ∷ all column_ok s.fields ∷ []) h in
    schema_length s (both f (both k.0 (all_told column_ok field_fits (λ x e. (parts (schema_field_formed x) (field_fits x ∷ is_utf8 x.name ∷ []) e).1.0) s.fields k.1.1.0)))

order_size : (o : SortOrder) → order_ok o ≡ true → length (bytes_of (order_show o)) ≤ 796
unfolding quoted escaped_byte bytes_of
order_size o h =
    let k = parts (fits64 o.id) (leb (length o.fields) sort_field_room ∷ all sort_field_ok o.fields ∷ []) h in
    object_length "order-id" (number o.id) (field "fields" (listing sort_show o.fields) ∷ []) (size "order-id" 20 ∷ size "fields" 753 ∷ [])
    (field_length "order-id" (number o.id) 20 (any64 o.id k.0), (field_length "fields" (listing sort_show o.fields) 753 (list_length sort_show sort_field_ok 93 sort_length 7 o.fields k.1.1.0 k.1.0), tt))

part_size : (f : PartitionField) → part_ok f ≡ true → length (bytes_of (part_show f)) ≤ 283
unfolding quoted escaped_byte bytes_of
part_size f h =
    let q = parts (partition_field_formed f) (partition_field_fits f ∷ is_utf8 f.name ∷ []) h in
    let p = parts (at_least_one f.source) (if_some at_least_one f.id ∷ transform_formed f.transform f.buckets ∷ leb 1 (length f.name) ∷ name_formed f.name ∷ []) q.0 in
    let k = parts (fits32 f.source) (if_some fits32 f.id ∷ fits32 f.buckets ∷ []) q.1.0 in
    object_length "source-id" (number f.source) (field_if "field-id" number f.id ∷ field "name" (quotation f.name) ∷ field "transform" (quotation (word_of f)) ∷ []) (size "source-id" 11 ∷ size "field-id" 11 ∷ size "name" 194 ∷ size "transform" 20 ∷ [])
    (field_length "source-id" (number f.source) 11 (any32 f.source k.0), (if_length "field-id" number f.id 11 (λ z e. any32 z (if_there fits32 f.id k.1.0 z e)), (field_length "name" (quotation f.name) 194 (quoted_length 32 f.name p.1.1.1.1.0), (field_length "transform" (quotation (word_of f)) 20 (transform_length f.transform f.buckets p.1.1.0 (and_right (le_z (negsuc 2147483647) f.buckets) (le_z f.buckets (pos 2147483647)) k.1.1.0)), tt))))

spec_size : (s : PartitionSpec) → spec_ok s ≡ true → length (bytes_of (spec_show s)) ≤ 2306
unfolding quoted escaped_byte bytes_of
spec_size s h =
    let k = parts (fits32 s.id) (leb (length s.fields) partition_field_room ∷ all part_ok s.fields ∷ []) h in
    object_length "spec-id" (number s.id) (field "fields" (listing part_show s.fields) ∷ []) (size "spec-id" 11 ∷ size "fields" 2273 ∷ [])
    (field_length "spec-id" (number s.id) 11 (any32 s.id k.0), (field_length "fields" (listing part_show s.fields) 2273 (list_length part_show part_ok 283 part_size 7 s.fields k.1.1.0 k.1.0), tt))

numbers_size : (ok : ℤ → Bool) → ((z : ℤ) → ok z ≡ true → length (number_text z) ≤ 20) → (ids : List ℤ) → (leb (length ids) removal_room && all ok ids) ≡ true → length (bytes_of (listing number ids)) ≤ 337
unfolding bytes_of
numbers_size ok each ids h = list_length number ok 20 each 15 ids (and_right (leb (length ids) removal_room) (all ok ids) h) (and_left (leb (length ids) removal_room) (all ok ids) h)

short32 : (z : ℤ) → fits32 z ≡ true → length (number_text z) ≤ 20
short32 z h = omega (arith, any32 z h)

name_size : (name : List ℕ) → (leb (length name) name_room && is_utf8 name) ≡ true → length (quoted name) ≤ 194
name_size name h = quoted_length 32 name (and_left (leb (length name) name_room) (is_utf8 name) h)

ref_size : (name : List ℕ) (r : Reference) → length (quoted name) ≤ 194 → refs.Bounds r → length (bytes_of (object (with_action "set-snapshot-ref" (ref_fields name r)))) ≤ 8276
unfolding quoted escaped_byte bytes_of
ref_size name r n b =
    omega (
      arith,
      object_length "action" (quotation (bytes "set-snapshot-ref")) (ref_fields name r) (size "action" 18 ∷ size "ref-name" 194 ∷ size "type" 8 ∷ size "snapshot-id" 20 ∷ size "min-snapshots-to-keep" 11 ∷ size "max-snapshot-age-ms" 20 ∷ size "max-ref-age-ms" 20 ∷ []) (
        field_length "action" (quotation (bytes "set-snapshot-ref")) 18 (omega arith),
        (
          field_length "ref-name" (quotation name) 194 n,
          (
            field_length "type" (quotation (kind_word r.kind)) 8 (kind_length (eqb r.kind branch)),
            (
              field_length "snapshot-id" (number r.snapshot) 20 (any64 r.snapshot b.snapshot),
              (
                if_length "min-snapshots-to-keep" number r.min_snapshots 11 (λ z e. any32 z (if_there fits32 r.min_snapshots b.least z e)),
                (
                  if_length "max-snapshot-age-ms" number r.max_snapshot_age 20 (λ z e. any64 z (if_there fits64 r.max_snapshot_age b.age z e)),
                  (if_length "max-ref-age-ms" number r.max_ref_age 20 (λ z e. any64 z (if_there fits64 r.max_ref_age b.ref_age z e)), tt),
                ),
              ),
            ),
          ),
        ),
      ),
    )

-- ---- each update

abbrev sent_show : Sent → Document
sent_show s = object (sent_fields s)

plain_size : (u : Update) → plain_ok u ≡ true → update_formed u ≡ true → length (bytes_of (sent_show (Plain u))) ≤ 8276
unfolding quoted escaped_byte bytes_of update_formed
plain_size (AssignUuid uuid) h f = one_length "assign-uuid" "uuid" (quotation (uuid_from 0 uuid)) 290 (quoted_uuid uuid h) (omega arith)
plain_size (UpgradeFormatVersion v) h f =
    let k : v ≤ 255 = leb-true v 255 h in
    one_length "upgrade-format-version" "format-version" (number (pos v)) 20 (length_unsigned v (le-leb v 18446744073709551615 (omega arith))) (omega arith)
plain_size (SetLocation location) h f = one_length "set-location" "location" (quotation location) 578 (quoted_length 96 location (and_left (leb (length location) location_room) (is_utf8 location) h)) (omega arith)
plain_size (AddSnapshot s) h f = one_length "add-snapshot" "snapshot" (snapshot_show 3 s) 220 (snapshot_length three s (both f h)) (omega arith)
plain_size (SetBranchSnapshot name s) h f = absurd (false≢true h)
plain_size (RemoveSnapshots ids) h f = one_length "remove-snapshots" "snapshot-ids" (listing number ids) 337 (numbers_size fits64 any64 ids h) (omega arith)
plain_size (SetRef name r) h f =
    let k = parts (leb (length name) name_room && is_utf8 name) (kind_formed r ∷ reference_fits r ∷ []) h in
    ref_size name r (name_size name k.0) (refs.bounds r k.1.1.0)
plain_size (RemoveRef name) h f = one_length "remove-snapshot-ref" "ref-name" (quotation name) 194 (name_size name h) (omega arith)
plain_size (AddSchema o) h f = absurd (false≢true h)
plain_size (SetCurrentSchema id) h f = one_length "set-current-schema" "schema-id" (number id) 20 (short32 id h) (omega arith)
plain_size (RemoveSchemas ids) h f = one_length "remove-schemas" "schema-ids" (listing number ids) 337 (numbers_size fits32 short32 ids h) (omega arith)
plain_size (AddSortOrder o) h f = one_length "add-sort-order" "sort-order" (order_show o) 796 (order_size o h) (omega arith)
plain_size (SetDefaultSortOrder id) h f = one_length "set-default-sort-order" "sort-order-id" (number id) 20 (any64 id h) (omega arith)
plain_size (SetStatistics which file) h f = absurd (false≢true h)
plain_size (RemoveStatistics which id) h f = absurd (false≢true h)
plain_size (AddPartitionSpec o) h f = absurd (false≢true h)
plain_size (SetDefaultPartitionSpec id) h f = one_length "set-default-spec" "spec-id" (number id) 20 (short32 id h) (omega arith)
plain_size (RemovePartitionSpecs ids) h f = one_length "remove-partition-specs" "spec-ids" (listing number ids) 337 (numbers_size fits32 short32 ids h) (omega arith)
plain_size (NotFormed counts) h f = absurd (false≢true h)

sent_size : (s : Sent) → (sent_ok s && sent_formed s) ≡ true → length (bytes_of (sent_show s)) ≤ 8276
unfolding quoted escaped_byte bytes_of
sent_size (Plain u) h = plain_size u (and_left (plain_ok u) (update_formed u) h) (and_right (plain_ok u) (update_formed u) h)
sent_size (SendsSchema s) h = one_length "add-schema" "schema" (schema_show s) 8243 (schema_size s (and_left (schema_ok s) (schema_formed s) h) (and_right (schema_ok s) (schema_formed s) h)) (omega arith)
sent_size (SendsSpec s) h = one_length "add-spec" "spec" (spec_show s) 2306 (spec_size s (and_left (spec_ok s) (offered_spec_formed s) h)) (omega arith)

-- ---- the log

pub log_length : (log : List Update) (offers : List ℕ) → is_carried log offers ≡ true → log_fits log ≡ true → length (log_text log offers) ≤ 529729
unfolding is_carried
log_length log offers h f =
    let c = and_right (leb (length log) list_room) (all (is_carried_update offers) log) h in
    let n = and_left (leb (length log) list_room) (all (is_carried_update offers) log) h in
    let k = log_sends offers log c f in
    let l = sents_of offers log in
    let w : log_text log offers ≡ bytes_of (listing sent_show l) = log_text_lem offers log c f ∙ each_written sent_text sent_show sent_ok (λ s e. (sent_shown s e).written) l k.ok in
    omega (arith, ap length w, list_length sent_show (λ s. sent_ok s && sent_formed s) 8276 sent_size 63 l (all_both sent_ok sent_formed l k.ok k.formed) (ap (λ m. leb m list_room) k.count ∙ n))
