-- A list that is read fits a run: at most 64 updates, each of which counts 1, so that no run finds the list too long; and what they offer fits in 77,824 bytes,
-- which is 32 fields of each of 64 schemas.
use Prim.Native.Nat.{ℕ, suc, ◌+◌, ◌*◌, ◌≤◌}
use native.Mathlib.Omega.{arith}
use mathlib.Core.Path.{◌≡◌, refl, ap}
use mathlib.Core.Bool.{Bool, true, ◌&&◌}
use mathlib.Core.List.{List, [], ◌∷◌}
use lib.Dec.{leb}
use lib.IntN.{ℤ, pos, negsuc}
use lib.ListN.{length, length-append, length-replicate}
use lib.Signed.{le_z, non_neg}
use borrow.Author.Tests.{leb-true, le-leb, eqb-true}
use Rattle.rules.specs.Words.{all, total}
use Rattle.rules.specs.Replies.{accepted}
use Rattle.rules.specs.Capacities.{list_room, name_room, field_bytes, partition_bytes, schema_field_room, partition_field_room, largest_field_id}
use Rattle.rules.specs.Register.{SchemaField, PartitionField}
use Rattle.rules.specs.Run.{weight, list_sum}
use Rattle.rules.proofs.Checks.{and_left, and_right}
use Rattle.rules.proofs.Tables.{all_head, all_tail}
use Rattle.json_rule.specs.Tree.{text}
use Rattle.json_rule.specs.Records.{Sent, Plain, SendsSchema, SendsSpec, number_bytes, field_offer, partition_offer, all_bytes, offer_of, update_at, updates_from}
use Rattle.json_rule.specs.Reading.{Reading, list_of, reading}
use Rattle.json_rule.proofs.Faultless.{accepted_faultless}
use Rattle.json_rule.proofs.Sent.{is_sendable_field, is_sendable_partition, is_sendable, accepted_sends}

-- ---- how many bytes are offered

number_length : (z : ℤ) → length (number_bytes z) ≡ 4
number_length (pos n) = refl
number_length (negsuc n) = refl

pub field_length : (f : SchemaField) → length f.name ≤ name_room → length (field_offer f) ≡ field_bytes
field_length f h = simp (length-append, number_length, length-replicate) (omega arith)

pub partition_length : (f : PartitionField) → length f.name ≤ name_room → length (partition_offer f) ≡ partition_bytes
partition_length f h = simp (length-append, number_length, length-replicate) (omega arith)

-- of so many, each of at most one size
all_bytes_length : {A : Type 0} (offer : A → List ℕ) (size : ℕ) (p : A → Bool) → ((x : A) → p x ≡ true → length (offer x) ≤ size)
    → (xs : List A) → all p xs ≡ true → length (all_bytes offer xs) ≤ length xs * size
all_bytes_length offer size p h [] e = omega arith
all_bytes_length offer size p h (x ∷ xs) e =
    let a : length (offer x) ≤ size = h x (all_head p x xs e) in
    let b : length (all_bytes offer xs) ≤ length xs * size = all_bytes_length offer size p h xs (all_tail p x xs e) in
    simp length-append (omega arith)

-- what an update offers at most: 32 fields of a schema
abbrev most_offered : ℕ
most_offered = schema_field_room * field_bytes

-- a field that can be sent
pub field_name_lem : (f : SchemaField) → is_sendable_field f ≡ true → length f.name ≤ name_room
field_name_lem f h = leb-true (length f.name) name_room (and_right (le_z f.id (pos largest_field_id)) _ h)

pub partition_name : (f : PartitionField) → is_sendable_partition f ≡ true → length f.name ≤ name_room
partition_name f h = leb-true (length f.name) name_room (and_right (le_z f.source (pos largest_field_id) && (non_neg f.buckets && le_z f.buckets (pos largest_field_id))) _ h)

offer_length_lem : (x : Sent) → is_sendable x ≡ true → length (offer_of x) ≤ most_offered
offer_length_lem (Plain u) h = omega arith
offer_length_lem (SendsSchema s) h =
    let n : length s.fields ≤ schema_field_room = leb-true (length s.fields) schema_field_room (and_left _ (all is_sendable_field s.fields) h) in
    let l = all_bytes_length field_offer field_bytes is_sendable_field (λ f g. omega (arith, field_length f (field_name_lem f g))) s.fields (and_right (leb (length s.fields) schema_field_room) _ h) in
    omega arith
offer_length_lem (SendsSpec s) h =
    let n : length s.fields ≤ partition_field_room = leb-true (length s.fields) partition_field_room (and_left _ (all is_sendable_partition s.fields) h) in
    let l = all_bytes_length partition_offer partition_bytes is_sendable_partition (λ f g. omega (arith, partition_length f (partition_name f g))) s.fields (and_right (leb (length s.fields) partition_field_room) _ h) in
    omega arith

-- ---- how much a list counts

pub updates_length : (place : ℕ) (l : List Sent) → length (updates_from place l) ≡ length l
updates_length place [] = refl
updates_length place (x ∷ l) = ap suc (updates_length (place + length (offer_of x)) l)

weighs_one : (place : ℕ) (x : Sent) → is_sendable x ≡ true → weight (update_at place x) ≡ 1
weighs_one place (Plain u) h = eqb-true (weight u) 1 h
weighs_one place (SendsSchema s) h = refl
weighs_one place (SendsSpec s) h = refl

updates_weigh : (place : ℕ) (l : List Sent) → all is_sendable l ≡ true → total weight (updates_from place l) ≡ length l
updates_weigh place [] h = refl
updates_weigh place (x ∷ l) h =
    omega (arith, weighs_one place x (all_head is_sendable x l h), updates_weigh (place + length (offer_of x)) l (all_tail is_sendable x l h))

-- ---- a list that is read

-- 32 fields of 64 schemas
abbrev pub offers_room : ℕ
offers_room = 77824

pub record ListFits (r : Reading) : Type 0 where
  pub few : length r.updates ≤ list_room
  pub sum : list_sum r.updates ≤ list_room
  pub offers : length r.offers ≤ offers_room

pub read_list_fits : (bs : List ℕ) → (reading bs).number ≡ accepted → ListFits (reading bs)
unfolding list_sum
read_list_fits bs e =
    let a = accepted_faultless bs e in
    let s = accepted_sends bs e in
    let l = list_of (text bs).tree in
    record {
      few = rw a.updates (omega (arith, updates_length 0 l));
      sum = rw a.updates (omega (arith, updates_weigh 0 l s.1));
      offers = rw a.offers (omega (arith, all_bytes_length offer_of most_offered is_sendable offer_length_lem l s.1));
    }

-- a run does not find it too long: the check of 2 passes
pub read_not_too_long : (bs : List ℕ) → (reading bs).number ≡ accepted → leb (list_sum (reading bs).updates) list_room ≡ true
read_not_too_long bs e = le-leb (list_sum (reading bs).updates) list_room (read_list_fits bs e).sum
