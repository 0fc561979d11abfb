-- What is offered anew beside a list is read from there again: each update of the list sends what it was made of.
use Prim.Native.Nat.{ℕ, zero, suc, ◌+◌, ◌*◌, ◌-◌, ◌/◌, ◌%◌, ◌≤◌, ◌<◌}
use native.Mathlib.Nat.{div-div-eq-div-mul, mod-eq_of_lt}
use native.Mathlib.Omega.{arith}
use mathlib.Core.Path.{◌≡◌, refl, ◌∙◌, sym, ap}
use mathlib.Core.Bool.{Bool, true, false, ◌&&◌, false≢true}
use mathlib.Core.List.{List, [], ◌∷◌, ◌++◌, append_assoc, append-nil}
use mathlib.Core.Option.{none, some}
use lib.Dec.{leb}
use lib.IntN.{ℤ, pos, negsuc}
use lib.ListN.{length, drop, replicate, length-append, length-map}
use lib.Seq.{take_at, drop_at, drop-append_seam}
use borrow.Author.Tests.{leb-true, le-leb, lt-ltb}
use Rattle.rules.specs.Words.{if_some, all, collect}
use Rattle.rules.specs.Capacities.{name_room, schema_field_room, partition_field_room, field_bytes, partition_bytes, largest_field_id}
use Rattle.rules.specs.Blanks.{is_zero}
use Rattle.rules.specs.WellFormed.{at_least_one, name_formed, field_type_formed, transform_formed, schema_field_formed, schema_formed, partition_field_formed, offered_spec_formed}
use Rattle.rules.specs.Offers.{pieces_of, is_tidy_field, is_tidy_offer, offer_formed, is_tidy_partition, is_tidy_spec, spec_offer_formed}
use Rattle.rules.specs.Register.{SchemaField, Schema, PartitionField, PartitionSpec, Update}
use Rattle.rules.specs.Register.Update.{AssignUuid, UpgradeFormatVersion, SetLocation, AddSnapshot, SetBranchSnapshot, RemoveSnapshots, SetRef, RemoveRef, AddSchema, SetCurrentSchema, RemoveSchemas, AddSortOrder, SetDefaultSortOrder, SetStatistics, RemoveStatistics, AddPartitionSpec, SetDefaultPartitionSpec, RemovePartitionSpecs, NotFormed}
use Rattle.rules.proofs.Checks.{parts, both, and_left, and_right}
use Rattle.json_rule.specs.Records.{Sent, Plain, SendsSchema, SendsSpec, field_offer, partition_offer, all_bytes, offer_of, offers_of, update_at, updates_from}
use Rattle.json_rule.proofs.Fits.{field_length, partition_length}
use Rattle.json_rule.proofs.Offers.{is_held, is_told, is_told_partition, place_behind, schema_offered, spec_offered}
use Rattle.file_rule.specs.Export.{is_utf8}
use Rattle.file_rule.specs.Fits.{fits32, field_fits, partition_field_fits}
use Rattle.file_round.proofs.Plain.{Held, an_identity, a_year, a_month, a_day, a_bucket, held}
use Rattle.file_round.proofs.Schemas.{column_ok, schema_ok}
use Rattle.log_rule.specs.LogText.{sent_in}
use Rattle.log_round.proofs.Specs.{part_ok, spec_ok}
use Rattle.log_round.proofs.Updates.{plain_ok, sent_ok}
use Rattle.log_round.proofs.Carried.{sent_formed, all_told}

-- ---- numbers and names among bytes

-- a number in four bytes, the lowest first
number_again : (n : ℕ) → n ≤ largest_field_id → n % 256 + 256 * (n / 256 % 256 + 256 * (n / 65536 % 256 + 256 * (n / 16777216 % 256))) ≡ n
number_again n h = let l : n / 16777216 < 256 = omega arith in omega (arith, div-div-eq-div-mul n 256 256, div-div-eq-div-mul n 65536 256, mod-eq_of_lt l)

number_tidy : (n : ℕ) → leb n largest_field_id ≡ true → leb (n % 256 + 256 * (n / 256 % 256 + 256 * (n / 65536 % 256 + 256 * (n / 16777216 % 256)))) largest_field_id ≡ true
number_tidy n h = ap (λ m. leb m largest_field_id) (number_again n (leb-true n largest_field_id h)) ∙ h

held_number : (n : ℕ) → leb n largest_field_id ≡ true → is_held (pos n) ≡ true
held_number n h = let l : n ≤ largest_field_id = leb-true n largest_field_id h in lt-ltb n 4294967296 (omega arith)

zeros : (n : ℕ) → all is_zero (replicate n 0) ≡ true
zeros zero = refl
zeros (suc n) = zeros n

rest_zero : (name : List ℕ) → all is_zero (drop (length name) (name ++ replicate (name_room - length name) 0)) ≡ true
rest_zero name = ap (λ l. all is_zero l) (drop-append_seam name (replicate (name_room - length name) 0)) ∙ zeros (name_room - length name)

-- ---- fields

abbrev FieldAgain : SchemaField → Type 0
FieldAgain f = (is_tidy_field (field_offer f) ≡ true) × (is_told f ≡ true)

field_tidy : (f : SchemaField) → column_ok f ≡ true → FieldAgain f
field_tidy f h =
    let k = parts (schema_field_formed f) (field_fits f ∷ is_utf8 f.name ∷ []) h in
    let l = parts (at_least_one f.id) (field_type_formed f.field_type ∷ name_formed f.name ∷ []) k.0 in
    go f.id l.0 k.1.0 l.1.1.0
  where
    go : (id : ℤ) → at_least_one id ≡ true → fits32 id ≡ true → leb (length f.name) name_room ≡ true → FieldAgain (record { id = id; field_type = f.field_type; name = f.name })
    go (pos n) p i m = (both (both (number_tidy n i) m) (rest_zero f.name), both (held_number n i) m)
    go (negsuc n) p i m = absurd (false≢true p)

abbrev PartitionAgain : PartitionField → Type 0
PartitionAgain f = (is_tidy_partition (partition_offer f) ≡ true) × (is_told_partition f ≡ true)

-- a number of buckets is not below 0
bucket_number : {t : ℕ} {z : ℤ} → Held t z → (n : ℕ) × (z ≡ pos n)
bucket_number an_identity = (0, refl)
bucket_number a_year = (0, refl)
bucket_number a_month = (0, refl)
bucket_number a_day = (0, refl)
bucket_number (a_bucket n p) = (n, refl)

partition_tidy : (f : PartitionField) → part_ok f ≡ true → PartitionAgain f
partition_tidy f h =
    let k = parts (partition_field_formed f) (partition_field_fits f ∷ is_utf8 f.name ∷ []) h in
    let l = parts (at_least_one f.source) (if_some at_least_one f.id ∷ transform_formed f.transform f.buckets ∷ leb 1 (length f.name) ∷ name_formed f.name ∷ []) k.0 in
    let m = parts (fits32 f.source) (if_some fits32 f.id ∷ fits32 f.buckets ∷ []) k.1.0 in
    let b = bucket_number (held f.transform f.buckets l.1.1.0) in
    go f.source f.buckets l.0 m.0 b.0 b.1 m.1.1.0 l.1.1.1.1.0
  where
    with : ℤ → ℤ → PartitionField
    with source buckets = record { source = source; id = f.id; transform = f.transform; buckets = buckets; name = f.name }

    go : (source buckets : ℤ) → at_least_one source ≡ true → fits32 source ≡ true → (n : ℕ) → buckets ≡ pos n → fits32 buckets ≡ true → leb (length f.name) name_room ≡ true → PartitionAgain (with source buckets)
    go (pos s) (pos b) p i n e j m = (both (both (both (number_tidy s i) (number_tidy b j)) m) (rest_zero f.name), both (both (held_number s i) (held_number b j)) m)
    go (pos s) (negsuc b) p i n e j m = absurd (let z : ◌≡◌ {A = ℕ} 0 1 = cc in omega arith)
    go (negsuc s) buckets p i n e j m = absurd (false≢true p)

-- ---- among the offers of a list

all_bytes_append : {A : Type 0} (f : A → List ℕ) (xs ys : List A) → all_bytes f (xs ++ ys) ≡ all_bytes f xs ++ all_bytes f ys
all_bytes_append f [] ys = refl
all_bytes_append f (x ∷ xs) ys = rw (all_bytes_append f xs ys, append_assoc)

-- what holds of the bytes of each holds of the pieces that are found, whatever stands behind them
pieces_hold : {A : Type 0} (offer : A → List ℕ) (size : ℕ) (p : A → Bool) (q : List ℕ → Bool) → ((x : A) → p x ≡ true → (length (offer x) ≡ size) × (q (offer x) ≡ true))
    → (xs : List A) (more : List ℕ) → all p xs ≡ true → all q (pieces_of size (length xs) (all_bytes offer xs ++ more)) ≡ true
pieces_hold offer size p q h [] more e = refl
pieces_hold offer size p q h (x ∷ xs) more e =
    let k = h x (and_left (p x) (all p xs) e) in
    rw (append_assoc (offer x) (all_bytes offer xs) more, take_at (offer x) (all_bytes offer xs ++ more) size k.0, drop_at (offer x) (all_bytes offer xs ++ more) size k.0)
    (both k.1 (pieces_hold offer size p q h xs more (and_right (p x) (all p xs) e)))

-- their bytes have one size
pieces_length : {A : Type 0} (offer : A → List ℕ) (size : ℕ) (p : A → Bool) → ((x : A) → p x ≡ true → length (offer x) ≡ size) → (xs : List A) → all p xs ≡ true → length (all_bytes offer xs) ≡ length xs * size
pieces_length offer size p h [] e = omega arith
pieces_length offer size p h (x ∷ xs) e =
    omega (arith, length-append (offer x) (all_bytes offer xs), h x (and_left (p x) (all p xs) e), pieces_length offer size p h xs (and_right (p x) (all p xs) e))

column_length : (f : SchemaField) → column_ok f ≡ true → length (field_offer f) ≡ field_bytes
column_length f h = field_length f (leb-true (length f.name) name_room (and_right (is_held f.id) (leb (length f.name) name_room) (field_tidy f h).1))

part_length : (f : PartitionField) → part_ok f ≡ true → length (partition_offer f) ≡ partition_bytes
part_length f h = partition_length f (leb-true (length f.name) name_room (and_right (is_held f.source && is_held f.buckets) (leb (length f.name) name_room) (partition_tidy f h).1))

module _ (before after : List Sent) where
  from : (x : Sent) → drop (place_behind before) (offers_of (before ++ x ∷ after)) ≡ offer_of x ++ offers_of after
  from x = ap (λ l. drop (place_behind before) l) (all_bytes_append offer_of before (x ∷ after)) ∙ drop-append_seam (offers_of before) (offer_of x ++ offers_of after)

  room : (x : Sent) (n : ℕ) → length (offer_of x) ≡ n → leb (place_behind before + n) (length (offers_of (before ++ x ∷ after))) ≡ true
  room x n e =
      le-leb (place_behind before + n) (length (offers_of (before ++ x ∷ after)))
      (omega (arith, ap length (all_bytes_append offer_of before (x ∷ after)), length-append (offers_of before) (offer_of x ++ offers_of after), length-append (offer_of x) (offers_of after)))

  schema_again : (s : Schema) → schema_ok s ≡ true → schema_formed s ≡ true → sent_in (offers_of (before ++ SendsSchema s ∷ after)) (update_at (place_behind before) (SendsSchema s)) ≡ some (SendsSchema s)
  unfolding sent_in offer_formed is_tidy_offer
  schema_again s h f =
      let k = parts (fits32 s.id) (leb (length s.fields) schema_field_room ∷ all column_ok s.fields ∷ []) h in
      let c = k.1.1.0 in
      let same = schema_offered before after s (all_told column_ok is_told (λ x e. (field_tidy x e).1) s.fields c) in
      let tidy = ap (λ l. all is_tidy_field (pieces_of field_bytes (length s.fields) l)) (from (SendsSchema s)) ∙ pieces_hold field_offer field_bytes column_ok is_tidy_field (λ x e. (column_length x e, (field_tidy x e).0)) s.fields (offers_of after) c in
      rw (room (SendsSchema s) (length s.fields * field_bytes) (pieces_length field_offer field_bytes column_ok column_length s.fields c), tidy, same, f)

  spec_again : (s : PartitionSpec) → spec_ok s ≡ true → offered_spec_formed s ≡ true → sent_in (offers_of (before ++ SendsSpec s ∷ after)) (update_at (place_behind before) (SendsSpec s)) ≡ some (SendsSpec s)
  unfolding sent_in spec_offer_formed is_tidy_spec
  spec_again s h f =
      let k = parts (fits32 s.id) (leb (length s.fields) partition_field_room ∷ all part_ok s.fields ∷ []) h in
      let c = k.1.1.0 in
      let same = spec_offered before after s (all_told part_ok is_told_partition (λ x e. (partition_tidy x e).1) s.fields c) in
      let tidy = ap (λ l. all is_tidy_partition (pieces_of partition_bytes (length s.fields) l)) (from (SendsSpec s)) ∙ pieces_hold partition_offer partition_bytes part_ok is_tidy_partition (λ x e. (part_length x e, (partition_tidy x e).0)) s.fields (offers_of after) c in
      rw (length-map s.fields (λ (x : PartitionField). x.id), room (SendsSpec s) (length s.fields * partition_bytes) (pieces_length partition_offer partition_bytes part_ok part_length s.fields c), tidy, same, f)

-- one that offers nothing sends itself, whatever is offered
plain_again : (offers : List ℕ) (u : Update) → plain_ok u ≡ true → sent_in offers u ≡ some (Plain u)
unfolding sent_in
plain_again offers (AssignUuid uuid) h = refl
plain_again offers (UpgradeFormatVersion v) h = refl
plain_again offers (SetLocation location) h = refl
plain_again offers (AddSnapshot s) h = refl
plain_again offers (SetBranchSnapshot name s) h = absurd (false≢true h)
plain_again offers (RemoveSnapshots ids) h = refl
plain_again offers (SetRef name r) h = refl
plain_again offers (RemoveRef name) h = refl
plain_again offers (AddSchema o) h = absurd (false≢true h)
plain_again offers (SetCurrentSchema id) h = refl
plain_again offers (RemoveSchemas ids) h = refl
plain_again offers (AddSortOrder o) h = refl
plain_again offers (SetDefaultSortOrder id) h = refl
plain_again offers (SetStatistics which f) h = absurd (false≢true h)
plain_again offers (RemoveStatistics which id) h = absurd (false≢true h)
plain_again offers (AddPartitionSpec o) h = absurd (false≢true h)
plain_again offers (SetDefaultPartitionSpec id) h = refl
plain_again offers (RemovePartitionSpecs ids) h = refl
plain_again offers (NotFormed counts) h = absurd (false≢true h)

sent_again : (before after : List Sent) (x : Sent) → sent_ok x ≡ true → sent_formed x ≡ true → sent_in (offers_of (before ++ x ∷ after)) (update_at (place_behind before) x) ≡ some x
sent_again before after (Plain u) h f = plain_again (offers_of (before ++ Plain u ∷ after)) u h
sent_again before after (SendsSchema s) h f = schema_again before after s h f
sent_again before after (SendsSpec s) h f = spec_again before after s h f

-- the rest of a list, behind some
rest_again : (before l : List Sent) → all sent_ok l ≡ true → all sent_formed l ≡ true → collect (sent_in (offers_of (before ++ l))) (updates_from (place_behind before) l) ≡ l
rest_again before [] h f = refl
rest_again before (x ∷ l) h f =
    ap (λ o. elim o [ none ↦ rest | some y ↦ y ∷ rest ]) (sent_again before l x (and_left (sent_ok x) (all sent_ok l) h) (and_left (sent_formed x) (all sent_formed l) f))
    ∙ ap (λ r. x ∷ r)
    (ap (λ b. collect (sent_in (offers_of b)) (updates_from (place_behind before + length (offer_of x)) l)) (sym (append_assoc before (x ∷ []) l))
    ∙ ap (λ p. collect (sent_in (offers_of ((before ++ (x ∷ [])) ++ l))) (updates_from p l)) (sym behind_one)
    ∙ rest_again (before ++ (x ∷ [])) l (and_right (sent_ok x) (all sent_ok l) h) (and_right (sent_formed x) (all sent_formed l) f))
  where
    rest : List Sent
    rest = collect (sent_in (offers_of (before ++ x ∷ l))) (updates_from (place_behind before + length (offer_of x)) l)

    behind_one : place_behind (before ++ (x ∷ [])) ≡ place_behind before + length (offer_of x)
    behind_one =
        ap length (all_bytes_append offer_of before (x ∷ [])) ∙ length-append (offers_of before) (offer_of x ++ []) ∙ ap (λ l. place_behind before + length l) (append-nil (offer_of x))

pub again : (l : List Sent) → all sent_ok l ≡ true → all sent_formed l ≡ true → collect (sent_in (offers_of l)) (updates_from 0 l) ≡ l
again l h f = rest_again [] l h f
