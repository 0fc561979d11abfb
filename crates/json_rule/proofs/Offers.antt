-- What is sent is offered as it was sent: a run that reads the bytes of the offers at the place that an update says finds the schema or the spec of that
-- update, where its numbers are not below 0. (One below 0 is offered as a number that is not well formed.)
use Prim.Native.Nat.{ℕ, ◌+◌, ◌*◌, ◌-◌, ◌/◌, ◌%◌, ◌≤◌, ◌<◌}
use native.Mathlib.Nat.{add-zero, zero-add, div-div-eq-div-mul, mod-eq_of_lt}
use native.Mathlib.Omega.{arith}
use mathlib.Core.Path.{◌≡◌, refl, ◌∙◌, sym, ap}
use mathlib.Core.Bool.{Bool, true, false, ◌&&◌, false≢true}
use mathlib.Core.List.{List, [], ◌∷◌, ◌++◌, map, append_assoc}
use mathlib.Core.Option.{Option}
use lib.Dec.{leb, ltb}
use lib.IntN.{ℤ, pos, negsuc}
use lib.ListN.{length, get_or, drop, replicate, length-map, length-append}
use lib.Seq.{take_at, drop_at, take-append_seam, drop-append_seam}
use lib.Signed.{le_z, non_neg}
use borrow.Author.Tests.{leb-true, ltb-true, lt-ltb}
use Rattle.rules.specs.Words.{all, pair_up}
use Rattle.rules.specs.Replies.{accepted}
use Rattle.rules.specs.Capacities.{name_room, field_bytes, partition_bytes, schema_field_room, partition_field_room, largest_field_id}
use Rattle.rules.specs.Register.{SchemaField, Schema, SchemaOffer, PartitionField, PartitionSpec, SpecOffer, Update}
use Rattle.rules.specs.Register.Update.{AddSchema, AddPartitionSpec}
use Rattle.rules.specs.Offers.{pieces_of, offered_field, offered_schema, offered_partition, offered_spec}
use Rattle.rules.proofs.Checks.{both, and_left, and_right, parts}
use Rattle.rules.proofs.Tables.{all_head, all_tail, all_parts}
use Rattle.json_rule.specs.Records.{Sent, SendsSchema, SendsSpec, field_offer, partition_offer, all_bytes, offer_of, offers_of, update_at, updates_from}
use Rattle.json_rule.specs.Tree.{text}
use Rattle.json_rule.specs.Reading.{Reading, list_of, reading}
use Rattle.json_rule.proofs.Faultless.{accepted_faultless}
use Rattle.json_rule.proofs.Sent.{is_sendable_field, is_sendable_partition, is_sendable, accepted_sends}
use Rattle.json_rule.proofs.Fits.{field_length, partition_length}

-- ---- a field is read back

-- four bytes hold the number, which is not below 0
abbrev pub is_held : ℤ → Bool
is_held (pos n) = ltb n 4294967296
is_held (negsuc n) = false

abbrev pub is_told : SchemaField → Bool
is_told f = is_held f.id && leb (length f.name) name_room

abbrev pub is_told_partition : PartitionField → Bool
is_told_partition f = is_held f.source && is_held f.buckets && leb (length f.name) name_room

-- the four bytes of a number, the lowest first
number_again : (n : ℕ) → n < 4294967296 → n % 256 + 256 * (n / 256 % 256 + 256 * (n / 65536 % 256 + 256 * (n / 16777216 % 256))) ≡ n
number_again n h =
    let l : n / 16777216 < 256 = omega arith in
    omega (arith, div-div-eq-div-mul n 256 256, div-div-eq-div-mul n 65536 256, mod-eq_of_lt l)

field_again : (f : SchemaField) → is_told f ≡ true → offered_field (field_offer f) ≡ f
field_again f h = go f.id (and_left (is_held f.id) _ h)
  where
    go : (id : ℤ) → is_held id ≡ true → offered_field (field_offer (record { id = id; field_type = f.field_type; name = f.name })) ≡ record { id = id; field_type = f.field_type; name = f.name }
    go (pos n) k = λ i. record { id = pos (number_again n (ltb-true n 4294967296 k) i); field_type = f.field_type; name = take-append_seam f.name (replicate (name_room - length f.name) 0) i }
    go (negsuc n) k = absurd (false≢true k)

partition_again : (f : PartitionField) → is_told_partition f ≡ true → offered_partition (partition_offer f) f.id ≡ f
partition_again f h = let p = parts (is_held f.source) (is_held f.buckets ∷ leb (length f.name) name_room ∷ []) h in go f.source f.buckets p.0 p.1.0
  where
    with : ℤ → ℤ → PartitionField
    with source buckets = record { source = source; id = f.id; transform = f.transform; buckets = buckets; name = f.name }

    go : (source buckets : ℤ) → is_held source ≡ true → is_held buckets ≡ true → offered_partition (partition_offer (with source buckets)) f.id ≡ with source buckets
    go (pos n) (pos m) k l = λ i. record {
      source = pos (number_again n (ltb-true n 4294967296 k) i);
      id = f.id;
      transform = f.transform;
      buckets = pos (number_again m (ltb-true m 4294967296 l) i);
      name = take-append_seam f.name (replicate (name_room - length f.name) 0) i;
    }
    go (pos n) (negsuc m) k l = absurd (false≢true l)
    go (negsuc n) buckets k l = absurd (false≢true k)

-- ---- fields one after the other

-- pieces of one size are found again, whatever stands behind them
pieces_again : {A : Type 0} (offer : A → List ℕ) (size : ℕ) (p : A → Bool) → ((x : A) → p x ≡ true → length (offer x) ≡ size)
    → (xs : List A) (more : List ℕ) → all p xs ≡ true → pieces_of size (length xs) (all_bytes offer xs ++ more) ≡ map offer xs
pieces_again offer size p h [] more e = refl
pieces_again offer size p h (x ∷ xs) more e =
    let l : length (offer x) ≡ size = h x (all_head p x xs e) in
    rw (append_assoc (offer x) (all_bytes offer xs) more, take_at (offer x) (all_bytes offer xs ++ more) size l, drop_at (offer x) (all_bytes offer xs ++ more) size l, pieces_again offer size p h xs more (all_tail p x xs e))

all_bytes_append : {A : Type 0} (f : A → List ℕ) (xs ys : List A) → all_bytes f (xs ++ ys) ≡ all_bytes f xs ++ all_bytes f ys
all_bytes_append f [] ys = refl
all_bytes_append f (x ∷ xs) ys = rw (all_bytes_append f xs ys, append_assoc)

map_again : {A B : Type 0} (f : A → B) (g : B → A) (p : A → Bool) → ((x : A) → p x ≡ true → g (f x) ≡ x) → (xs : List A) → all p xs ≡ true → map g (map f xs) ≡ xs
map_again f g p h [] e = refl
map_again f g p h (x ∷ xs) e = rw (h x (all_head p x xs e), map_again f g p h xs (all_tail p x xs e))

pairs_again : (fs : List PartitionField) → all is_told_partition fs ≡ true → pair_up offered_partition (map partition_offer fs) (map (λ (f : PartitionField). f.id) fs) ≡ fs
pairs_again [] e = refl
pairs_again (f ∷ fs) e = rw (partition_again f (all_head is_told_partition f fs e), pairs_again fs (all_tail is_told_partition f fs e))

-- ---- among what a list offers

-- the place of an offer is where the offers before it end
abbrev pub place_behind : List Sent → ℕ
place_behind l = length (offers_of l)

-- from there on its bytes stand, and then those of what is sent later
offers_from : (before after : List Sent) (x : Sent) → drop (place_behind before) (offers_of (before ++ x ∷ after)) ≡ offer_of x ++ offers_of after
offers_from before after x = rw (all_bytes_append offer_of before (x ∷ after), drop-append_seam)

pub schema_offered : (before after : List Sent) (s : Schema) → all is_told s.fields ≡ true
    → offered_schema (offers_of (before ++ SendsSchema s ∷ after)) (record { id = s.id; at = place_behind before; count = length s.fields }) ≡ s
unfolding offered_schema
schema_offered before after s h = λ i. record { id = s.id; fields = fields i }
  where
    fields : map offered_field (pieces_of field_bytes (length s.fields) (drop (place_behind before) (offers_of (before ++ SendsSchema s ∷ after)))) ≡ s.fields
    fields =
        rw (
          offers_from before after (SendsSchema s),
          pieces_again field_offer field_bytes is_told (λ f t. field_length f (leb-true (length f.name) name_room (and_right (is_held f.id) _ t))) s.fields (offers_of after) h,
        )
        (map_again field_offer offered_field is_told field_again s.fields h)

pub spec_offered : (before after : List Sent) (s : PartitionSpec) → all is_told_partition s.fields ≡ true
    → offered_spec (offers_of (before ++ SendsSpec s ∷ after)) (record { id = s.id; at = place_behind before; ids = map (λ (f : PartitionField). f.id) s.fields }) ≡ s
unfolding offered_spec
spec_offered before after s h = λ i. record { id = s.id; fields = fields i }
  where
    ids : List (Option ℤ)
    ids = map (λ (f : PartitionField). f.id) s.fields

    fields : pair_up offered_partition (pieces_of partition_bytes (length ids) (drop (place_behind before) (offers_of (before ++ SendsSpec s ∷ after)))) ids ≡ s.fields
    fields =
        rw (
          offers_from before after (SendsSpec s),
          length-map s.fields (λ (f : PartitionField). f.id),
          pieces_again partition_offer partition_bytes is_told_partition (λ f t. partition_length f (leb-true (length f.name) name_room (and_right (is_held f.source && is_held f.buckets) _ t))) s.fields (offers_of after) h,
        )
        (pairs_again s.fields h)

-- the update that says where: those sent before it stand before it
updates_from_lem : (place : ℕ) (before after : List Sent) (x : Sent) (d : Update) → get_or (updates_from place (before ++ x ∷ after)) (length before) d ≡ update_at (place + place_behind before) x
updates_from_lem place [] after x d = ap (λ p. update_at p x) (sym (add-zero place))
updates_from_lem place (y ∷ before) after x d =
    updates_from_lem (place + length (offer_of y)) before after x d
    ∙ ap (λ p. update_at p x) (simp length-append (omega arith))

pub update_at_lem : (before after : List Sent) (x : Sent) (d : Update) → get_or (updates_from 0 (before ++ x ∷ after)) (length before) d ≡ update_at (place_behind before) x
update_at_lem before after x d = updates_from_lem 0 before after x d ∙ ap (λ p. update_at p x) (zero-add (place_behind before))

-- ---- a list that is read

held_number : (z : ℤ) → non_neg z ≡ true → le_z z (pos largest_field_id) ≡ true → is_held z ≡ true
held_number (pos n) p h = let l : n ≤ largest_field_id = leb-true n largest_field_id h in lt-ltb n 4294967296 (omega arith)
held_number (negsuc n) p h = absurd (false≢true p)

-- its ids are not below 0
abbrev pub is_above_id : SchemaField → Bool
is_above_id f = non_neg f.id

abbrev pub is_above_source : PartitionField → Bool
is_above_source f = non_neg f.source

told_field : (f : SchemaField) → is_above_id f ≡ true → is_sendable_field f ≡ true → is_told f ≡ true
told_field f p h = both (held_number f.id p (and_left _ (leb (length f.name) name_room) h)) (and_right (le_z f.id (pos largest_field_id)) _ h)

told_partition : (f : PartitionField) → is_above_source f ≡ true → is_sendable_partition f ≡ true → is_told_partition f ≡ true
told_partition f p h =
    let k = parts (le_z f.source (pos largest_field_id)) ((non_neg f.buckets && le_z f.buckets (pos largest_field_id)) ∷ leb (length f.name) name_room ∷ []) h in
    both (both (held_number f.source p k.0) (held_number f.buckets (and_left (non_neg f.buckets) _ k.1.0) (and_right (non_neg f.buckets) _ k.1.0))) k.1.1.0

all_two : {A : Type 0} (p q r : A → Bool) → ((x : A) → p x ≡ true → q x ≡ true → r x ≡ true) → (l : List A) → all p l ≡ true → all q l ≡ true → all r l ≡ true
all_two p q r h [] a b = refl
all_two p q r h (x ∷ l) a b = both (h x (all_head p x l a) (all_head q x l b)) (all_two p q r h l (all_tail p x l a) (all_tail q x l b))

-- what was sent at a place of the list can be sent
sent_at_lem : (bs : List ℕ) → (reading bs).number ≡ accepted → (before after : List Sent) (x : Sent) → list_of (text bs).tree ≡ before ++ x ∷ after → is_sendable x ≡ true
sent_at_lem bs e before after x l = all_head is_sendable x after (all_parts is_sendable before (x ∷ after) (rw l at (accepted_sends bs e).1)).1

-- the update at a place of the list offers the schema that was sent there
pub record SchemaOffered (r : Reading) (k : ℕ) (s : Schema) : Type 0 where
  pub offer : SchemaOffer
  pub update : (d : Update) → get_or r.updates k d ≡ AddSchema offer
  pub same : offered_schema r.offers offer ≡ s

pub record SpecOffered (r : Reading) (k : ℕ) (s : PartitionSpec) : Type 0 where
  pub offer : SpecOffer
  pub update : (d : Update) → get_or r.updates k d ≡ AddPartitionSpec offer
  pub same : offered_spec r.offers offer ≡ s

-- each added schema, and each added spec, of an accepted text
module _ (bs : List ℕ) (e : (reading bs).number ≡ accepted) (before after : List Sent) where
  pub read_offers_schema : (s : Schema) → list_of (text bs).tree ≡ before ++ SendsSchema s ∷ after → all is_above_id s.fields ≡ true → SchemaOffered (reading bs) (length before) s
  read_offers_schema s l n =
      let a = accepted_faultless bs e in
      let fits = and_right (leb (length s.fields) schema_field_room) (all is_sendable_field s.fields) (sent_at_lem bs e before after (SendsSchema s) l) in
      record {
        offer = record { id = s.id; at = place_behind before; count = length s.fields };
        update = λ d. rw (a.updates, l) (update_at_lem before after (SendsSchema s) d);
        same = rw (a.offers, l) (schema_offered before after s (all_two is_above_id is_sendable_field is_told told_field s.fields n fits));
      }

  pub read_offers_spec : (s : PartitionSpec) → list_of (text bs).tree ≡ before ++ SendsSpec s ∷ after → all is_above_source s.fields ≡ true → SpecOffered (reading bs) (length before) s
  read_offers_spec s l n =
      let a = accepted_faultless bs e in
      let fits = and_right (leb (length s.fields) partition_field_room) (all is_sendable_partition s.fields) (sent_at_lem bs e before after (SendsSpec s) l) in
      record {
        offer = record { id = s.id; at = place_behind before; ids = map (λ (f : PartitionField). f.id) s.fields };
        update = λ d. rw (a.updates, l) (update_at_lem before after (SendsSpec s) d);
        same = rw (a.offers, l) (spec_offered before after s (all_two is_above_source is_sendable_partition is_told_partition told_partition s.fields n fits));
      }
