-- What an accepted text sends: updates that count 1, and schemas and specs that are not too long, whose names fit and whose numbers have 32 bits
-- (`accepted_sends`).
use Prim.Native.Nat.{ℕ, suc, ◌≤◌}
use Prim.Native.String.{String}
use native.Mathlib.Omega.{arith}
use mathlib.Core.Path.{◌≡◌, refl, sym, ap}
use mathlib.Core.Bool.{Bool, true, false, not, ◌&&◌, ◌||◌, true≢false}
use mathlib.Core.List.{List, [], ◌∷◌, ◌++◌}
use mathlib.Core.Option.{Option, none, some}
use lib.Dec.{eqb, leb}
use lib.IntN.{ℤ, pos}
use lib.ListN.{length, take}
use lib.Signed.{le_z, non_neg}
use borrow.Author.Tests.{le-leb}
use Rattle.rules.specs.Words.{is_some, or_else, some_with, all, keep, first, same_bytes}
use Rattle.rules.specs.Replies.{accepted}
use Rattle.rules.specs.Capacities.{list_room, name_room, schema_field_room, partition_field_room, largest_field_id}
use Rattle.rules.specs.Register.{SchemaField, PartitionField}
use Rattle.rules.specs.Run.{weight}
use Rattle.rules.proofs.Checks.{by_test, by_option, both, and_right, by_either, parts}
use Rattle.rules.proofs.Orders.{names_told_lem}
use Rattle.json_rule.specs.Letters.{bytes}
use Rattle.json_rule.specs.Lexemes.{is_digit}
use Rattle.json_rule.specs.Values.{digits_value}
use Rattle.json_rule.specs.Tree.{Json, Items, no_item, item, Members, text}
use Rattle.json_rule.specs.Members.{value_of, text_in, number_in, items_in, members_in, is_one_of, text_by, number_or0, items_by, members_by}
use Rattle.json_rule.specs.Records.{Sent, Plain, SendsSchema, SendsSpec, records_of, field_of, schema_of, buckets_of, partition_field_of, spec_of}
use Rattle.json_rule.specs.Shapes.{Kind, AnUpdate, ASchema, AField, ASpec, APartitionField, TextUpTo, NumberIn, ListUpTo, ARecord, Row, Action, actions, action_name, rows_of, update_list}
use Rattle.json_rule.specs.Defects.{row_named, listed_action, action_of, count_of, plain_transforms, bucket_start, bucket_digits, is_bucket, is_transform, defects, item_defects, member_defects, tree_defects}
use Rattle.json_rule.specs.Reading.{sent_of, list_of, reading}
use Rattle.json_rule.proofs.Faultless.{empty_parts, accepted_faultless, record_fits, list_fits, text_fits, number_fits, transform_fits, member_fits}

-- ---- what can be sent

abbrev pub is_sendable_field : SchemaField → Bool
is_sendable_field f = le_z f.id (pos largest_field_id) && leb (length f.name) name_room

-- the number of buckets is not below 0
abbrev pub is_sendable_partition : PartitionField → Bool
is_sendable_partition f = le_z f.source (pos largest_field_id) && (non_neg f.buckets && le_z f.buckets (pos largest_field_id)) && leb (length f.name) name_room

abbrev pub is_sendable : Sent → Bool
is_sendable (Plain u) = eqb (weight u) 1
is_sendable (SendsSchema s) = leb (length s.fields) schema_field_room && all is_sendable_field s.fields
is_sendable (SendsSpec s) = leb (length s.fields) partition_field_room && all is_sendable_partition s.fields

-- ---- something holds of each

data Each {A : Type 0} (P : A → Type 0) : List A → Type 0 where
  no_more : Each P []
  ◌also◌ : {x : A} {xs : List A} → P x → Each P xs → Each P (x ∷ xs)

infixr 5 ◌also◌
-- of the first for which a test holds
first_each : {A : Type 0} (P : A → Type 0) (p : A → Bool) {l : List A} → Each P l → (a : A) → first p l ≡ some a → P a
first_each P p no_more a e = absurd (true≢false (ap is_some (sym e)))
first_each P p (◌also◌ {x = x} {xs = xs} h hs) a e =
    by_test (λ o. o ≡ some a → P a) (p x) (λ _ f. let k : x ≡ a = cc in rw k at h) (λ _ f. first_each P p hs a f) e

-- of what is one of these words
one_of : (P : List ℕ → Type 0) {words : List (List ℕ)} → Each P words → (w : List ℕ) → is_one_of words w ≡ true → P w
one_of P no_more w e = absurd (true≢false (sym e))
one_of P (◌also◌ {x = x} {xs = xs} h hs) w e = by_either (same_bytes w x) (is_one_of xs w) (λ s. rw (names_told_lem.equal w x s) h) (one_of P hs w) e

-- ---- members by name, of an object with which nothing is wrong

-- nothing is wrong with the members of a record
abbrev Faultless : Kind → Members → Type 0
Faultless kind ms = (schema : ℕ) × (member_defects schema (rows_of kind) [] ms ≡ [])

module _ (kind : Kind) (ms : Members) (f : Faultless kind ms) (name : String) where
  -- what holds of every value of the name's shape, and where the member is absent
  by_value : {A : Type 0} (P : A → Type 0) (r : Row) {absent : A} {read : Json → A} → row_named (bytes name) (rows_of kind) ≡ some r → P absent
      → ((x : Json) → defects f.0 r.of_schema r.shape x ≡ [] → P (read x)) → P (elim (value_of (bytes name) ms) [ none ↦ absent | some x ↦ read x ])
  by_value P r q a h = by_option P (value_of (bytes name) ms) (λ e. a) (λ x e. h x (member_fits f.0 (rows_of kind) (bytes name) r q [] ms refl f.1 x e))

  text_by_lem : (room : ℕ) (r : Row) → row_named (bytes name) (rows_of kind) ≡ some r → r.shape ≡ TextUpTo room → leb (length (text_by name ms)) room ≡ true
  text_by_lem room r q s =
      by_value (λ l. leb (length l) room ≡ true) r q (le-leb 0 room (omega arith)) (λ x e. le-leb _ room (text_fits f.0 r.of_schema room x (rw s at e)))

  number_by_lem : (low : ℤ) (high : ℕ) (r : Row) → row_named (bytes name) (rows_of kind) ≡ some r → r.shape ≡ NumberIn low (pos high) → le_z (number_or0 name ms) (pos high) ≡ true
  number_by_lem low high r q s =
      by_value (λ o. le_z (or_else o (pos 0)) (pos high) ≡ true) r q (le-leb 0 high (omega arith)) (λ x e. go (number_in x) (number_fits f.0 r.of_schema low (pos high) x (rw s at e)))
    where
      go : (o : Option ℤ) → some_with (λ n. le_z low n && le_z n (pos high)) o ≡ true → le_z (or_else o (pos 0)) (pos high) ≡ true
      go none h = le-leb 0 high (omega arith)
      go (some n) h = and_right (le_z low n) (le_z n (pos high)) h

field_sendable : (ms : Members) → Faultless AField ms → is_sendable_field (field_of ms) ≡ true
field_sendable ms f = both (number_by_lem AField ms f "id" _ largest_field_id _ refl refl) (text_by_lem AField ms f "name" name_room _ refl refl)

-- ---- the number of buckets

-- `bucket[` has no digits
digits_behind : (text rest : List ℕ) → text ≡ bucket_start ++ rest → keep is_digit text ≡ bucket_digits text
unfolding is_digit
digits_behind text rest e = rw e

bucket_few : (text : List ℕ) → is_bucket text ≡ true → leb (digits_value 0 (keep is_digit text)) largest_field_id ≡ true
unfolding is_bucket
bucket_few text h =
    let digits = bucket_digits text in
    let p = parts (same_bytes text (bucket_start ++ digits ++ bytes "]")) (leb 1 (length digits) ∷ (eqb (length digits) 1 || not (same_bytes (take 1 digits) (bytes "0"))) ∷ leb (digits_value 0 digits) 2147483647 ∷ []) h in
    rw (digits_behind text (digits ++ bytes "]") (names_told_lem.equal text (bucket_start ++ digits ++ bytes "]") p.0)) p.1.1.1.0

plain_few : Each (λ w. leb (digits_value 0 (keep is_digit w)) largest_field_id ≡ true) plain_transforms
unfolding is_digit
plain_few = refl also refl also refl also refl also no_more

transform_few : (text : List ℕ) → is_transform text ≡ true → leb (digits_value 0 (keep is_digit text)) largest_field_id ≡ true
unfolding is_transform
transform_few text h = by_either (is_one_of plain_transforms text) (is_bucket text) (one_of (λ w. leb (digits_value 0 (keep is_digit w)) largest_field_id ≡ true) plain_few text) (bucket_few text) h

partition_sendable : (ms : Members) → Faultless APartitionField ms → is_sendable_partition (partition_field_of ms) ≡ true
partition_sendable ms f =
    both (both (number_by_lem APartitionField ms f "source-id" _ largest_field_id _ refl refl)
    (by_value APartitionField ms f "transform" (λ text. (non_neg (buckets_of text) && le_z (buckets_of text) (pos largest_field_id)) ≡ true) _ refl refl (λ x e. go (text_in x) (transform_fits f.0 false x e))))
    (text_by_lem APartitionField ms f "name" name_room _ refl refl)
  where
    go : (o : Option (List ℕ)) → some_with is_transform o ≡ true → (non_neg (buckets_of (or_else o [])) && le_z (buckets_of (or_else o [])) (pos largest_field_id)) ≡ true
    go none h = refl
    go (some text) h = transform_few text h

-- ---- records with fields, and actions

-- records of which each holds
items_hold : {A : Type 0} (make : Members → A) (p : A → Bool) (kind : Kind) → ((ms : Members) → Faultless kind ms → p (make ms) ≡ true)
    → (schema : ℕ) (xs : Items) → item_defects schema (ARecord kind) xs ≡ [] → (length (records_of make xs) ≡ count_of xs) × (all p (records_of make xs) ≡ true)
unfolding defects
items_hold make p kind h schema no_item e = (refl, refl)
items_hold make p kind h schema (item x xs) e =
    let q = empty_parts (defects schema false (ARecord kind) x) (item_defects schema (ARecord kind) xs) e in
    let rest = items_hold make p kind h schema xs q.1 in
    (ap suc rest.0, both (h (members_in x) (record_fits schema false kind x q.0)) rest.1)

-- of a record with a list of fields
fields_hold : {A : Type 0} (make : Members → A) (p : A → Bool) (room : ℕ) (kind each : Kind) (r : Row) → row_named (bytes "fields") (rows_of kind) ≡ some r → r.shape ≡ ListUpTo room (ARecord each)
    → ((ms : Members) → Faultless each ms → p (make ms) ≡ true) → (ms : Members) → Faultless kind ms
    → (leb (length (records_of make (items_by "fields" ms))) room && all p (records_of make (items_by "fields" ms))) ≡ true
fields_hold make p room kind each r q s h ms f =
    by_value kind ms f "fields" (λ xs. (leb (length (records_of make xs)) room && all p (records_of make xs)) ≡ true) r q (both (le-leb 0 room (omega arith)) refl)
    (λ x e. let l = list_fits f.0 r.of_schema room (ARecord each) x (rw s at e) in
    let g = items_hold make p each h f.0 (items_in x) l.1 in
    both (le-leb (length (records_of make (items_in x))) room (omega arith)) g.1)

schema_sendable : (ms : Members) → Faultless AnUpdate ms → is_sendable (SendsSchema (schema_of (members_by "schema" ms))) ≡ true
schema_sendable ms f =
    by_value AnUpdate ms f "schema" (λ inner. is_sendable (SendsSchema (schema_of inner)) ≡ true) _ refl refl
    (λ x e. fields_hold field_of is_sendable_field schema_field_room ASchema AField _ refl refl field_sendable (members_in x) (record_fits f.0 false ASchema x e))

spec_sendable : (ms : Members) → Faultless AnUpdate ms → is_sendable (SendsSpec (spec_of (members_by "spec" ms))) ≡ true
spec_sendable ms f =
    by_value AnUpdate ms f "spec" (λ inner. is_sendable (SendsSpec (spec_of inner)) ≡ true) _ refl refl
    (λ x e. fields_hold partition_field_of is_sendable_partition partition_field_room ASpec APartitionField _ refl refl partition_sendable (members_in x) (record_fits f.0 false ASpec x e))

abbrev Sends : Action → Type 0
Sends a = (ms : Members) → Faultless AnUpdate ms → is_sendable (a.sends ms) ≡ true

all_send : Each Sends actions
all_send =
    (λ ms f. refl)
    also (λ ms f. refl)
    also (λ ms f. refl)
    also (λ ms f. refl)
    also (λ ms f. refl)
    also (λ ms f. refl)
    also (λ ms f. refl)
    also schema_sendable
    also (λ ms f. refl)
    also (λ ms f. refl)
    also (λ ms f. refl)
    also (λ ms f. refl)
    also spec_sendable
    also (λ ms f. refl)
    also (λ ms f. refl)
    also no_more

listed_sends : (word : Option (List ℕ)) (a : Action) → listed_action word ≡ some a → Sends a
listed_sends none a e = absurd (true≢false (ap is_some (sym e)))
listed_sends (some word) a e = first_each Sends (λ (a : Action). same_bytes a.word word) all_send a e

action_sends : (ms : Members) (a : Action) → action_of ms ≡ some a → Sends a
unfolding action_of
action_sends ms a e = by_option (λ o. o ≡ some a → Sends a) (value_of action_name ms) (λ _ f. absurd (true≢false (ap is_some (sym f)))) (λ x _ f. listed_sends (text_in x) a f) e

-- ---- the list

-- at most so many, each of which can be sent
abbrev Sendable : ℕ → List Sent → Type 0
Sendable n l = (length l ≤ n) × (all is_sendable l ≡ true)

items_send : (schema : ℕ) (xs : Items) → item_defects schema (ARecord AnUpdate) xs ≡ [] → Sendable (count_of xs) (sent_of xs)
unfolding defects
items_send schema no_item e = (omega arith, refl)
items_send schema (item x xs) e =
    let p = empty_parts (defects schema false (ARecord AnUpdate) x) (item_defects schema (ARecord AnUpdate) xs) e in
    let rest = items_send schema xs p.1 in
    by_option (λ l. Sendable (suc (count_of xs)) (l ++ sent_of xs)) (action_of (members_in x))
    (λ _. (omega arith, rest.1))
    (λ a q. (omega arith, both (action_sends (members_in x) a q (members_in x) (record_fits schema false AnUpdate x p.0)) rest.1))

tree_sends : (tree : Option Json) → tree_defects update_list tree ≡ [] → Sendable list_room (list_of tree)
tree_sends none e = (omega arith, refl)
tree_sends (some x) e =
    let l = list_fits 0 false list_room (ARecord AnUpdate) x e in
    let s = items_send 0 (items_in x) l.1 in
    (omega arith, s.1)

-- of an accepted text
pub accepted_sends : (bs : List ℕ) → (reading bs).number ≡ accepted → (length (list_of (text bs).tree) ≤ list_room) × (all is_sendable (list_of (text bs).tree) ≡ true)
accepted_sends bs e = tree_sends (text bs).tree (accepted_faultless bs e).faultless
