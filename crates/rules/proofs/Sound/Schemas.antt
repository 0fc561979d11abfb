-- Adding, setting and removing schemas keeps metadata sound.
use Prim.Native.Nat.{ℕ, ◌<◌}
use mathlib.Core.Path.{◌≡◌, refl, ap, ◌∙◌}
use mathlib.Core.Bool.{Bool, true, false, cond, not}
use mathlib.Core.List.{List, [], ◌∷◌}
use mathlib.Core.Option.{Option}
use lib.IntN.{ℤ, suc_ℤ}
use lib.Signed.{non_neg}
use lib.ListN.{length}
use borrow.Author.Tests.{leb-false, not-false}
use Rattle.rules.specs.Words.{eq_z, larger, is_some, some_with, any, keep, is_empty, is_in, highest, put, first_of}
use Rattle.rules.specs.Replies.{name_clash}
use Rattle.rules.specs.Capacities.{schema_room}
use Rattle.rules.specs.Register.{Schema, SchemaOffer, Metadata, State, with_schemas, with_last_column}
use Rattle.rules.specs.WellFormed.{field_ids, schema_formed, schema_below, schemas_formed, fields_formed, current_schema_held, has_schema}
use Rattle.rules.specs.Offers.{offered_schema, is_tidy_offer, offer_formed}
use Rattle.rules.specs.SchemaUpdates.{reused_schema, schema_ids, is_taken, new_schema_checks, add_schema_checks, offered_as, new_schema, add_schema, chosen, choice_checks, holds_schema, set_current_schema_checks, set_current_schema, remove_schemas_checks, remove_schemas}
use Rattle.rules.proofs.Checks.{by_test, by_option, both, and_left, and_right, parts, whole, schema_tests, passed, passed_unless, passed_after}
use Rattle.rules.proofs.Orders.{numbers_ordered, numbers_told, highest_non_neg, suc_non_neg}
use Rattle.rules.proofs.Tables.{any_put, any_keep, table_put, table_keep}
use Rattle.rules.proofs.Sound.Metadata.{Sound, SoundState, with_fields_lem, with_current_schema_lem, with_schemas_lem}

-- ---- offers

-- an offer that is well formed offers a well-formed schema
pub offer_formed_lem : (offers : List ℕ) (o : SchemaOffer) → offer_formed offers o ≡ true → schema_formed (offered_schema offers o) ≡ true
unfolding offer_formed
offer_formed_lem offers o h = and_right (is_tidy_offer offers o) (schema_formed (offered_schema offers o)) h

-- ---- add schema

-- a well-formed schema under another id
schema_named : (s : Schema) (id : ℤ) → non_neg id ≡ true → schema_formed s ≡ true → schema_formed (record { id = id; fields = s.fields }) ≡ true
schema_named s id h k = whole (non_neg id) (schema_tests s) (h, (parts (non_neg s.id) (schema_tests s) k).1)

-- the bytes of an offer do not say its id
pub reoffered_formed : (offers : List ℕ) (id : ℤ) (o : SchemaOffer) → non_neg id ≡ true → offer_formed offers o ≡ true → offer_formed offers (offered_as id o) ≡ true
unfolding offer_formed is_tidy_offer offered_schema
reoffered_formed offers id o n h =
    both (and_left (is_tidy_offer offers o) (schema_formed (offered_schema offers o)) h)
    (schema_named (offered_schema offers o) id n (offer_formed_lem offers o h))

new_schema_sound : (o : SchemaOffer) (s : Schema) (st : State) → schema_formed s ≡ true → length st.metadata.schemas < schema_room → Sound st.metadata → Sound (new_schema o s st).metadata
unfolding schemas_formed fields_formed current_schema_held
new_schema_sound o s st h r d =
    let m : Metadata = st.metadata in
    let l : List Schema = put schema_below s m.schemas in
    let f : schemas_formed l ≡ true = table_put numbers_ordered (λ (x : Schema). x.id) schema_room schema_formed s m.schemas r h d.schemas in
    let c : any (has_schema m.fields.current_schema) l ≡ true = any_put numbers_ordered (λ (x : Schema). x.id) (λ (k : ℤ). eq_z k m.fields.current_schema) s m.schemas d.schema_held in
    with_fields_lem (with_schemas l m) (with_schemas_lem m d l f c) (with_last_column (larger m.fields.last_column (highest (field_ids s))) m.fields) d.fields refl refl refl

pub add_schema_sound : (o : SchemaOffer) (s : Schema) (st : State) → schema_formed s ≡ true → first_of (add_schema_checks s st) ≡ 0 → Sound st.metadata → Sound (add_schema o s st).metadata
unfolding add_schema add_schema_checks
add_schema_sound o s st h e d =
    let l : List Schema = st.metadata.schemas in
    let id : ℤ = suc_ℤ (highest (schema_ids l)) in
    let f : schema_formed (record { id = id; fields = s.fields }) ≡ true = schema_named s id (suc_non_neg (highest (schema_ids l)) (highest_non_neg (schema_ids l))) h in
    let rest : first_of (cond (is_some (reused_schema s l)) [] (new_schema_checks st)) ≡ 0 = passed_after ((is_taken s l st.metadata.specs, name_clash) ∷ []) (cond (is_some (reused_schema s l)) [] (new_schema_checks st)) refl e in
    by_option SoundState (reused_schema s l)
    (λ n. new_schema_sound o (record { id = id; fields = s.fields }) st f (leb-false schema_room (length l) (passed_unless (is_some (reused_schema s l)) (new_schema_checks st) refl (ap is_some n) rest).1.0) d)
    (λ held n. by_test SoundState (some_with (eq_z held) st.added.schema) (λ g. d) (λ g. d))

-- ---- set schema

-- 15: an id that is not the current one is held
pub chosen_held : (id : ℤ) (added : Option ℤ) (current : ℤ) (held : ℤ → Bool) → first_of (choice_checks id added current held) ≡ 0 → eq_z (chosen id added) current ≡ false → held (chosen id added) ≡ true
chosen_held id added current held e n = not-false (held (chosen id added)) (rw n at (passed (choice_checks id added current held) refl e).1.0)

pub set_current_schema_sound : (id : ℤ) (st : State) → first_of (set_current_schema_checks id st) ≡ 0 → Sound st.metadata → Sound (set_current_schema id st).metadata
unfolding set_current_schema set_current_schema_checks fields_formed
set_current_schema_sound id st e d =
    by_test SoundState (eq_z (chosen id st.added.schema) st.metadata.fields.current_schema)
    (λ n. d)
    (λ n. with_current_schema_lem st.metadata d (chosen id st.added.schema) (chosen_held id st.added.schema st.metadata.fields.current_schema (holds_schema st.metadata.schemas) e n))

-- ---- remove schemas

-- 16: the current one stays
current_stays : (ids : List ℤ) (m : Metadata) → is_in ids m.fields.current_schema ≡ false → current_schema_held m ≡ true
    → any (has_schema m.fields.current_schema) (keep (λ (s : Schema). not (is_in ids s.id)) m.schemas) ≡ true
unfolding current_schema_held
current_stays ids m e h =
    any_keep (has_schema m.fields.current_schema) (λ (s : Schema). not (is_in ids s.id))
    (λ (x : Schema) q. ap (λ (k : ℤ). not (is_in ids k)) (numbers_told.equal x.id m.fields.current_schema q) ∙ ap not e) m.schemas h

pub remove_schemas_sound : (ids : List ℤ) (st : State) → first_of (remove_schemas_checks ids st) ≡ 0 → Sound st.metadata → Sound (remove_schemas ids st).metadata
unfolding remove_schemas remove_schemas_checks schemas_formed
remove_schemas_sound ids st e d =
    let m : Metadata = st.metadata in
    let p : Schema → Bool = λ s. not (is_in ids s.id) in
    by_test SoundState (is_empty ids)
    (λ f. d)
    (λ f. with_schemas_lem m d (keep p m.schemas) (table_keep schema_room schema_formed schema_below p m.schemas d.schemas) (current_stays ids m (passed (remove_schemas_checks ids st) refl e).0 d.schema_held))
