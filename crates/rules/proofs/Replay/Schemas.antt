-- Adding, choosing and removing schemas is replayed by what is logged.
use mathlib.Core.Path.{◌≡◌, refl}
use mathlib.Core.Bool.{Bool, true, false, cond, not}
use mathlib.Core.List.{List, [], ◌∷◌, ◌++◌, append-nil}
use mathlib.Core.Option.{Option, none, some}
use lib.IntN.{ℤ, suc_ℤ}
use lib.Signed.{lt_z, non_neg}
use Rattle.rules.specs.Words.{eq_z, some_with, keep, is_empty, is_in, highest, ascending}
use Rattle.rules.specs.Replies.{current_schema_removed}
use Rattle.rules.specs.Capacities.{schema_room}
use Rattle.rules.specs.Register.{Schema, SchemaOffer, Update, Terms, State, with_schemas, with_metadata, with_current_schema, on_fields, logged}
use Rattle.rules.specs.Register.Update.{AddSchema, SetCurrentSchema, RemoveSchemas}
use Rattle.rules.specs.WellFormed.{schema_formed, schema_below, schemas_formed, update_formed}
use Rattle.rules.specs.Offers.{offered_schema}
use Rattle.rules.specs.SchemaUpdates.{offered_as, reused_schema, schema_ids, added_schema, is_taken, add_schema_checks, reuse_schema, new_schema, add_schema, chosen, choice_logged, holds_schema, set_current_schema_checks, set_current_schema, remove_schemas_checks, held_schemas, remove_schemas}
use Rattle.rules.specs.Others.{is_others}
use Rattle.rules.specs.Updates.{offers_formed, checks, update_number, effect}
use Rattle.rules.specs.Replay.{strip}
use Rattle.rules.proofs.Checks.{passed}
use Rattle.rules.proofs.Orders.{highest_non_neg, suc_non_neg}
use Rattle.rules.proofs.Tables.{by_key, table_parts_lem}
use Rattle.rules.proofs.Sound.Metadata.{Sound}
use Rattle.rules.proofs.Replay.Keys.{held_formed, held_not_in, held_again, others_again, none_held}
use Rattle.rules.proofs.Sound.Schemas.{reoffered_formed}
use Rattle.rules.proofs.Sound.Updates.{accepted_form, accepted_offers, accepted_own, accepted_checks}
use Rattle.rules.proofs.Replay.Choices.{Rechosen, rechosen}
use Rattle.rules.proofs.Replay.Steps.{with_log, accepted_if, Replays, nothing, once}

-- ---- add schema

-- the schema with another id
abbrev numbered_as : ℤ → Schema → Schema
numbered_as id s = record { id = id; fields = s.fields }

-- neither the checks nor the search for an equal schema look at the offered id
renumbered_accepted : (terms : Terms) (id : ℤ) (o : SchemaOffer) (st : State) → non_neg id ≡ true → update_number terms (AddSchema o) st ≡ 0 → update_number terms (AddSchema (offered_as id o)) st ≡ 0
unfolding checks add_schema_checks is_taken update_formed offers_formed is_others offered_schema
renumbered_accepted terms id o st n e =
    accepted_if terms (AddSchema (offered_as id o)) st n
    (reoffered_formed terms.offers id o n (accepted_offers terms (AddSchema o) st e))
    (accepted_own terms (AddSchema o) st e)
    (accepted_checks terms (AddSchema o) st e)

pub add_schema_replays : (terms : Terms) (o : SchemaOffer) (st : State) → update_number terms (AddSchema o) st ≡ 0 → Replays terms 1 st (effect terms (AddSchema o) st)
unfolding effect add_schema strip offered_schema
add_schema_replays terms o st e = go (reused_schema s st.metadata.schemas) refl
  where
    s : Schema
    s = offered_schema terms.offers o

    given : Schema
    given = numbered_as (suc_ℤ (highest (schema_ids st.metadata.schemas))) s

    regiven : SchemaOffer
    regiven = offered_as given.id o

    fresh : update_number terms (AddSchema regiven) st ≡ 0
    fresh = renumbered_accepted terms given.id o st (suc_non_neg (highest (schema_ids st.metadata.schemas)) (highest_non_neg (schema_ids st.metadata.schemas))) e

    reuse : (id : ℤ) → reused_schema s st.metadata.schemas ≡ some id → (t : Bool) → some_with (eq_z id) st.added.schema ≡ t → Replays terms 1 st (cond t st (logged (AddSchema o) (added_schema id st)))
    reuse id q true r = nothing terms 1 st
    reuse id q false r = once terms (AddSchema o) st (logged (AddSchema o) (added_schema id st)) refl e refl (λ l h. rw (q, add_schema, r))

    go : (found : Option ℤ) → reused_schema s st.metadata.schemas ≡ found → Replays terms 1 st (elim found [ none ↦ new_schema o given st | some id ↦ reuse_schema o id st ])
    go none q = once terms (AddSchema regiven) st (new_schema o given st) refl fresh refl (λ l h. rw (q, add_schema))
    go (some id) q = reuse id q (some_with (eq_z id) st.added.schema) refl

-- ---- set schema

abbrev schema_logged : ℤ → State → ℤ
schema_logged id st = choice_logged (chosen id st.added.schema) st.added.schema

schema_rechosen : (terms : Terms) (id : ℤ) (st : State) → update_number terms (SetCurrentSchema id) st ≡ 0
    → Rechosen id st.added.schema st.metadata.fields.current_schema (holds_schema st.metadata.schemas) (schema_logged id st)
unfolding checks set_current_schema_checks update_formed
schema_rechosen terms id st e =
    rechosen id st.added.schema st.metadata.fields.current_schema (holds_schema st.metadata.schemas)
    (accepted_form terms (SetCurrentSchema id) st e)
    (accepted_checks terms (SetCurrentSchema id) st e)

schema_accepted : (terms : Terms) (id : ℤ) (st : State) → update_number terms (SetCurrentSchema id) st ≡ 0 → update_number terms (SetCurrentSchema (schema_logged id st)) st ≡ 0
unfolding checks set_current_schema_checks update_formed offers_formed is_others
schema_accepted terms id st e = accepted_if terms (SetCurrentSchema (schema_logged id st)) st (schema_rechosen terms id st e).formed refl (accepted_own terms (SetCurrentSchema id) st e) (schema_rechosen terms id st e).passes

pub set_current_schema_replays : (terms : Terms) (id : ℤ) (st : State) → update_number terms (SetCurrentSchema id) st ≡ 0 → Replays terms 1 st (effect terms (SetCurrentSchema id) st)
unfolding effect set_current_schema strip
set_current_schema_replays terms id st e = go (eq_z (chosen id st.added.schema) st.metadata.fields.current_schema) refl
  where
    set : State
    set = logged (SetCurrentSchema (schema_logged id st)) (on_fields (with_current_schema (chosen id st.added.schema)) st)

    go : (t : Bool) → eq_z (chosen id st.added.schema) st.metadata.fields.current_schema ≡ t → Replays terms 1 st (cond t st set)
    go true q = nothing terms 1 st
    go false q = once terms (SetCurrentSchema (schema_logged id st)) st set refl (schema_accepted terms id st e) refl (λ l h. rw ((schema_rechosen terms id st e).same, q))

-- ---- remove schemas

abbrev id_of : Schema → ℤ
id_of s = s.id

schemas_ascending : (l : List Schema) → schemas_formed l ≡ true → ascending (by_key lt_z id_of) l ≡ true
unfolding schemas_formed
schemas_ascending l h = (table_parts_lem schema_room schema_formed schema_below l h).2

-- the current schema is not in the list, so it is not among the held ids of the list
held_accepted : (terms : Terms) (ids : List ℤ) (st : State) → update_number terms (RemoveSchemas ids) st ≡ 0 → Sound st.metadata → update_number terms (RemoveSchemas (held_schemas ids st.metadata.schemas)) st ≡ 0
unfolding checks update_formed offers_formed is_others remove_schemas_checks
held_accepted terms ids st e k =
    let p : is_in ids st.metadata.fields.current_schema ≡ false = (passed ((is_in ids st.metadata.fields.current_schema, current_schema_removed) ∷ []) refl (accepted_checks terms (RemoveSchemas ids) st e)).0 in
    accepted_if terms (RemoveSchemas (held_schemas ids st.metadata.schemas)) st
    (held_formed id_of ids st.metadata.schemas (schemas_ascending st.metadata.schemas k.schemas) (accepted_form terms (RemoveSchemas ids) st e))
    refl
    (accepted_own terms (RemoveSchemas ids) st e)
    (rw (held_not_in id_of ids st.metadata.schemas st.metadata.fields.current_schema p))

pub remove_schemas_replays : (terms : Terms) (ids : List ℤ) (st : State) → update_number terms (RemoveSchemas ids) st ≡ 0 → Sound st.metadata → Replays terms 1 st (effect terms (RemoveSchemas ids) st)
unfolding effect remove_schemas strip
remove_schemas_replays terms ids st e k = go (is_empty ids)
  where
    held : List ℤ
    held = held_schemas ids st.metadata.schemas

    removed : State
    removed = logged (RemoveSchemas held) (with_metadata (with_schemas (keep (λ s. not (is_in ids s.id)) st.metadata.schemas) st.metadata) st)

    -- with none held the entry is dropped, and nothing has changed
    again : (t : Bool) → is_empty held ≡ t → (l : List Update) → remove_schemas held (with_log l st) ≡ with_log (l ++ strip (RemoveSchemas held ∷ [])) removed
    again true q l = rw (q, append-nil l, none_held id_of ids st.metadata.schemas q)
    again false q l = rw (held_again id_of ids st.metadata.schemas, q, others_again id_of ids st.metadata.schemas)

    go : (t : Bool) → Replays terms 1 st (cond t st removed)
    go true = nothing terms 1 st
    go false = once terms (RemoveSchemas held) st removed refl (held_accepted terms ids st e k) refl (λ l h. again (is_empty held) refl l)
