-- Schemas: document 01, "Rules for each update", **Add schema**, **Set schema** and **Remove schemas**; document 02, request (ix), on adding one.
-- Each update has its checks, in 01's order, and its effect, which counts where no check fails.
use Rattle.std.specs.Prelude.{ℕ, Bool, cond, not, ◌&&◌, List, [], ◌∷◌, map, eqb, leb, ℤ, length}
use Rattle.std.proofs.Math.Option.{Option, none, some}
use Rattle.std.proofs.Math.IntN.{suc_ℤ}
use Rattle.rules.specs.Words.{eq_z, larger, is_some, or_else, some_with, any, keep, first, is_empty, same_list, same_bytes, is_in, highest, put, Check}
use Rattle.rules.specs.Replies.{nothing_added, unknown_id, current_schema_removed, ids_exhausted, table_full, name_clash}
use Rattle.rules.specs.Capacities.{schema_room, largest_schema_id}
use Rattle.rules.specs.Register.{SchemaField, Schema, SchemaOffer, PartitionField, PartitionSpec, State, with_schemas, with_metadata, with_added, with_last_column, with_current_schema, on_fields, logged, last_added}
use Rattle.rules.specs.Register.Update.{AddSchema, SetCurrentSchema, RemoveSchemas}
use Rattle.rules.specs.WellFormed.{field_ids, schema_below, has_schema}

-- ---- add schema

-- another name or another type makes another field
abbrev pub same_schema_field : SchemaField → SchemaField → Bool
same_schema_field a b = eq_z a.id b.id && eqb a.field_type b.field_type && same_bytes a.name b.name

-- "Equal field lists reuse the smallest such id": the table is ascending, so it is the first
abbrev pub reused_schema : Schema → List Schema → Option ℤ
reused_schema s l = elim (first (λ (h : Schema). same_list same_schema_field h.fields s.fields) l) [ none ↦ none | some h ↦ some h.id ]

abbrev pub schema_ids : List Schema → List ℤ
schema_ids l = map (λ (s : Schema). s.id) l

abbrev pub added_schema : ℤ → State → State
added_schema id st = with_added (record { schema = some id; order = st.added.order; spec = st.added.spec }) st

-- a field of a held schema has the name
abbrev pub names_column : List Schema → List ℕ → Bool
names_column l name = any (λ (s : Schema). any (λ (f : SchemaField). same_bytes f.name name) s.fields) l

-- a field of a held spec has the name
abbrev pub names_partition : List PartitionSpec → List ℕ → Bool
names_partition l name = any (λ (s : PartitionSpec). any (λ (f : PartitionField). same_bytes f.name name) s.fields) l

-- "Name clashes follow `validate_schema_field_names`": a name of the new schema is the name of a partition, and no schema had it before
unfoldable pub is_taken : Schema → List Schema → List PartitionSpec → Bool
is_taken s schemas specs = any (λ (f : SchemaField). names_partition specs f.name && not (names_column schemas f.name)) s.fields

-- "else highest + 1 (18, 19)"
abbrev pub new_schema_checks : State → List Check
new_schema_checks st =
    (eq_z (highest (schema_ids st.metadata.schemas)) largest_schema_id, ids_exhausted)
    ∷ (leb schema_room (length st.metadata.schemas), table_full)
    ∷ []

-- "31 name clash (also in adding a schema, before 18)"
unfoldable pub add_schema_checks : Schema → State → List Check
add_schema_checks s st =
    (is_taken s st.metadata.schemas st.metadata.specs, name_clash)
    ∷ cond (is_some (reused_schema s st.metadata.schemas)) [] (new_schema_checks st)

-- "Reuse is logged, as offered, only if that id is not already the last added; either way it becomes so."
abbrev pub reuse_schema : SchemaOffer → ℤ → State → State
reuse_schema o id st = cond (some_with (eq_z id) st.added.schema) st (logged (AddSchema o) (added_schema id st))

-- the offer under another id
abbrev pub offered_as : ℤ → SchemaOffer → SchemaOffer
offered_as id o = record { id = id; at = o.at; count = o.count }

-- "A new schema raises last column id to its highest field id, if larger." It is logged with its new id.
abbrev pub new_schema : SchemaOffer → Schema → State → State
new_schema o s st =
    logged (AddSchema (offered_as s.id o))
    (added_schema s.id
    (on_fields (λ f. with_last_column (larger f.last_column (highest (field_ids s))) f)
    (with_metadata (with_schemas (put schema_below s st.metadata.schemas) st.metadata) st)))

-- an offer, and the schema that it offers
unfoldable pub add_schema : SchemaOffer → Schema → State → State
add_schema o s st = elim (reused_schema s st.metadata.schemas) [
  | none ↦ new_schema o (record { id = suc_ℤ (highest (schema_ids st.metadata.schemas)); fields = s.fields }) st
  | some id ↦ reuse_schema o id st
]

-- ---- set schema

-- -1 stands for the last added
abbrev pub chosen : ℤ → Option ℤ → ℤ
chosen id added = cond (eq_z id last_added) (or_else added id) id

-- "14, then equal id: nothing, then 15"
abbrev pub choice_checks : ℤ → Option ℤ → ℤ → (ℤ → Bool) → List Check
choice_checks id added current held =
    (eq_z id last_added && not (is_some added), nothing_added)
    ∷ (not (eq_z (chosen id added) current) && not (held (chosen id added)), unknown_id)
    ∷ []

-- "Logged as -1 if it is the last added, else by id."
abbrev pub choice_logged : ℤ → Option ℤ → ℤ
choice_logged id added = cond (some_with (eq_z id) added) last_added id

abbrev pub holds_schema : List Schema → ℤ → Bool
holds_schema l id = any (has_schema id) l

unfoldable pub set_current_schema_checks : ℤ → State → List Check
set_current_schema_checks id st = choice_checks id st.added.schema st.metadata.fields.current_schema (holds_schema st.metadata.schemas)

unfoldable pub set_current_schema : ℤ → State → State
set_current_schema id st =
    cond (eq_z (chosen id st.added.schema) st.metadata.fields.current_schema)
    st
    (logged (SetCurrentSchema (choice_logged (chosen id st.added.schema) st.added.schema))
    (on_fields (with_current_schema (chosen id st.added.schema)) st))

-- ---- remove schemas

-- "current schema in the removal list"
unfoldable pub remove_schemas_checks : List ℤ → State → List Check
remove_schemas_checks ids st = (is_in ids st.metadata.fields.current_schema, current_schema_removed) ∷ []

abbrev pub held_schemas : List ℤ → List Schema → List ℤ
held_schemas ids l = map (λ (s : Schema). s.id) (keep (λ s. is_in ids s.id) l)

-- "Empty list: nothing. Otherwise logged with the ids that were held, in table order, possibly none."
unfoldable pub remove_schemas : List ℤ → State → State
remove_schemas ids st =
    cond (is_empty ids)
    st
    (logged (RemoveSchemas (held_schemas ids st.metadata.schemas))
    (with_metadata (with_schemas (keep (λ s. not (is_in ids s.id)) st.metadata.schemas) st.metadata) st))
