-- Partition specs: document 02, request (ix), `add_partition_spec`, `set_default_partition_spec` and `remove_partition_specs`.
-- Each update has its checks, in their order, and its effect, which counts where no check fails.
use Rattle.std.specs.Prelude.{ℕ, zero, suc, Bool, true, cond, not, ◌&&◌, ◌||◌, List, [], ◌∷◌, ◌++◌, map, eqb, leb, ℤ, pos, length}
use Rattle.std.proofs.Math.Option.{Option, none, some}
use Rattle.std.proofs.Math.IntN.{suc_ℤ}
use Rattle.std.specs.Int.Signed.{lt_z}
use Rattle.rules.specs.Words.{eq_z, larger, is_some, some_with, any, keep, first, is_empty, same_list, unequal_by, collect, same_bytes, is_in, unequal, highest, smallest, put, Check}
use Rattle.rules.specs.Replies.{ids_exhausted, table_full, name_clash, source_misfit, ids_not_sequential, default_spec_removed}
use Rattle.rules.specs.Capacities.{spec_room, largest_spec_id, largest_field_id}
use Rattle.rules.specs.Register.{SchemaField, PartitionField, PartitionSpec, SpecOffer, Metadata, State, with_specs, with_metadata, with_added, with_default_spec, with_last_partition, on_fields, logged}
use Rattle.rules.specs.Register.Update.{AddPartitionSpec, SetDefaultPartitionSpec, RemovePartitionSpecs}
use Rattle.rules.specs.Partitions.{identity, is_time, same_transform, same_partition, is_redundant, partition_names, partition_ids, spec_ids, holds_spec}
use Rattle.rules.specs.WellFormed.{long, spec_below, has_schema, has_spec}
use Rattle.rules.specs.SchemaUpdates.{chosen, choice_checks, choice_logged}

-- ---- the ids that an offered spec reuses

-- the field with another id, or with none
abbrev pub with_field_id : Option ℤ → PartitionField → PartitionField
with_field_id id f = record { source = f.source; id = id; transform = f.transform; buckets = f.buckets; name = f.name }

-- the fields of specs, one spec after the other
abbrev pub fields_of_all : List PartitionSpec → List PartitionField
fields_of_all [] = []
fields_of_all (s ∷ l) = s.fields ++ fields_of_all l

-- "Equal (source, transform) pairs"
abbrev pub is_like : PartitionField → PartitionField → Bool
is_like f old = eq_z old.source f.source && same_transform old f

-- the ids of the old fields that match
abbrev pub like_ids : List PartitionField → PartitionField → List ℤ
like_ids old f = collect (λ (h : PartitionField). h.id) (keep (is_like f) old)

-- a given id is kept; else "if several old fields match, the smallest id is taken"
abbrev pub given_or_reused : List PartitionField → PartitionField → Option ℤ
given_or_reused old f = elim f.id [ none ↦ smallest (like_ids old f) | some id ↦ some id ]

-- "Equal (source, transform) pairs reuse field ids": an offered spec with its given and reused ids
unfoldable pub reusing : List PartitionSpec → PartitionSpec → PartitionSpec
reusing l s = record { id = s.id; fields = map (λ (f : PartitionField). with_field_id (given_or_reused (fields_of_all l) f) f) s.fields }

-- ---- a spec and the fields of the current schema

abbrev pub current_fields : Metadata → List SchemaField
current_fields m = elim (first (has_schema m.fields.current_schema) m.schemas) [ none ↦ [] | some s ↦ s.fields ]

-- "Name clashes follow .. `validate_partition_field_names`": the column has the name of the partition, unless the partition is that column as it is
abbrev pub clashes_with : PartitionField → SchemaField → Bool
clashes_with f column = same_bytes column.name f.name && not (eqb f.transform identity && eq_z column.id f.source)

-- a field clashes with a column
unfoldable pub is_clashing : List SchemaField → PartitionSpec → Bool
is_clashing columns s = any (λ (f : PartitionField). any (clashes_with f) columns) s.fields

-- the column is the field's source, and "year, month and day want a timestamp"
abbrev pub is_source : PartitionField → SchemaField → Bool
is_source f column = eq_z column.id f.source && not (is_time f.transform && eqb column.field_type long)

-- "source missing or of the wrong type": a field has none among the columns
unfoldable pub is_misfit : List SchemaField → PartitionSpec → Bool
is_misfit columns s = any (λ (f : PartitionField). not (any (is_source f) columns)) s.fields

-- ---- add partition spec

-- one name twice, a "redundant field or one field id twice in a spec"
unfoldable pub is_repeating : PartitionSpec → Bool
is_repeating s = not (unequal_by same_bytes (partition_names s)) || not (unequal_by is_redundant s.fields) || not (unequal (partition_ids s))

-- a held spec with the same fields in their order; ids are not compared. The table is ascending, so the first has the smallest id
abbrev pub reused_spec : PartitionSpec → List PartitionSpec → Option ℤ
reused_spec s l = elim (first (λ (h : PartitionSpec). same_list same_partition h.fields s.fields) l) [ none ↦ none | some h ↦ some h.id ]

-- the first from a number on that is not taken, in so many steps at most; as many as there are taken ones are enough
unfoldable pub free_from : ℕ → List ℤ → ℤ → ℤ
free_from zero taken n = n
free_from (suc steps) taken n = cond (is_in taken n) (free_from steps taken (suc_ℤ n)) n

-- the next number that is not taken
unfoldable pub next_free : List ℤ → ℤ → ℤ
next_free taken n = free_from (length taken) taken (suc_ℤ n)

-- a field that has no id yet gets the next number that is not taken; one that has an id raises the number to it, where it is below
unfoldable pub numbered : List ℤ → ℤ → List PartitionField → List PartitionField
numbered taken n [] = []
numbered taken n (f ∷ fs) = elim f.id [
  | none ↦ with_field_id (some (next_free taken n)) f ∷ numbered taken (next_free taken n) fs
  | some id ↦ f ∷ numbered taken (larger n id) fs
]

-- the ids that are given out so
unfoldable pub fresh_ids : List ℤ → ℤ → List PartitionField → List ℤ
fresh_ids taken n [] = []
fresh_ids taken n (f ∷ fs) = elim f.id [
  | none ↦ next_free taken n ∷ fresh_ids taken (next_free taken n) fs
  | some id ↦ fresh_ids taken (larger n id) fs
]

-- those of a spec with its given and reused ids, which are taken; the number starts at last partition id
abbrev pub fresh_of : ℤ → PartitionSpec → List ℤ
fresh_of last s = fresh_ids (partition_ids s) last s.fields

-- the spec with an id for each field
unfoldable pub completed : ℤ → PartitionSpec → PartitionSpec
completed last s = record { id = s.id; fields = numbered (partition_ids s) last s.fields }

-- "highest id is already the type's largest", or a fresh field id would pass the largest
abbrev pub is_exhausted : PartitionSpec → Metadata → Bool
is_exhausted s m = eq_z (highest (spec_ids m.specs)) largest_spec_id || any (lt_z (pos largest_field_id)) (fresh_of m.fields.last_partition s)

-- the first id of a partition field, in the public table format and in the Rust
abbrev pub first_partition_id : ℤ
first_partition_id = pos 1000

-- and the last partition id of a table that has none yet
abbrev pub no_partition_id : ℤ
no_partition_id = pos 999

-- each number is the one after that before it
abbrev pub is_sequential : ℤ → List ℤ → Bool
is_sequential n [] = true
is_sequential n (id ∷ ids) = eq_z id n && is_sequential (suc_ℤ n) ids

-- "A version 1 table demands sequential ids"
unfoldable pub is_out_of_sequence : PartitionSpec → Metadata → Bool
is_out_of_sequence s m = eqb m.fields.version 1 && not (is_sequential first_partition_id (partition_ids (completed m.fields.last_partition s)))

-- "18 before 33, full 19 last"
abbrev pub new_spec_checks : PartitionSpec → Metadata → List Check
new_spec_checks s m =
    (is_exhausted s m, ids_exhausted)
    ∷ (is_out_of_sequence s m, ids_not_sequential)
    ∷ (leb spec_room (length m.specs), table_full)
    ∷ []

-- "Refusals, in order: 31 .., 32 .., 33", of a spec with its given and reused ids
unfoldable pub spec_checks : PartitionSpec → Metadata → List Check
spec_checks s m =
    (is_clashing (current_fields m) s || is_repeating s, name_clash)
    ∷ (is_misfit (current_fields m) s, source_misfit)
    ∷ cond (is_some (reused_spec s m.specs)) [] (new_spec_checks s m)

unfoldable pub add_partition_spec_checks : PartitionSpec → State → List Check
add_partition_spec_checks s st = spec_checks (reusing st.metadata.specs s) st.metadata

abbrev pub added_spec : ℤ → State → State
added_spec id st = with_added (record { schema = st.added.schema; order = st.added.order; spec = some id }) st

-- the spec under another id
abbrev pub spec_named : ℤ → PartitionSpec → PartitionSpec
spec_named id s = record { id = id; fields = s.fields }

-- "an added spec with the field ids it reused": the offer as it is logged, with this spec's id and the ids of its fields
abbrev pub spec_offered_as : PartitionSpec → SpecOffer → SpecOffer
spec_offered_as s o = record { id = s.id; at = o.at; ids = map (λ (f : PartitionField). f.id) s.fields }

-- "logged as for orders": with its final id, only if that is not already the last added
abbrev pub reuse_spec : SpecOffer → PartitionSpec → State → State
reuse_spec o s st = cond (some_with (eq_z s.id) st.added.spec) st (logged (AddPartitionSpec (spec_offered_as s o)) (added_spec s.id st))

-- what a spec raises last partition id to: its highest field id; one that has no fields, to that of a table that has none yet
abbrev pub reaches : PartitionSpec → ℤ
reaches s = cond (is_empty s.fields) no_partition_id (highest (partition_ids s))

-- it is held with all ids, and logged with those that are not fresh
abbrev pub new_spec : SpecOffer → PartitionSpec → State → State
new_spec o s st =
    logged (AddPartitionSpec (spec_offered_as s o))
    (added_spec s.id
    (on_fields (λ f. with_last_partition (larger f.last_partition (reaches (completed f.last_partition s))) f)
    (with_metadata (with_specs (put spec_below (completed st.metadata.fields.last_partition s) st.metadata.specs) st.metadata) st)))

-- a held spec is reused, or a new one gets the id after the highest: of a spec with its given and reused ids
unfoldable pub spec_added : SpecOffer → PartitionSpec → State → State
spec_added o s st = elim (reused_spec s st.metadata.specs) [
  | none ↦ new_spec o (spec_named (suc_ℤ (highest (spec_ids st.metadata.specs))) s) st
  | some id ↦ reuse_spec o (spec_named id s) st
]

-- an offer, and the spec that it offers
unfoldable pub add_partition_spec : SpecOffer → PartitionSpec → State → State
add_partition_spec o s st = spec_added o (reusing st.metadata.specs s) st

-- ---- set default partition spec

-- a test of the held spec with the id
abbrev pub of_held_spec : (PartitionSpec → Bool) → ℤ → Metadata → Bool
of_held_spec test id m = some_with test (first (has_spec id) m.specs)

-- it has a field that misfits the current schema
unfoldable pub is_held_misfit : ℤ → Metadata → Bool
is_held_misfit id m = of_held_spec (is_misfit (current_fields m)) id m

-- 32 of a spec that is not the default yet
abbrev pub misfit_checks : ℤ → Metadata → List Check
misfit_checks id m = (not (eq_z id m.fields.default_spec) && is_held_misfit id m, source_misfit) ∷ []

-- "14, 15 as for schemas", and then 32
unfoldable pub set_default_partition_spec_checks : ℤ → State → List Check
set_default_partition_spec_checks id st =
    choice_checks id st.added.spec st.metadata.fields.default_spec (holds_spec st.metadata.specs)
    ++ misfit_checks (chosen id st.added.spec) st.metadata

unfoldable pub set_default_partition_spec : ℤ → State → State
set_default_partition_spec id st =
    cond (eq_z (chosen id st.added.spec) st.metadata.fields.default_spec)
    st
    (logged (SetDefaultPartitionSpec (choice_logged (chosen id st.added.spec) st.added.spec))
    (on_fields (with_default_spec (chosen id st.added.spec)) st))

-- ---- remove partition specs

-- "default spec removed"
unfoldable pub remove_partition_specs_checks : List ℤ → State → List Check
remove_partition_specs_checks ids st = (is_in ids st.metadata.fields.default_spec, default_spec_removed) ∷ []

abbrev pub held_specs : List ℤ → List PartitionSpec → List ℤ
held_specs ids l = map (λ (s : PartitionSpec). s.id) (keep (λ s. is_in ids s.id) l)

-- "a removal as for snapshots, only if an id was held"
unfoldable pub remove_partition_specs : List ℤ → State → State
remove_partition_specs ids st =
    cond (is_empty (held_specs ids st.metadata.specs))
    st
    (logged (RemovePartitionSpecs (held_specs ids st.metadata.specs))
    (with_metadata (with_specs (keep (λ s. not (is_in ids s.id)) st.metadata.specs) st.metadata) st))
