-- Sort orders: document 01, "Rules for each update", **Add order** and **Set default order**.
-- Each update has its checks, in 01's order, and its effect, which counts where no check fails.
use Rattle.std.specs.Prelude.{Bool, cond, not, ◌&&◌, List, [], ◌∷◌, map, eqb, leb, ℤ, pos, length}
use Rattle.std.proofs.Math.Option.{Option, none, some}
use Rattle.std.proofs.Math.IntN.{suc_ℤ}
use Rattle.rules.specs.Words.{eq_z, is_some, some_with, any, first, is_empty, same_list, is_in, highest, put, Check}
use Rattle.rules.specs.Replies.{field_not_in_schema, ids_exhausted, table_full}
use Rattle.rules.specs.Capacities.{sort_order_room, largest_sort_order_id}
use Rattle.rules.specs.Register.{SortField, SortOrder, Metadata, State, with_orders, with_metadata, with_added, with_default_order, on_fields, logged}
use Rattle.rules.specs.Register.Update.{AddSortOrder, SetDefaultSortOrder}
use Rattle.rules.specs.WellFormed.{field_ids, order_below, has_schema, has_order}
use Rattle.rules.specs.SchemaUpdates.{chosen, choice_checks, choice_logged}

-- ---- add order

abbrev pub same_sort_field : SortField → SortField → Bool
same_sort_field a b = eq_z a.source b.source && eqb a.direction b.direction && eqb a.nulls b.nulls

abbrev pub reused_order : SortOrder → List SortOrder → Option ℤ
reused_order o l = elim (first (λ (h : SortOrder). same_list same_sort_field h.fields o.fields) l) [ none ↦ none | some h ↦ some h.id ]

abbrev pub order_ids : List SortOrder → List ℤ
order_ids l = map (λ (o : SortOrder). o.id) l

-- "no fields means id 0", else highest + 1
abbrev pub new_order_id : SortOrder → List SortOrder → ℤ
new_order_id o l = cond (is_empty o.fields) (pos 0) (suc_ℤ (highest (order_ids l)))

abbrev pub added_order : ℤ → State → State
added_order id st = with_added (record { schema = st.added.schema; order = some id; spec = st.added.spec }) st

-- the field ids of the current schema
abbrev pub current_field_ids : Metadata → List ℤ
current_field_ids m = elim (first (has_schema m.fields.current_schema) m.schemas) [ none ↦ [] | some s ↦ field_ids s ]

-- the order names a field that is not in the current schema
abbrev pub is_unfit : SortOrder → Metadata → Bool
is_unfit o m = any (λ (f : SortField). not (is_in (current_field_ids m) f.source)) o.fields

-- "a new one with fields: 18, 17, 19"; with no fields "19 alone"
unfoldable pub add_sort_order_checks : SortOrder → State → List Check
add_sort_order_checks o st =
    cond (is_some (reused_order o st.metadata.orders))
    []
    ((not (is_empty o.fields) && eq_z (highest (order_ids st.metadata.orders)) largest_sort_order_id, ids_exhausted)
    ∷ (is_unfit o st.metadata, field_not_in_schema)
    ∷ (leb sort_order_room (length st.metadata.orders), table_full)
    ∷ [])

-- "Logged with its final id."
abbrev pub reuse_order : SortOrder → State → State
reuse_order o st = cond (some_with (eq_z o.id) st.added.order) st (logged (AddSortOrder o) (added_order o.id st))

abbrev pub new_order : SortOrder → State → State
new_order o st =
    logged (AddSortOrder o)
    (added_order o.id
    (with_metadata (with_orders (put order_below o st.metadata.orders) st.metadata) st))

unfoldable pub add_sort_order : SortOrder → State → State
add_sort_order o st = elim (reused_order o st.metadata.orders) [
  | none ↦ new_order (record { id = new_order_id o st.metadata.orders; fields = o.fields }) st
  | some id ↦ reuse_order (record { id = id; fields = o.fields }) st
]

-- ---- set default order

abbrev pub holds_order : List SortOrder → ℤ → Bool
holds_order l id = any (has_order id) l

unfoldable pub set_default_sort_order_checks : ℤ → State → List Check
set_default_sort_order_checks id st = choice_checks id st.added.order st.metadata.fields.default_order (holds_order st.metadata.orders)

unfoldable pub set_default_sort_order : ℤ → State → State
set_default_sort_order id st =
    cond (eq_z (chosen id st.added.order) st.metadata.fields.default_order)
    st
    (logged (SetDefaultSortOrder (choice_logged (chosen id st.added.order) st.added.order))
    (on_fields (with_default_order (chosen id st.added.order)) st))
