-- Adding a sort order and choosing the default one are replayed by what is logged.
use Prim.Native.Nat.{ℕ}
use mathlib.Core.Path.{◌≡◌, refl}
use mathlib.Core.Bool.{Bool, true, false, cond, beq}
use mathlib.Core.List.{List, [], ◌∷◌}
use mathlib.Core.Option.{Option, none, some}
use native.Mathlib.Omega.{arith}
use lib.Dec.{leb}
use lib.IntN.{ℤ, pos}
use lib.ListN.{length}
use lib.Signed.{non_neg}
use Rattle.rules.specs.Words.{eq_z, if_some, some_with, all, first, is_empty, same_list, highest}
use Rattle.rules.specs.Capacities.{sort_order_room, sort_field_room}
use Rattle.rules.specs.Register.{SortOrder, Terms, State, with_default_order, on_fields, logged}
use Rattle.rules.specs.Register.Update.{AddSortOrder, SetDefaultSortOrder}
use Rattle.rules.specs.WellFormed.{sort_field_formed, offered_order_formed, order_formed, order_below, orders_formed, update_formed}
use Rattle.rules.specs.SchemaUpdates.{chosen, choice_logged}
use Rattle.rules.specs.OrderUpdates.{same_sort_field, reused_order, order_ids, new_order_id, added_order, add_sort_order_checks, reuse_order, new_order, add_sort_order, holds_order, set_default_sort_order_checks, set_default_sort_order}
use Rattle.rules.specs.Others.{is_others}
use Rattle.rules.specs.Updates.{offers_formed, checks, update_number, effect}
use Rattle.rules.specs.Replay.{strip}
use Rattle.rules.proofs.Checks.{by_test, and_left, parts, whole}
use Rattle.rules.proofs.Orders.{highest_non_neg, suc_non_neg}
use Rattle.rules.proofs.Tables.{all_first, table_parts_lem}
use Rattle.rules.proofs.Sound.Metadata.{Sound}
use Rattle.rules.proofs.Sound.Updates.{accepted_form, accepted_own, accepted_checks}
use Rattle.rules.proofs.Replay.Steps.{accepted_if, Replays, nothing, once}
use Rattle.rules.proofs.Replay.Choices.{Rechosen, rechosen}

-- ---- add order

-- the order with another id
abbrev numbered_as : ℤ → SortOrder → SortOrder
numbered_as id o = record { id = id; fields = o.fields }

renumbered_formed : (id : ℤ) (o : SortOrder) → non_neg id ≡ true → offered_order_formed o ≡ true → offered_order_formed (numbered_as id o) ≡ true
renumbered_formed id o n h =
    let rest : List Bool = leb (length o.fields) sort_field_room ∷ all sort_field_formed o.fields ∷ [] in
    whole (non_neg id) rest (n, (parts (non_neg o.id) rest h).1)

-- neither the checks nor the search for an equal order look at the offered id
renumbered_accepted : (terms : Terms) (id : ℤ) (o : SortOrder) (st : State) → non_neg id ≡ true → update_number terms (AddSortOrder o) st ≡ 0 → update_number terms (AddSortOrder (numbered_as id o)) st ≡ 0
unfolding checks add_sort_order_checks update_formed offers_formed is_others
renumbered_accepted terms id o st n e =
    accepted_if terms (AddSortOrder (numbered_as id o)) st
    (renumbered_formed id o n (accepted_form terms (AddSortOrder o) st e))
    refl
    (accepted_own terms (AddSortOrder o) st e)
    (accepted_checks terms (AddSortOrder o) st e)

new_id_non_neg : (o : SortOrder) (l : List SortOrder) → non_neg (new_order_id o l) ≡ true
new_id_non_neg o l = by_test (λ (z : ℤ). non_neg z ≡ true) (is_empty o.fields) (λ e. refl) (λ e. suc_non_neg (highest (order_ids l)) (highest_non_neg (order_ids l)))

held_orders_formed : (l : List SortOrder) → orders_formed l ≡ true → all order_formed l ≡ true
unfolding orders_formed
held_orders_formed l h = (table_parts_lem sort_order_room order_formed order_below l h).1

held_id_non_neg : (o : SortOrder) → order_formed o ≡ true → non_neg o.id ≡ true
held_id_non_neg o h = (parts (non_neg o.id) (leb (length o.fields) sort_field_room ∷ all sort_field_formed o.fields ∷ []) (and_left (offered_order_formed o) (beq (is_empty o.fields) (eq_z o.id (pos 0))) h)).0

-- a reused id is a held order's, so it is at least 0
reused_non_neg : (o : SortOrder) (l : List SortOrder) (id : ℤ) → all order_formed l ≡ true → reused_order o l ≡ some id → non_neg id ≡ true
reused_non_neg o l id h q = go (first same l) (all_first order_formed same l h) q
  where
    same : SortOrder → Bool
    same x = same_list same_sort_field x.fields o.fields

    go : (f : Option SortOrder) → if_some order_formed f ≡ true → ◌≡◌ {A = Option ℤ} (elim f [ none ↦ none | some x ↦ some x.id ]) (some id) → non_neg id ≡ true
    go none k q = absurd (let z : ◌≡◌ {A = ℕ} 0 1 = cc in omega arith)
    go (some x) k q = let s : x.id ≡ id = cc in rw s at (held_id_non_neg x k)

pub add_sort_order_replays : (terms : Terms) (o : SortOrder) (st : State) → update_number terms (AddSortOrder o) st ≡ 0 → Sound st.metadata → Replays terms 1 st (effect terms (AddSortOrder o) st)
unfolding effect add_sort_order strip
add_sort_order_replays terms o st e k = go (reused_order o st.metadata.orders) refl
  where
    given : SortOrder
    given = numbered_as (new_order_id o st.metadata.orders) o

    fresh : update_number terms (AddSortOrder given) st ≡ 0
    fresh = renumbered_accepted terms (new_order_id o st.metadata.orders) o st (new_id_non_neg o st.metadata.orders) e

    held : (id : ℤ) → reused_order o st.metadata.orders ≡ some id → update_number terms (AddSortOrder (numbered_as id o)) st ≡ 0
    held id q = renumbered_accepted terms id o st (reused_non_neg o st.metadata.orders id (held_orders_formed st.metadata.orders k.orders) q) e

    reuse : (id : ℤ) → reused_order o st.metadata.orders ≡ some id → (t : Bool) → some_with (eq_z id) st.added.order ≡ t → Replays terms 1 st (cond t st (logged (AddSortOrder (numbered_as id o)) (added_order id st)))
    reuse id q true r = nothing terms 1 st
    reuse id q false r = once terms (AddSortOrder (numbered_as id o)) st (logged (AddSortOrder (numbered_as id o)) (added_order id st)) refl (held id q) refl (λ l h. rw (q, add_sort_order, r))

    go : (f : Option ℤ) → reused_order o st.metadata.orders ≡ f → Replays terms 1 st (elim f [ none ↦ new_order given st | some id ↦ reuse_order (numbered_as id o) st ])
    go none q = once terms (AddSortOrder given) st (new_order given st) refl fresh refl (λ l h. rw (q, add_sort_order))
    go (some id) q = reuse id q (some_with (eq_z id) st.added.order) refl

-- ---- set default order

abbrev order_logged : ℤ → State → ℤ
order_logged id st = choice_logged (chosen id st.added.order) st.added.order

order_rechosen : (terms : Terms) (id : ℤ) (st : State) → update_number terms (SetDefaultSortOrder id) st ≡ 0
    → Rechosen id st.added.order st.metadata.fields.default_order (holds_order st.metadata.orders) (order_logged id st)
unfolding checks set_default_sort_order_checks update_formed
order_rechosen terms id st e =
    rechosen id st.added.order st.metadata.fields.default_order (holds_order st.metadata.orders)
    (accepted_form terms (SetDefaultSortOrder id) st e)
    (accepted_checks terms (SetDefaultSortOrder id) st e)

order_accepted : (terms : Terms) (id : ℤ) (st : State) → update_number terms (SetDefaultSortOrder id) st ≡ 0 → update_number terms (SetDefaultSortOrder (order_logged id st)) st ≡ 0
unfolding checks set_default_sort_order_checks update_formed offers_formed is_others
order_accepted terms id st e = accepted_if terms (SetDefaultSortOrder (order_logged id st)) st (order_rechosen terms id st e).formed refl (accepted_own terms (SetDefaultSortOrder id) st e) (order_rechosen terms id st e).passes

pub set_default_sort_order_replays : (terms : Terms) (id : ℤ) (st : State) → update_number terms (SetDefaultSortOrder id) st ≡ 0 → Replays terms 1 st (effect terms (SetDefaultSortOrder id) st)
unfolding effect set_default_sort_order strip
set_default_sort_order_replays terms id st e = go (eq_z (chosen id st.added.order) st.metadata.fields.default_order) refl
  where
    set : State
    set = logged (SetDefaultSortOrder (order_logged id st)) (on_fields (with_default_order (chosen id st.added.order)) st)

    go : (t : Bool) → eq_z (chosen id st.added.order) st.metadata.fields.default_order ≡ t → Replays terms 1 st (cond t st set)
    go true q = nothing terms 1 st
    go false q = once terms (SetDefaultSortOrder (order_logged id st)) st set refl (order_accepted terms id st e) refl (λ l h. rw ((order_rechosen terms id st e).same, q))
