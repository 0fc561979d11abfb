-- Adding sort orders and setting the default one keeps metadata sound.
use Prim.Native.Nat.{◌<◌}
use mathlib.Core.Path.{◌≡◌, refl, ap}
use mathlib.Core.Bool.{Bool, true, beq}
use mathlib.Core.List.{List, [], ◌∷◌}
use lib.Dec.{leb}
use lib.IntN.{ℤ, pos, suc_ℤ}
use lib.Signed.{non_neg}
use lib.ListN.{length}
use borrow.Author.Tests.{leb-false}
use Rattle.rules.specs.Words.{eq_z, is_some, some_with, all, any, is_empty, highest, put, first_of}
use Rattle.rules.specs.Capacities.{sort_order_room, sort_field_room}
use Rattle.rules.specs.Register.{SortOrder, Metadata, State}
use Rattle.rules.specs.WellFormed.{sort_field_formed, offered_order_formed, order_formed, order_below, orders_formed, default_order_held, has_order}
use Rattle.rules.specs.SchemaUpdates.{chosen}
use Rattle.rules.specs.OrderUpdates.{reused_order, order_ids, new_order_id, add_sort_order_checks, new_order, add_sort_order, holds_order, set_default_sort_order_checks, set_default_sort_order}
use Rattle.rules.proofs.Checks.{by_test, by_option, both, parts, whole, passed_unless}
use Rattle.rules.proofs.Orders.{numbers_ordered, highest_non_neg, suc_non_neg, suc_not_zero}
use Rattle.rules.proofs.Tables.{any_put, table_put}
use Rattle.rules.proofs.Sound.Metadata.{Sound, SoundState, with_default_order_lem, with_orders_lem}
use Rattle.rules.proofs.Sound.Schemas.{chosen_held}

-- ---- add order

-- an offered order under another id, which is 0 exactly if there are no fields
order_named : (o : SortOrder) (id : ℤ) → non_neg id ≡ true → beq (is_empty o.fields) (eq_z id (pos 0)) ≡ true → offered_order_formed o ≡ true → order_formed (record { id = id; fields = o.fields }) ≡ true
order_named o id h z k =
    let more : List Bool = leb (length o.fields) sort_field_room ∷ all sort_field_formed o.fields ∷ [] in
    both (whole (non_neg id) more (h, (parts (non_neg o.id) more k).1)) z

-- "no fields means id 0", else highest + 1, which is not 0
new_order_formed : (o : SortOrder) (l : List SortOrder) → offered_order_formed o ≡ true → order_formed (record { id = new_order_id o l; fields = o.fields }) ≡ true
new_order_formed o l h =
    let k : non_neg (highest (order_ids l)) ≡ true = highest_non_neg (order_ids l) in
    by_test (λ (id : ℤ). order_formed (record { id = id; fields = o.fields }) ≡ true) (is_empty o.fields)
    (λ e. order_named o (pos 0) refl (rw e) h)
    (λ e. order_named o (suc_ℤ (highest (order_ids l))) (suc_non_neg (highest (order_ids l)) k) (rw (e, suc_not_zero (highest (order_ids l)) k)) h)

new_order_sound : (o : SortOrder) (st : State) → order_formed o ≡ true → length st.metadata.orders < sort_order_room → Sound st.metadata → Sound (new_order o st).metadata
unfolding orders_formed default_order_held
new_order_sound o st h r d =
    let m : Metadata = st.metadata in
    let l : List SortOrder = put order_below o m.orders in
    let f : orders_formed l ≡ true = table_put numbers_ordered (λ (x : SortOrder). x.id) sort_order_room order_formed o m.orders r h d.orders in
    let c : any (has_order m.fields.default_order) l ≡ true = any_put numbers_ordered (λ (x : SortOrder). x.id) (λ (k : ℤ). eq_z k m.fields.default_order) o m.orders d.order_held in
    with_orders_lem m d l f c

pub add_sort_order_sound : (o : SortOrder) (st : State) → offered_order_formed o ≡ true → first_of (add_sort_order_checks o st) ≡ 0 → Sound st.metadata → Sound (add_sort_order o st).metadata
unfolding add_sort_order add_sort_order_checks
add_sort_order_sound o st h e d =
    let l : List SortOrder = st.metadata.orders in
    let n : SortOrder = record { id = new_order_id o l; fields = o.fields } in
    by_option SoundState (reused_order o l)
    (λ f. new_order_sound n st (new_order_formed o l h) (leb-false sort_order_room (length l) (passed_unless (is_some (reused_order o l)) _ refl (ap is_some f) e).1.1.0) d)
    (λ held f. by_test SoundState (some_with (eq_z held) st.added.order) (λ g. d) (λ g. d))

-- ---- set default order

pub set_default_sort_order_sound : (id : ℤ) (st : State) → first_of (set_default_sort_order_checks id st) ≡ 0 → Sound st.metadata → Sound (set_default_sort_order id st).metadata
unfolding set_default_sort_order set_default_sort_order_checks
set_default_sort_order_sound id st e d =
    by_test SoundState (eq_z (chosen id st.added.order) st.metadata.fields.default_order)
    (λ n. d)
    (λ n. with_default_order_lem st.metadata d (chosen id st.added.order) (chosen_held id st.added.order st.metadata.fields.default_order (holds_order st.metadata.orders) e n))
