-- The table after an update of sort orders, as the code has it, is laid out from that of the state after the update.
use mathlib.Core.Path.{◌≡◌, refl, ap, ◌∙◌}
use mathlib.Core.Bool.{cond}
use mathlib.Core.List.{List}
use borrow.Table.Steps.{cases}
use lib.IntN.{ℤ}
use Rattle.records.specs.declared.sort_order.SortOrders.{SortOrders}
use Rattle.records.specs.declared.update.TableUpdate.{TableUpdate}
use Rattle.rules.specs.Words.{eq_z, put}
use Rattle.rules.specs.Register as plain
use Rattle.rules.specs.Register.{Update, Terms, State}
use Rattle.rules.specs.Register.Update.{SetDefaultSortOrder}
use Rattle.rules.specs.WellFormed.{order_below}
use Rattle.rules.specs.SchemaUpdates.{chosen}
use Rattle.rules.specs.OrderUpdates.{set_default_sort_order}
use Rattle.rules.specs.Updates.{effect}
use Rattle.rules.specs.Layout.{read_sort_order, read_sort_orders, laid_sort_orders}
use Rattle.rules.specs.Kinds.{add_sort_order_kind, set_default_sort_order_kind}
use Rattle.rules.proofs.Checks.{by_test}
use Rattle.rules.proofs.Slots.Reread.{reread_sort_orders}
use Rattle.builder.specs.declared.decision.Decision.{Decision}
use Rattle.order_updates.specs.Family.{orders_after}

module _ (u : TableUpdate) (d : Decision) (terms : Terms) (st : State) {t : SortOrders} (h : t ≡ laid_sort_orders st.metadata.orders) where
  read : read_sort_orders t ≡ st.metadata.orders
  read = ap (λ (x : SortOrders). read_sort_orders x) h ∙ reread_sort_orders st.metadata.orders

  pub orders_grown : u.kind ≡ add_sort_order_kind → {l : List plain.SortOrder} → l ≡ cond d.grows (put order_below (read_sort_order d.entry.sort_orders.added) st.metadata.orders) st.metadata.orders → orders_after t u d ≡ laid_sort_orders l
  unfolding orders_after
  orders_grown k e = rw (k, e) (cases d.grows (λ y. rw (y, read)) (λ n. rw n h))

  pub orders_same : u.kind ≡ set_default_sort_order_kind → (v : Update) (id : ℤ) → v ≡ SetDefaultSortOrder id → orders_after t u d ≡ laid_sort_orders (effect terms v st).metadata.orders
  unfolding orders_after effect set_default_sort_order
  orders_same k v id q = rw (k, q) (h ∙ ap laid_sort_orders (by_test (λ (s : State). st.metadata.orders ≡ s.metadata.orders) (eq_z (chosen id st.added.order) st.metadata.fields.default_order) (λ _. refl) (λ _. refl)))
