-- Sort orders: the id of the one added last, what an addition puts into the table, and what an update of sort orders answers.
use Rattle.std.specs.Prelude.{◌<◌, ◌≡◌, true, false, cond, ℤ}
use Rattle.std.proofs.Math.Option.{Option}
use Rattle.records.specs.Blanks.{no_sort_orders_part}
use Rattle.records.specs.declared.schema.Schema.{Schema}
use Rattle.records.specs.declared.sort_order.SortOrder.{SortOrder}
use Rattle.records.specs.declared.sort_order.SortOrders.{SortOrders}
use Rattle.records.specs.declared.update.TableUpdate.{TableUpdate}
use Rattle.rules.specs.Words.{put}
use Rattle.rules.specs.Capacities.{sort_order_room}
use Rattle.rules.specs.Register.{Terms, State}
use Rattle.rules.specs.WellFormed.{order_below}
use Rattle.rules.specs.OrderUpdates.{holds_order, add_sort_order_checks, add_sort_order}
use Rattle.rules.specs.Updates.{effect}
use Rattle.rules.specs.Layout.{given, read_sort_order, read_sort_orders, laid_sort_orders}
use Rattle.rules.specs.Kinds.{read_update, of_kind, with_sort_orders_part, with_sort_order, add_sort_order_kind}
use Rattle.tables.specs.Laid.{LaidOrder}
use Rattle.builder.specs.declared.builder.TableMetadataBuilder.{TableMetadataBuilder}
use Rattle.builder.specs.declared.decision.Decision.{Decision}
use Rattle.builder.specs.Pieces.{laid_builder, IsCurrent}
use Rattle.builder.specs.Answers.{Answers, Decides}
use Rattle.order_updates.specs.declared.OrderAdded.{OrderAdded}

-- the id of the order added last, where there is one
abbrev pub added_order : TableMetadataBuilder → Option ℤ
added_order b = given b.has_order b.last_added_order_id.0

-- the answer, the table after it, and that an order to put is laid out, has room and is not held
pub record OrderGrown (b : TableMetadataBuilder) (t : SortOrders) (s : Schema) (o : SortOrder) (r : OrderAdded) : Type 0 where
  pub answers : (st : State) → b ≡ laid_builder st → IsCurrent st.metadata s → t ≡ laid_sort_orders st.metadata.orders → Answers (add_sort_order_checks (read_sort_order o) st) st (add_sort_order (read_sort_order o) st) r.number r.logs r.builder (with_sort_orders_part (with_sort_order r.order no_sort_orders_part) (of_kind add_sort_order_kind))
  pub table : (st : State) → t ≡ laid_sort_orders st.metadata.orders → r.number ≡ 0 → (add_sort_order (read_sort_order o) st).metadata.orders ≡ cond r.grows (put order_below (read_sort_order r.order) st.metadata.orders) st.metadata.orders
  pub laid : LaidOrder r.order
  pub room : r.grows ≡ true → t.count < sort_order_room
  pub new : r.grows ≡ true → holds_order (read_sort_orders t) r.order.order_id.0 ≡ false

-- an order that can be put into a table: laid out, with room for it, and its id not held
pub record NewOrder (t : SortOrders) (o : SortOrder) : Type 0 where
  pub laid : LaidOrder o
  pub room : t.count < sort_order_room
  pub new : holds_order (read_sort_orders t) o.order_id.0 ≡ false

-- an addition, decided: the answer, the table after it, and that an order to put can be put
pub record OrderDecided (b : TableMetadataBuilder) (s : Schema) (t : SortOrders) (u : TableUpdate) (d : Decision) : Type 0 where
  pub answers : (terms : Terms) (st : State) → b ≡ laid_builder st → IsCurrent st.metadata s → t ≡ laid_sort_orders st.metadata.orders → Decides terms u st d
  pub table : (terms : Terms) (st : State) → t ≡ laid_sort_orders st.metadata.orders → d.number ≡ 0 → (effect terms (read_update u) st).metadata.orders ≡ cond d.grows (put order_below (read_sort_order d.entry.sort_orders.added) st.metadata.orders) st.metadata.orders
  pub new : d.grows ≡ true → NewOrder t d.entry.sort_orders.added
