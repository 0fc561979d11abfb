-- The updates of sort orders together: what one of them decides, and the table after it.
use Rattle.std.specs.Prelude.{◌≡◌, true, cond, eqb}
use Rattle.records.specs.declared.schema.Schema.{Schema}
use Rattle.records.specs.declared.sort_order.SortOrders.{SortOrders}
use Rattle.records.specs.declared.update.TableUpdate.{TableUpdate}
use Rattle.rules.specs.Words.{put}
use Rattle.rules.specs.Register.{Terms, State}
use Rattle.rules.specs.WellFormed.{order_below}
use Rattle.rules.specs.Updates.{effect}
use Rattle.rules.specs.Layout.{read_sort_order, read_sort_orders, laid_sort_orders}
use Rattle.rules.specs.Kinds.{read_update, add_sort_order_kind}
use Rattle.builder.specs.declared.builder.TableMetadataBuilder.{TableMetadataBuilder}
use Rattle.builder.specs.declared.decision.Decision.{Decision}
use Rattle.builder.specs.Pieces.{laid_builder, IsCurrent}
use Rattle.builder.specs.Answers.{Decides}
use Rattle.order_updates.specs.Orders.{NewOrder}

-- the table after an update that is not refused
unfoldable pub orders_after : SortOrders → TableUpdate → Decision → SortOrders
orders_after t u d = cond (eqb u.kind add_sort_order_kind) (cond d.grows (laid_sort_orders (put order_below (read_sort_order d.entry.sort_orders.added) (read_sort_orders t))) t) t

-- an update of sort orders, decided: the answer, the table after it, and that an order to put can be put
pub record OrdersDecided (b : TableMetadataBuilder) (s : Schema) (t : SortOrders) (u : TableUpdate) (d : Decision) : Type 0 where
  pub answers : (terms : Terms) (st : State) → b ≡ laid_builder st → IsCurrent st.metadata s → t ≡ laid_sort_orders st.metadata.orders → Decides terms u st d
  pub table : (terms : Terms) (st : State) → t ≡ laid_sort_orders st.metadata.orders → d.number ≡ 0 → orders_after t u d ≡ laid_sort_orders (effect terms (read_update u) st).metadata.orders
  pub new : u.kind ≡ add_sort_order_kind → d.grows ≡ true → NewOrder t d.entry.sort_orders.added
