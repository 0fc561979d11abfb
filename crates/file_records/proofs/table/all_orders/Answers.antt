-- Each record in its slot, in the order of the keys.
use Rattle.std.proofs.Common.{refl, ap, arith, rules}
use Rattle.records.specs.Blanks.{no_sort_orders}
use Rattle.records.specs.declared.sort_order.SortOrders.{SortOrders}
use Rattle.file_records.proofs.Ordered.{order_end}
use Rattle.file_records.proofs.Filling.{filled}
use Rattle.file_records.proofs.table.all_orders.Goals as goal

pub returns : goal.returns
unfolding no_sort_orders
returns c =
    order_end c.args.bytes.now c.args.cells.now _ c.order_of-order.ensures.order
    (filled c.count_of-count.ensures.within (ap (λ (t : SortOrders). t.items) c.blank-table.ensures) c.fill.ensures (λ i x b p. search rules)) (omega arith) refl
    c.count_of-count.ensures.count
