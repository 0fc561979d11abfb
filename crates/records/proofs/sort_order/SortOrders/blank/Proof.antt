-- Every slot of the table is the order that `SortOrder::blank` gives.
use Rattle.records.specs.Blanks.{no_sort_orders}
use Rattle.records.proofs.sort_order.SortOrders.blank.Statement.{statement}
use Rattle.records.proofs.sort_order.SortOrders.blank.Tie as tie

pub blank_spec : {M : Type 1} → statement M
unfolding no_sort_orders
blank_spec = tie.close (tie.spec (λ c κs. tt) (λ c. cc))
