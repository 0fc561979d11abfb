use Rattle.rules.specs.WellFormed.{has_order}
use Rattle.tables.proofs.Spans.{run_any}
use Rattle.tables.proofs.Each.{tidy_sort_orders}
use Rattle.tables.proofs.sort_orders.holds.Goals as goal

pub returns : goal.returns
returns c = run_any (tidy_sort_orders c.requires) (has_order c.args.id.0) (rw c.order_key.ensures at c.holds_key.ensures)
