use Rattle.tables.proofs.Spans.{run_keys}
use Rattle.tables.proofs.Each.{tidy_sort_orders}
use Rattle.tables.proofs.sort_orders.ids_of.Goals as goal

pub returns-clause-value : goal.returns-clause-value
returns-clause-value c = run_keys (tidy_sort_orders c.requires) (λ x. x.id) c.keys_of.ensures.value
