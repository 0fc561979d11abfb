use Rattle.std.proofs.Common.{◌≡◌, ◌+◌, drop}
use Rattle.rules.specs.Words.{same_list}
use Rattle.rules.specs.OrderUpdates.{same_sort_field}
use Rattle.rules.specs.Layout.{read_sort_order}
use Rattle.search.specs.Places.{index_of}
use Rattle.tables.proofs.sort_orders.find_equal.Given as goal

abbrev pub invariant-loop-i : goal.invariant-loop-i
invariant-loop-i l =
    index_of (λ x. same_list same_sort_field (read_sort_order x).fields (read_sort_order l.o).fields) l.held-items
    ≡ l.i + index_of (λ x. same_list same_sort_field (read_sort_order x).fields (read_sort_order l.o).fields) (drop l.i l.held-items)
