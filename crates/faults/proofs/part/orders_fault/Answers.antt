-- The tests of the table, as the code groups them.
use Prim.Native.Nat.{ℕ}
use mathlib.Core.Path.{sym, ap, ◌∙◌}
use borrow.Author.Rules.{rules}
use lib.Dec.{leb}
use Rattle.records.specs.Blanks.{no_sort_order}
use Rattle.rules.specs.Capacities.{sort_order_room}
use Rattle.rules.specs.WellFormed.{order_formed, order_below, orders_formed}
use Rattle.rules.specs.Blanks.{is_tidy_sort_orders}
use Rattle.rules.specs.Layout.{read_sort_order, read_sort_orders}
use Rattle.formed.proofs.Counted.{read_length}
use Rattle.faults.specs.Faults.{order_faults}
use Rattle.faults.proofs.Picked.{table_asked}
use Rattle.faults.proofs.part.orders_fault.Goals as goal

pub returns : goal.returns
unfolding order_faults orders_formed
returns c =
    let t = c.args.t in
    c.table_fault.ensures
    ∙ table_asked 19 sort_order_room (is_tidy_sort_orders t) order_formed (read_sort_orders t) order_below
    (ap (λ (n : ℕ). leb n sort_order_room) (sym (read_length read_sort_order no_sort_order t.items t.count)))
    c.order_keys-k.ensures.slots
    c.order_keys-k.ensures.order
