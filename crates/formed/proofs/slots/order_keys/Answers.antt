use Rattle.std.proofs.Common.{arith}
use Rattle.records.specs.Blanks.{no_sort_order}
use Rattle.rules.specs.WellFormed.{order_formed}
use Rattle.rules.specs.Blanks.{is_tidy_sort_order, is_blank_sort_order, is_tidy_sort_orders}
use Rattle.rules.specs.Capacities.{sort_order_room}
use Rattle.rules.specs.Layout.{read_sort_order}
use Rattle.formed.proofs.Gathered.{found_read}
use Rattle.formed.proofs.slots.order_keys.Goals as goal

pub returns : goal.returns
unfolding is_tidy_sort_orders
returns c =
    let t = c.args.t in
    found_read read_sort_order is_tidy_sort_order order_formed is_blank_sort_order (λ x. x.id) no_sort_order sort_order_room t.count t.items (omega arith) c.keys.ensures
