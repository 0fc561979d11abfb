use Rattle.std.proofs.Common.{◌≤◌, sym, ◌∙◌}
use Rattle.rules.specs.Capacities.{sort_field_room}
use Rattle.rules.specs.Words.{same_list}
use Rattle.rules.specs.OrderUpdates.{same_sort_field}
use Rattle.rules.specs.Layout.{read_sort_order}
use Rattle.tables.proofs.Table.{within}
use Rattle.tables.proofs.Spans.{each_slot, stopped, ran_out, run_place}
use Rattle.tables.proofs.Each.{tidy_sort_orders, order_at_lem, tidy_sort_order}
use Rattle.tables.proofs.sort_orders.find_equal.Goals as goal

pub same_sort_fields-requires-clause-count_le_sort_field_room : goal.same_sort_fields-requires-clause-count_le_sort_field_room
same_sort_fields-requires-clause-count_le_sort_field_room c = each_slot (tidy_sort_orders c.requires.laid_orders) (λ x. x.count ≤ sort_field_room) (λ i d b. within (tidy_sort_order (order_at_lem c.requires.laid_orders i d b))) _ c.loop-i-test.true

pub returns-then-same_sort_fields : goal.returns-then-same_sort_fields
returns-then-same_sort_fields c =
    let h = tidy_sort_orders c.requires.laid_orders in
    run_place h (λ x. same_list same_sort_field x.fields (read_sort_order c.args.o).fields) (stopped h (λ x. same_list same_sort_field (read_sort_order x).fields (read_sort_order c.args.o).fields) _ c.loop-i-test.true c.loop-i.invariant (sym c.same_sort_fields.ensures ∙ c.if-same_sort_fields.true))

pub returns : goal.returns
returns c =
    let h = tidy_sort_orders c.requires.laid_orders in
    run_place h (λ x. same_list same_sort_field x.fields (read_sort_order c.args.o).fields) (ran_out h (λ x. same_list same_sort_field (read_sort_order x).fields (read_sort_order c.args.o).fields) c.loop-i-test.false c.loop-i.auto.i-end c.loop-i.invariant)
