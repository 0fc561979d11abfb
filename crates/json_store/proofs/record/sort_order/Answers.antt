-- One field more is stored, and at the end all are.
use Rattle.std.proofs.Common.{ap, arith, rules}
use Rattle.records.specs.Blanks.{no_sort_order}
use Rattle.records.specs.declared.sort_order.SortOrder.{SortOrder}
use Rattle.json_store.proofs.Ids.{left_start, left_more, sort_order_laid}
use Rattle.json_store.proofs.Places.{count_small}
use Rattle.json_store.proofs.record.sort_order.Goals as goal

pub loop-i-init : goal.loop-i-init
unfolding no_sort_order
loop-i-init c = left_start (omega (arith, c.count_at-count.ensures, count_small 8 c.args.numbers.now 45)) (ap (λ (t : SortOrder). t.items) c.blank-order.ensures)

pub loop-i-preserved : goal.loop-i-preserved
loop-i-preserved c = left_more c.loop-i.invariant (omega arith) c.sort_field.ensures

pub returns : goal.returns
returns c = sort_order_laid c.args.numbers.now _ c.loop-i.i (omega arith) c.loop-i.order.items _ c.count_at-count.ensures (search rules) c.loop-i.invariant
