-- Other counts, or as many slots compared as count.
use Rattle.std.proofs.Common.{arith}
use Rattle.records.specs.Blanks.{no_sort_field}
use Rattle.rules.specs.OrderUpdates.{same_sort_field}
use Rattle.rules.specs.Layout.{read_sort_field}
use Rattle.equality.specs.Same as same
use Rattle.equality.proofs.Readings.{counts_differ, counts_agree}
use Rattle.equality.proofs.read.same_sort_fields.Goals as goal

pub returns-then-a-b : goal.returns-then-a-b
unfolding same.same_sort_field
returns-then-a-b c =
    let a = c.args.a in
    let b = c.args.b in
    counts_agree read_sort_field same_sort_field no_sort_field a.items b.items a.count b.count c.if-a-b.true (omega arith) (omega arith) c.same_sort_fields.ensures

pub returns-else-a-b : goal.returns-else-a-b
returns-else-a-b c =
    let a = c.args.a in
    let b = c.args.b in
    counts_differ read_sort_field same_sort_field no_sort_field a.items b.items a.count b.count c.if-a-b.false
