use Rattle.std.proofs.Common.{arith}
use Rattle.std.specs.Int.Signed.{non_neg}
use Rattle.records.specs.Blanks.{no_sort_field}
use Rattle.rules.specs.WellFormed.{sort_field_formed}
use Rattle.rules.specs.Layout.{read_sort_field}
use Rattle.formed.proofs.Counted.{counted_after}
use Rattle.formed.proofs.record.offered_order_formed.Goals as goal

pub returns : goal.returns
returns c =
    let x = c.args.o in
    rw c.order_id_formed.ensures (counted_after read_sort_field sort_field_formed no_sort_field 8 x.count x.items (non_neg x.order_id.0) (omega arith) c.counted_formed.ensures)
