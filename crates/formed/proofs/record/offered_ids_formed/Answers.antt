use Rattle.std.proofs.Common.{arith}
use Rattle.std.specs.Int.Signed.{non_neg}
use Rattle.records.specs.Blanks.{no_offered_id}
use Rattle.rules.specs.Words.{if_some}
use Rattle.rules.specs.WellFormed.{at_least_one}
use Rattle.rules.specs.Layout.{read_offered_id}
use Rattle.formed.proofs.Counted.{counted_after}
use Rattle.formed.proofs.record.offered_ids_formed.Goals as goal

pub returns : goal.returns
returns c =
    let x = c.args.o in
    rw c.spec_id_formed.ensures (counted_after read_offered_id (if_some at_least_one) no_offered_id 8 x.count x.ids (non_neg x.spec_id.0) (omega arith) c.counted_formed.ensures)
