use Rattle.std.proofs.Common.{arith}
use Rattle.std.specs.Int.Signed.{non_neg}
use Rattle.records.specs.Blanks.{no_partition_field}
use Rattle.rules.specs.WellFormed.{partition_field_formed}
use Rattle.rules.specs.Layout.{read_partition_field}
use Rattle.formed.proofs.Counted.{counted_after}
use Rattle.formed.proofs.record.offered_spec_formed.Goals as goal

pub returns : goal.returns
returns c =
    let x = c.args.s in
    rw c.spec_id_formed.ensures (counted_after read_partition_field partition_field_formed no_partition_field 8 x.count x.items (non_neg x.spec_id.0) (omega arith) c.counted_formed.ensures)
