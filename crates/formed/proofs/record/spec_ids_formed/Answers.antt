use Rattle.std.proofs.Common.{arith}
use Rattle.std.specs.Int.Signed.{non_neg}
use Rattle.records.specs.Blanks.{no_spec_id}
use Rattle.records.specs.declared.counters.SpecId.{SpecId}
use Rattle.formed.proofs.Counted.{counted_read}
use Rattle.formed.proofs.record.spec_ids_formed.Goals as goal

pub returns : goal.returns
returns c =
    let t = c.args.t in
    counted_read (λ (x : SpecId). x.0) non_neg no_spec_id 16 t.count t.items (omega arith) c.counted_formed.ensures
