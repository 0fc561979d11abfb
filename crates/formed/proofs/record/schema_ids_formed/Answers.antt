use Rattle.std.proofs.Common.{arith}
use Rattle.std.specs.Int.Signed.{non_neg}
use Rattle.records.specs.Blanks.{no_schema_id}
use Rattle.records.specs.declared.counters.SchemaId.{SchemaId}
use Rattle.formed.proofs.Counted.{counted_read}
use Rattle.formed.proofs.record.schema_ids_formed.Goals as goal

pub returns : goal.returns
returns c =
    let t = c.args.t in
    counted_read (λ (x : SchemaId). x.0) non_neg no_schema_id 16 t.count t.items (omega arith) c.counted_formed.ensures
