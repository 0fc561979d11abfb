use Rattle.std.proofs.Common.{true, pos, arith}
use Rattle.records.specs.declared.counters.SchemaId.{SchemaId}
use Rattle.rules.specs.Blanks.{is_zero, is_tidy_schema_ids, is_blank_schema_ids}
use Rattle.equality.proofs.Derived.{numbers}
use Rattle.formed.proofs.Unused.{blanks_place}
use Rattle.formed.proofs.blanks.schema_ids_fit.Goals as goal

pub returns : goal.returns
unfolding is_tidy_schema_ids is_blank_schema_ids
returns c =
    let t = c.args.t in
    blanks_place c.args.used true (is_zero t.count) 16 t.count t.items c.unused_from-from.ensures (λ (x : SchemaId). numbers x.0 (pos 0)) (omega arith) c.blank_from.ensures
