-- Each record in its slot, in the order of the keys.
use Rattle.std.proofs.Common.{refl, ap, arith, rules}
use Rattle.records.specs.Blanks.{no_schemas}
use Rattle.records.specs.declared.schema.Schemas.{Schemas}
use Rattle.file_records.proofs.Ordered.{schema_end}
use Rattle.file_records.proofs.Filling.{filled}
use Rattle.file_records.proofs.table.all_schemas.Goals as goal

pub returns : goal.returns
unfolding no_schemas
returns c =
    schema_end c.args.bytes.now c.args.cells.now _ c.order_of-order.ensures.order
    (filled c.count_of-count.ensures.within (ap (λ (t : Schemas). t.items) c.blank-table.ensures) c.fill.ensures (λ i x b p. search rules)) (omega arith) refl
    c.count_of-count.ensures.count
