-- One id more is stored, and at the end all are.
use Rattle.std.proofs.Common.{ap, arith, rules}
use Rattle.records.specs.declared.schema.SchemaIds.{SchemaIds}
use Rattle.json_store.proofs.Ids.{left_start, left_more, schema_ids_laid}
use Rattle.json_store.proofs.Places.{count_small}
use Rattle.json_store.proofs.record.schema_ids.Goals as goal

pub loop-i-init : goal.loop-i-init
loop-i-init c = left_start (omega (arith, c.count_at-count.ensures, count_small 16 c.args.numbers.now 18)) (ap (λ (t : SchemaIds). t.items) c.blank-ids.ensures)

pub loop-i-preserved : goal.loop-i-preserved
loop-i-preserved c = left_more c.loop-i.invariant (omega arith) (search rules)

pub returns : goal.returns
returns c = schema_ids_laid c.args.numbers.now _ c.loop-i.i (omega arith) c.loop-i.ids.items c.count_at-count.ensures c.loop-i.invariant
