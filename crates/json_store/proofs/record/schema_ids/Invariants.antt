-- What was passed is stored, so what is left decides.
use Rattle.records.specs.Blanks.{no_schema_id}
use Rattle.json_store.proofs.Ids.{Left, schema_id, schema_at}
use Rattle.json_store.proofs.record.schema_ids.Given as goal

abbrev pub invariant-loop-i : goal.invariant-loop-i
invariant-loop-i l = Left schema_id (schema_at l.numbers) 16 no_schema_id l.count l.ids.items l.i
