-- What was passed is stored, so what is left decides.
use Rattle.records.specs.Blanks.{no_spec_id}
use Rattle.json_store.proofs.Ids.{Left, spec_id, spec_at}
use Rattle.json_store.proofs.record.spec_ids.Given as goal

abbrev pub invariant-loop-i : goal.invariant-loop-i
invariant-loop-i l = Left spec_id (spec_at l.numbers) 16 no_spec_id l.count l.ids.items l.i
