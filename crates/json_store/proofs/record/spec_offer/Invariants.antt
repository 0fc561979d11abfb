-- What was passed is stored, so what is left decides.
use Rattle.records.specs.Blanks.{no_offered_id}
use Rattle.rules.specs.Layout.{laid_offered_id}
use Rattle.json_store.specs.Made.{partition_id_in}
use Rattle.json_store.proofs.Ids.{Left}
use Rattle.json_store.proofs.record.spec_offer.Given as goal

abbrev pub invariant-loop-i : goal.invariant-loop-i
invariant-loop-i l = Left laid_offered_id (partition_id_in l.numbers) 8 no_offered_id l.count l.offer.ids l.i
