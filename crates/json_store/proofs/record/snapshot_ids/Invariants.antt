-- What was passed is stored, so what is left decides.
use Rattle.records.specs.Blanks.{no_snapshot_id}
use Rattle.json_store.proofs.Ids.{Left, snapshot_id, snapshot_at}
use Rattle.json_store.proofs.record.snapshot_ids.Given as goal

abbrev pub invariant-loop-i : goal.invariant-loop-i
invariant-loop-i l = Left snapshot_id (snapshot_at l.numbers) 16 no_snapshot_id l.count l.ids.items l.i
