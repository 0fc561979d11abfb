-- What was passed is stored, so what is left decides.
use Rattle.records.specs.Blanks.{no_sort_field}
use Rattle.rules.specs.Layout.{laid_sort_field}
use Rattle.json_store.specs.Made.{sort_field_in}
use Rattle.json_store.proofs.Ids.{Left}
use Rattle.json_store.proofs.record.sort_order.Given as goal

abbrev pub invariant-loop-i : goal.invariant-loop-i
invariant-loop-i l = Left laid_sort_field (sort_field_in l.numbers) 8 no_sort_field l.count l.order.items l.i
