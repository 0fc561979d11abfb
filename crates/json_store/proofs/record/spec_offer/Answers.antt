-- One id more is stored, and at the end all are.
use Rattle.std.proofs.Common.{ap, arith, rules}
use Rattle.records.specs.declared.partition.SpecOffer.{SpecOffer}
use Rattle.json_store.proofs.Ids.{left_start, left_more, spec_offer_laid}
use Rattle.json_store.proofs.Places.{count_small}
use Rattle.json_store.proofs.record.spec_offer.Goals as goal

pub loop-i-init : goal.loop-i-init
loop-i-init c = left_start (omega (arith, c.count_at-count.ensures, count_small 8 c.args.numbers.now 52)) (ap (λ (t : SpecOffer). t.ids) c.blank-offer.ensures)

pub loop-i-preserved : goal.loop-i-preserved
loop-i-preserved c = left_more c.loop-i.invariant (omega arith) c.offered_id.ensures

pub returns : goal.returns
returns c = spec_offer_laid c.args.numbers.now _ c.loop-i.i (omega arith) c.args.judge.now c.args.place c.loop-i.offer.ids _ c.count_at-count.ensures (search rules) c.loop-i.invariant
