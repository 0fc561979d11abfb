use Rattle.partitions.proofs.Offered.{offered_on, offered_end}
use Rattle.partitions.proofs.offer.logged_offer.Goals as goal

pub loop-i-preserved : goal.loop-i-preserved
loop-i-preserved c = offered_on _ _ _ c.loop-i-test.true c.fields_of-fields.ensures.few c.loop-i.invariant

pub returns : goal.returns
returns c = let f = c.fields_of-fields.ensures in offered_end c.args.p c.args.o _ _ f.listed f.laid f.count c.loop-i-test.false c.loop-i.invariant
