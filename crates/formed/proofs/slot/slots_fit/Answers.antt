use Rattle.std.proofs.Common.{true, arith}
use Rattle.formed.proofs.Filled.{slots_done}
use Rattle.formed.proofs.slot.slots_fit.Goals as goal

pub returns : goal.returns
returns g c = slots_done g.T.Slot.used g.T.Slot.blank g.row.N c.args.count c.loop-i.i c.args.items.now true (omega arith) (omega arith) c.loop-i.invariant
