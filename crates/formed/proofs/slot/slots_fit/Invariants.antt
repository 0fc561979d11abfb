-- What was found of the slots so far, and what is asked of the rest.
use Rattle.std.proofs.Common.{◌≡◌, ◌&&◌, ◌-◌, drop}
use Rattle.formed.proofs.Filled.{filled}
use Rattle.formed.proofs.slot.slots_fit.Given as goal

abbrev pub invariant-loop-i : goal.invariant-loop-i
invariant-loop-i g l = filled g.T.Slot.used g.T.Slot.blank l.count l.items ≡ (l.ok && filled g.T.Slot.used g.T.Slot.blank (l.count - l.i) (drop l.i l.items))
