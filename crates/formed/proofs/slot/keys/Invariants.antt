-- What was found of the slots so far, and what is asked of the rest; the keys so far, and zeros after them.
use Rattle.std.proofs.Common.{◌≡◌, ◌&&◌, ◌-◌, map, take, drop, pos, leb}
use Rattle.rules.specs.Capacities.{snapshot_room}
use Rattle.rules.specs.Layout.{pad}
use Rattle.formed.proofs.Filled.{filled}
use Rattle.formed.proofs.slot.keys.Given as goal

abbrev pub invariant-loop-i : goal.invariant-loop-i
invariant-loop-i g l = record {
  found : (leb l.count g.row.N && filled g.T.Slot.used g.T.Slot.blank l.count l.items) ≡ (l.filled && filled g.T.Slot.used g.T.Slot.blank (l.count - l.i) (drop l.i l.items));
  gathered : l.ids ≡ pad snapshot_room (pos 0) (take l.i (map g.T.Keyed.key_of l.items));
}
