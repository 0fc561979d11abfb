use Rattle.std.proofs.Common.{◌≡◌, take}
use Rattle.rules.specs.Capacities.{snapshot_room}
use Rattle.rules.specs.Layout.{pad}
use Rattle.expiry.specs.Found.{parent_places}
use Rattle.expiry.proofs.walks.parent_places.Given as goal

abbrev pub invariant-loop-i : goal.invariant-loop-i
invariant-loop-i l = l.places ≡ pad snapshot_room 0 (take l.i (parent_places l.ids l.parents))
