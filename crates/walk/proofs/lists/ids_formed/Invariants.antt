-- The ids are well formed exactly if those from here on are.
use Rattle.std.proofs.Common.{◌≡◌, drop}
use Rattle.walk.specs.Lists.{ids_formed}
use Rattle.walk.proofs.lists.ids_formed.Given as goal

abbrev pub invariant-loop-i : goal.invariant-loop-i
invariant-loop-i l = ids_formed l.ids ≡ ids_formed (drop l.i l.ids)
