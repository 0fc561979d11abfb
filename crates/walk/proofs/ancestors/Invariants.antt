-- The loop keeps a walk on its way, from what is listed to the next id. Each turn lists one more of the ids.
use Rattle.std.proofs.Common.{◌≡◌, ◌-◌, ◌≤◌, length, take}
use Rattle.rules.specs.Layout.{given}
use Rattle.walk.specs.Lists.{NoneBelow}
use Rattle.walk.proofs.Follow.{Going}
use Rattle.walk.proofs.ancestors.Given as goal

abbrev pub invariant-walk : goal.invariant-walk
invariant-walk l =
    record {
      kept : l.out ≡ l.initial.out;
      room : length l.path ≡ 64;
      few : l.n ≤ 64;
      place : l.place ≤ length l.ids;
      least : NoneBelow l.least (take l.n l.path);
      going : Going l.ids l.parents (given l.has_excluded l.excluded) l.start (take l.n l.path) l.id;
    }

abbrev pub decreases-walk : goal.decreases-walk
decreases-walk l = length l.ids - l.n
