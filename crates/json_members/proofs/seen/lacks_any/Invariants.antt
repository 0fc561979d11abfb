-- What is left to look at decides.
use Rattle.std.proofs.Common.{◌≡◌}
use Rattle.json_members.specs.Marks.{lacks_any}
use Rattle.json_members.proofs.seen.lacks_any.Given as goal

abbrev pub invariant-loop-spot : goal.invariant-loop-spot
invariant-loop-spot l = lacks_any l.from l.to l.judge ≡ lacks_any l.spot l.to l.judge
