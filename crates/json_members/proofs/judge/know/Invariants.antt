-- What is left to refuse is what was to be refused at the start.
use Rattle.std.proofs.Common.{◌≡◌, ◌-◌}
use Rattle.json_members.specs.Model.{refusing_foreigns}
use Rattle.json_members.proofs.judge.know.Given as goal

abbrev pub invariant-loop-spot : goal.invariant-loop-spot
invariant-loop-spot l = refusing_foreigns 21 l.row 3 l.initial.judge ≡ refusing_foreigns (24 - l.spot) l.row l.spot l.judge
