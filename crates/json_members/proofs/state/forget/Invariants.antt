-- What is left to forget is what was to be forgotten at the start.
use Rattle.std.proofs.Common.{◌≡◌}
use Rattle.json_members.specs.Slots.{forgetting}
use Rattle.json_members.proofs.state.forget.Given as goal

abbrev pub invariant-loop-spot : goal.invariant-loop-spot
invariant-loop-spot l = forgetting l.from l.to l.fn.judge ≡ forgetting l.spot l.to l.judge
