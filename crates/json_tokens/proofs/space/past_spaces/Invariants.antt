-- The spaces of the rest are those that were passed and those that are left from here.
use Rattle.std.proofs.Common.{◌≡◌, ◌+◌, drop}
use Rattle.json_tokens.specs.Outcomes.{space_run}
use Rattle.json_tokens.proofs.space.past_spaces.Given as goal

abbrev pub invariant-loop-i : goal.invariant-loop-i
invariant-loop-i l = space_run l.rest ≡ l.i + space_run (drop l.i l.rest)
