-- No more lines are passed than bytes are read.
use Rattle.std.proofs.Common.{◌≤◌}
use Rattle.tokens.proofs.input.Input.hold_line.Given as goal

abbrev pub invariant-loop-byte : goal.invariant-loop-byte
invariant-loop-byte l = l.passed ≤ l.byte-index
