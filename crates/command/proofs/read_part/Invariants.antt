-- No slot is added or lost; no more parts are passed, and no more bytes kept, than bytes are read.
use Rattle.std.proofs.Common.{length, ◌≡◌, ◌≤◌}
use Rattle.command.proofs.read_part.Given as goal

abbrev pub invariant-loop-byte : goal.invariant-loop-byte
invariant-loop-byte l = (length l.slots ≡ length l.initial.slots) × ((l.passed ≤ l.byte-index) × (l.len ≤ l.byte-index))
