-- No more bytes are counted than are read.
use Rattle.std.proofs.Common.{◌≤◌}
use Rattle.file_cases.proofs.export.count_unwritten.Given as goal

abbrev pub invariant-loop-byte : goal.invariant-loop-byte
invariant-loop-byte l = l.count ≤ l.byte-index
