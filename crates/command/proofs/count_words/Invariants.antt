-- No more words are counted than bytes are read, and one.
use Rattle.std.proofs.Common.{◌+◌, ◌≤◌}
use Rattle.command.proofs.count_words.Given as goal

abbrev pub invariant-loop-byte : goal.invariant-loop-byte
invariant-loop-byte l = l.count ≤ l.byte-index + 1
