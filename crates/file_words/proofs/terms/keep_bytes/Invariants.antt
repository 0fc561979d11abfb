-- The kept bytes stay within the slots.
use Rattle.std.proofs.Common.{◌≤◌, length}
use Rattle.file_words.proofs.terms.keep_bytes.Given as goal

abbrev pub invariant-loop-byte : goal.invariant-loop-byte
invariant-loop-byte l = l.len ≤ length l.text
