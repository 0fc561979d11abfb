-- The kept bytes stay within the slots.
use Rattle.std.proofs.Common.{◌≤◌, length}
use Rattle.case_reader.proofs.limit_text.read_bytes.Given as goal

abbrev pub invariant-loop : goal.invariant-loop
invariant-loop l = l.len ≤ length l.text
