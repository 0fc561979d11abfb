-- The plain bytes of the rest are those that were passed and those that are left from here.
use Rattle.std.proofs.Common.{◌≡◌, ◌+◌, drop}
use Rattle.json_machine.specs.Digest.{plain_run}
use Rattle.json_lex.proofs.plain.plain_end.Given as goal

abbrev pub invariant-loop-i : goal.invariant-loop-i
invariant-loop-i l = plain_run l.rest ≡ l.i + plain_run (drop l.i l.rest)
