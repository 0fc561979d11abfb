-- What is left to read from here is what was to be read from the start.
use Rattle.std.proofs.Common.{◌≡◌, ◌+◌, drop}
use Rattle.json_machine.specs.Digest.{number_after}
use Rattle.json_tokens.specs.Outcomes.{outcome, bare_from}
use Rattle.json_tokens.proofs.bare.read_bare.Given as goal

abbrev pub invariant-loop-i : goal.invariant-loop-i
invariant-loop-i l = bare_from l.bytes l.from l.begun l.head ≡ outcome number_after (l.from + l.i) l.mode l.number (drop l.i l.rest)
