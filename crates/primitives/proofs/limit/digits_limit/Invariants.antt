-- What the text writes is what the number so far and the bytes from here on write.
use Rattle.std.proofs.Common.{◌≡◌, ◌≤◌, drop}
use Rattle.rules.specs.Capacities.{largest_unsigned}
use Rattle.primitives.specs.Limit.{digits_limit}
use Rattle.primitives.proofs.Digits.{limit_from}
use Rattle.primitives.proofs.limit.digits_limit.Given as goal

abbrev pub invariant-loop-byte : goal.invariant-loop-byte
invariant-loop-byte l = (l.number ≤ largest_unsigned) × (digits_limit l.digits ≡ limit_from l.number (drop l.byte-index l.digits))
