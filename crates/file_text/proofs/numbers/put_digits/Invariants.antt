-- What is left of the number, and the digits behind it.
use Rattle.std.proofs.Common.{◌≡◌, ◌++◌, drop, length}
use Rattle.file_rule.specs.Written.{natural_text, digits_in}
use Rattle.file_text.proofs.numbers.put_digits.Given as goal

abbrev pub invariant-loop-i : goal.invariant-loop-i
invariant-loop-i l = record {
  spelled : natural_text l.number ≡ digits_in l.i l.rest ++ drop l.i l.digits;
  room : length l.digits ≡ 20;
  untouched : l.buffer ≡ l.initial.buffer;
}
