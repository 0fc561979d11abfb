-- What was passed is tidy, so what is left decides.
use Rattle.std.proofs.Common.{◌≡◌, drop}
use Rattle.rules.specs.Words.{all}
use Rattle.rules.specs.Offers.{fields_of, is_tidy_field}
use Rattle.offers.proofs.fields_tidy.Given as goal

abbrev pub invariant-loop-i : goal.invariant-loop-i
invariant-loop-i l = all is_tidy_field (fields_of l.o.count (drop l.o.at l.bytes)) ≡ all is_tidy_field (drop l.i (fields_of l.o.count (drop l.o.at l.bytes)))
