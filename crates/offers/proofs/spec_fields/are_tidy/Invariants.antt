-- What was passed is tidy, so what is left decides.
use Rattle.std.proofs.Common.{◌≡◌, drop}
use Rattle.rules.specs.Words.{all}
use Rattle.rules.specs.Offers.{partitions_of, is_tidy_partition}
use Rattle.offers.proofs.spec_fields.are_tidy.Given as goal

abbrev pub invariant-loop-i : goal.invariant-loop-i
invariant-loop-i l = all is_tidy_partition (partitions_of l.o.count (drop l.o.at l.bytes)) ≡ all is_tidy_partition (drop l.i (partitions_of l.o.count (drop l.o.at l.bytes)))
