-- Up to `i`, the slots hold the fields, each from where it stands and with its id.
use Rattle.offers.proofs.Partitions.{FilledPartitions}
use Rattle.offers.proofs.spec_fields.spec_of.Given as goal

abbrev pub invariant-loop-i : goal.invariant-loop-i
invariant-loop-i l = FilledPartitions l.bytes l.fn.o l.spec.items l.i
