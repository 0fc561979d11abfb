-- Up to `i`, the slots hold the fields, each from where it stands.
use Rattle.std.proofs.Common.{drop}
use Rattle.rules.specs.Offers.{fields_of}
use Rattle.offers.proofs.Fields.{FilledFields}
use Rattle.offers.proofs.schema_of.Given as goal

abbrev pub invariant-loop-i : goal.invariant-loop-i
invariant-loop-i l = FilledFields (fields_of l.o.count (drop l.o.at l.bytes)) l.schema.items l.i
