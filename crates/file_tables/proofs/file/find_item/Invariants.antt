-- None of those passed is the first.
use Rattle.std.proofs.Common.{◌≡◌, drop}
use Rattle.rules.specs.Words.{first}
use Rattle.rules.specs.Layout.{counted}
use Rattle.file_tables.proofs.file.find_item.Given as goal

abbrev pub invariant-loop-i : goal.invariant-loop-i
invariant-loop-i g l = first g.test (counted l.blank l.slots l.count) ≡ first g.test (drop l.i (counted l.blank l.slots l.count))
