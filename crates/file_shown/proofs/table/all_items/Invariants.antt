-- What is asked of the rest is asked of all.
use Rattle.std.proofs.Common.{◌≡◌, drop}
use Rattle.rules.specs.Words.{all}
use Rattle.rules.specs.Layout.{counted}
use Rattle.file_shown.proofs.table.all_items.Given as goal

abbrev pub invariant-loop-i : goal.invariant-loop-i
invariant-loop-i g l = all g.test (counted l.blank l.slots l.count) ≡ all g.test (drop l.i (counted l.blank l.slots l.count))
