-- The elements that are left decide.
use Rattle.std.proofs.Common.{◌≡◌, drop}
use Rattle.rules.specs.Words.{each_pair}
use Rattle.formed.proofs.slot.each_apart.Given as goal

abbrev pub invariant-loop-i : goal.invariant-loop-i
invariant-loop-i g l = each_pair g.T.Apart.apart l.items ≡ each_pair g.T.Apart.apart (drop l.i l.items)
