-- The elements that are left decide.
use Rattle.std.proofs.Common.{◌≡◌, take, drop}
use Rattle.rules.specs.Words.{all}
use Rattle.formed.proofs.slot.counted_formed.Given as goal

abbrev pub invariant-loop-x : goal.invariant-loop-x
invariant-loop-x g l = all g.T.Formed.formed (take l.count l.items) ≡ all g.T.Formed.formed (drop l.x-index (take l.count l.items))
