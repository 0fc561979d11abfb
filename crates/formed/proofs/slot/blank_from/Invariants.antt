-- What was found of the elements so far, and what is asked of the rest.
use Rattle.std.proofs.Common.{◌≡◌, ◌&&◌, drop}
use Rattle.rules.specs.Words.{all}
use Rattle.formed.proofs.slot.blank_from.Given as goal

abbrev pub invariant-loop-x : goal.invariant-loop-x
invariant-loop-x g l = all (λ x. g.T.PartialEq.eq x l.blank) (drop l.from l.items) ≡ (l.ok && all (λ x. g.T.PartialEq.eq x l.blank) (drop l.x-index l.x-items))
