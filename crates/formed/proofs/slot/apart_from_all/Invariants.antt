-- What was found of the elements so far, and what is asked of the rest.
use Rattle.std.proofs.Common.{◌≡◌, ◌&&◌, drop}
use Rattle.rules.specs.Words.{all}
use Rattle.formed.proofs.slot.apart_from_all.Given as goal

abbrev pub invariant-loop-y : goal.invariant-loop-y
invariant-loop-y g l = all (g.T.Apart.apart l.fn.x) l.others ≡ (l.ok && all (g.T.Apart.apart l.fn.x) (drop l.y-index l.others))
