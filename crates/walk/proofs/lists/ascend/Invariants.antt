-- The ids rise exactly if the last id that was read and those from here on ascend.
use Rattle.std.proofs.Common.{◌≡◌, ◌∷◌, drop}
use Rattle.std.specs.Int.Signed.{lt_z}
use Rattle.rules.specs.Words.{ascending}
use Rattle.walk.specs.Lists.{rising}
use Rattle.walk.proofs.lists.ascend.Given as goal

abbrev pub invariant-loop-id : goal.invariant-loop-id
invariant-loop-id l = rising l.ids ≡ ascending lt_z (l.last ∷ drop l.id-index l.ids)
