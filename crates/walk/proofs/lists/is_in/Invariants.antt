-- The id is one of all exactly if it is one of those from here on.
use Rattle.std.proofs.Common.{◌≡◌, drop}
use Rattle.rules.specs.Words.{is_in}
use Rattle.walk.proofs.lists.is_in.Given as goal

abbrev pub invariant-loop-held : goal.invariant-loop-held
invariant-loop-held l = is_in l.ids l.id ≡ is_in (drop l.held-index l.ids) l.id
