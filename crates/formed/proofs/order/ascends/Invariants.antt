-- What was found of the numbers so far.
use Rattle.std.specs.Int.Signed.{lt_z}
use Rattle.formed.proofs.Ascends.{Ascended}
use Rattle.formed.proofs.order.ascends.Given as goal

abbrev pub invariant-loop-i : goal.invariant-loop-i
invariant-loop-i l = Ascended lt_z (λ x. x) l.ids l.i l.ok
