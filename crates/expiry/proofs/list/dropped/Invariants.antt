use Rattle.rules.specs.Layout.{laid_refs}
use Rattle.tables.proofs.Each.{refs}
use Rattle.expiry.proofs.Leaving.{Picking}
use Rattle.expiry.proofs.list.dropped.Given as goal

abbrev pub invariant-loop-i : goal.invariant-loop-i
invariant-loop-i l = Picking refs laid_refs (λ b. b) l.goes l.fn.t l.gone l.i
