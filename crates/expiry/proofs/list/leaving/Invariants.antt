use Rattle.std.proofs.Common.{eqb}
use Rattle.rules.specs.Layout.{laid_snapshots}
use Rattle.tables.proofs.Each.{snapshots}
use Rattle.retention.specs.Reasons.{nothing}
use Rattle.expiry.specs.declared.policy.Reason.{Reason}
use Rattle.expiry.proofs.Leaving.{Picking}
use Rattle.expiry.proofs.list.leaving.Given as goal

abbrev pub invariant-loop-i : goal.invariant-loop-i
invariant-loop-i l = Picking snapshots laid_snapshots (λ (r : Reason). eqb r.why nothing) l.stays l.fn.t l.gone l.i
