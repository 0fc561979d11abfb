use Rattle.rules.specs.Register as plain
use Rattle.tables.proofs.Keyed.{Keyed}
use Rattle.tables.proofs.Each.{snapshots}
use Rattle.expiry.proofs.walks.times_of.Given as goal

abbrev pub invariant-loop-i : goal.invariant-loop-i
invariant-loop-i l = Keyed snapshots (λ (s : plain.Snapshot). s.time) l.fn.t l.times l.i
