use Rattle.std.proofs.Common.{negsuc}
use Rattle.rules.specs.Words.{or_else}
use Rattle.tables.specs.Laid.{LaidSnapshots}
use Rattle.tables.proofs.Keyed.{Keyed}
use Rattle.tables.proofs.Each.{snapshots}
use Rattle.tables.proofs.snapshots.parents_of.Given as goal

abbrev pub invariant-loop-i : goal.invariant-loop-i
invariant-loop-i l = LaidSnapshots l.fn.t → Keyed snapshots (λ x. or_else x.parent (negsuc 0)) l.fn.t l.parents l.i
