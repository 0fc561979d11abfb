-- The ids so far that are in the list; there is room for one more, since no id stands twice in the table.
use Rattle.rules.specs.Layout.{read_snapshot_ids, laid_snapshot_ids}
use Rattle.tables.proofs.Gather.{Gathered}
use Rattle.tables.proofs.Each.{snapshots}
use Rattle.tables.proofs.snapshots.held.Given as goal

abbrev pub invariant-loop-s : goal.invariant-loop-s
invariant-loop-s l = Gathered snapshots laid_snapshot_ids (λ x. x.id) (read_snapshot_ids l.ids) l.fn.t l.held l.s-index
