-- The ids so far that are in the list; there is room for one more, since no id stands twice in the table.
use Rattle.rules.specs.Layout.{read_spec_ids, laid_spec_ids}
use Rattle.tables.proofs.Gather.{Gathered}
use Rattle.tables.proofs.Each.{partition_specs}
use Rattle.tables.proofs.partition_specs.held.Given as goal

abbrev pub invariant-loop-s : goal.invariant-loop-s
invariant-loop-s l = Gathered partition_specs laid_spec_ids (λ x. x.id) (read_spec_ids l.ids) l.fn.t l.held l.s-index
