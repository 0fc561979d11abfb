-- The ids that are taken are those that the fields have, and the number begins with the last partition id.
use Rattle.rules.specs.Partitions.{partition_ids}
use Rattle.rules.specs.Layout.{read_partition_spec}
use Rattle.partitions.proofs.Numbered.{Numbering}
use Rattle.partitions.proofs.fresh.number_fields.Given as goal

abbrev pub invariant-loop-i : goal.invariant-loop-i
invariant-loop-i l = Numbering (partition_ids (read_partition_spec l.fn.p)) l.fn.last.0 l.fields l.number.0 l.items l.i
