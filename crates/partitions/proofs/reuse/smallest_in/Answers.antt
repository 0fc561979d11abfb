use Rattle.std.proofs.Common.{◌∙◌}
use Rattle.rules.specs.Layout.{read_partition_field}
use Rattle.partitions.proofs.Smallest.{fields_on}
use Rattle.partitions.proofs.reuse.smallest_in.Goals as goal

pub loop-old-preserved : goal.loop-old-preserved
loop-old-preserved c = c.loop-old.invariant ∙ fields_on (read_partition_field c.args.f) _ _ _ _ c.loop-old-test.true c.id_of.ensures c.smaller-best.ensures
