use Rattle.std.proofs.Common.{◌∙◌}
use Rattle.rules.specs.Layout.{read_partition_field}
use Rattle.partitions.proofs.Smallest.{specs_on}
use Rattle.partitions.proofs.reuse.smallest_like.Goals as goal

pub loop-spec-preserved : goal.loop-spec-preserved
loop-spec-preserved c = c.loop-spec.invariant ∙ specs_on (read_partition_field c.args.f) _ _ _ _ c.loop-spec-test.true c.smallest_in.ensures c.smaller-best.ensures
