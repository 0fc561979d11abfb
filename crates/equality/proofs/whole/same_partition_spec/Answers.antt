use Rattle.std.proofs.Common.{◌∙◌}
use Rattle.equality.proofs.Derived.{partition_spec}
use Rattle.equality.proofs.whole.same_partition_spec.Goals as goal

pub returns : goal.returns
returns c = c.eq.ensures ∙ partition_spec c.args.a c.args.b
