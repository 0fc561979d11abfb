use Rattle.std.proofs.Common.{◌∙◌}
use Rattle.equality.proofs.Derived.{partition_fields}
use Rattle.equality.proofs.slots.same_partition_fields.Goals as goal

pub returns : goal.returns
returns c = c.eq.ensures ∙ partition_fields _ _
