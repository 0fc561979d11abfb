use Rattle.std.proofs.Common.{◌∙◌}
use Rattle.equality.proofs.Derived.{schema_fields}
use Rattle.equality.proofs.slots.same_fields.Goals as goal

pub returns : goal.returns
returns c = c.eq.ensures ∙ schema_fields _ _
