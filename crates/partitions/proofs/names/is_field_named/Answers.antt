use Rattle.std.proofs.Common.{◌∙◌}
use Rattle.partitions.proofs.Named.{field_named}
use Rattle.partitions.proofs.names.is_field_named.Goals as goal

pub returns : goal.returns
returns c = c.same_name.ensures ∙ field_named _ _ c.requires.laid_field c.requires.name_value
