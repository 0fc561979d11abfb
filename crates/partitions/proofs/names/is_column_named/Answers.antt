use Rattle.std.proofs.Common.{◌∙◌}
use Rattle.partitions.proofs.Named.{column_named}
use Rattle.partitions.proofs.names.is_column_named.Goals as goal

pub returns : goal.returns
returns c = c.same_name.ensures ∙ column_named _ _ c.requires.laid_column c.requires.name_value
