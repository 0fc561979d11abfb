use Rattle.rules.specs.Layout.{read_snapshot}
use Rattle.file_shown.specs.Tests.{sequence_zero}
use Rattle.file_shown.proofs.table.sequences_zero.Given as goal

-- what is asked of a record
abbrev pub ghost-all_items : goal.ghost-all_items
ghost-all_items a = λ x. sequence_zero (read_snapshot x)
