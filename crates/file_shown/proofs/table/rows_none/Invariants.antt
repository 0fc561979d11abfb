use Rattle.rules.specs.Layout.{read_snapshot}
use Rattle.file_shown.specs.Tests.{rows_none}
use Rattle.file_shown.proofs.table.rows_none.Given as goal

-- what is asked of a record
abbrev pub ghost-all_items : goal.ghost-all_items
ghost-all_items a = λ x. rows_none (read_snapshot x)
