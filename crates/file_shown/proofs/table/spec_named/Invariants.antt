use Rattle.rules.specs.Layout.{read_partition_field}
use Rattle.file_shown.specs.Tests.{partition_named}
use Rattle.file_shown.proofs.table.spec_named.Given as goal

-- what is asked of a record
abbrev pub ghost-all_items : goal.ghost-all_items
ghost-all_items a = λ x. partition_named (read_partition_field x)
