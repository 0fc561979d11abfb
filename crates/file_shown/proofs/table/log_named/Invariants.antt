use Rattle.rules.specs.Layout.{read_metadata_log_entry}
use Rattle.file_shown.specs.Tests.{entry_named}
use Rattle.file_shown.proofs.table.log_named.Given as goal

-- what is asked of a record
abbrev pub ghost-all_items : goal.ghost-all_items
ghost-all_items a = λ x. entry_named (read_metadata_log_entry x)
