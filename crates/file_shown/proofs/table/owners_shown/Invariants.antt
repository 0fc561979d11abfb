use Rattle.rules.specs.Layout.{read_ref}
use Rattle.file_shown.specs.Tests.{owner_shown}
use Rattle.file_shown.proofs.table.owners_shown.Given as goal

-- what is asked of a record
abbrev pub ghost-all_items : goal.ghost-all_items
ghost-all_items a = λ x. owner_shown (read_ref x)
