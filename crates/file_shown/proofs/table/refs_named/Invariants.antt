use Rattle.rules.specs.Layout.{read_ref}
use Rattle.file_shown.specs.Tests.{ref_named}
use Rattle.file_shown.proofs.table.refs_named.Given as goal

-- what is asked of a record
abbrev pub ghost-all_items : goal.ghost-all_items
ghost-all_items a = λ x. ref_named (read_ref x)
