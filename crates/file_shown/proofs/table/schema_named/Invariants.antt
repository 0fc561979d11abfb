use Rattle.rules.specs.Layout.{read_schema_field}
use Rattle.file_shown.specs.Tests.{field_named}
use Rattle.file_shown.proofs.table.schema_named.Given as goal

-- what is asked of a record
abbrev pub ghost-all_items : goal.ghost-all_items
ghost-all_items a = λ x. field_named (read_schema_field x)
