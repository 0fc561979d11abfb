use Rattle.rules.specs.Layout.{read_schema}
use Rattle.file_rule.specs.Export.{schema_texts}
use Rattle.file_shown.proofs.table.schemas_named.Given as goal

-- what is asked of a record
abbrev pub ghost-all_items : goal.ghost-all_items
ghost-all_items a = λ x. schema_texts (read_schema x)
