use Rattle.rules.specs.Layout.{read_schema}
use Rattle.file_rule.specs.Files.{schema_text}
use Rattle.file_tables.proofs.table.put_schemas.Given as goal

-- the text of a record
abbrev pub ghost-put_items : goal.ghost-put_items
ghost-put_items a = λ x. schema_text (read_schema x)
