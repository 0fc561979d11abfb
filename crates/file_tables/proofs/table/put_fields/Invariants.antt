use Rattle.rules.specs.Layout.{read_schema_field}
use Rattle.file_rule.specs.Files.{field_text}
use Rattle.file_tables.proofs.table.put_fields.Given as goal

-- the text of a record
abbrev pub ghost-put_items : goal.ghost-put_items
ghost-put_items a = λ x. field_text (read_schema_field x)
