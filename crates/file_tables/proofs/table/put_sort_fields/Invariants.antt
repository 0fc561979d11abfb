use Rattle.rules.specs.Layout.{read_sort_field}
use Rattle.file_rule.specs.Files.{sort_field_text}
use Rattle.file_tables.proofs.table.put_sort_fields.Given as goal

-- the text of a record
abbrev pub ghost-put_items : goal.ghost-put_items
ghost-put_items a = λ x. sort_field_text (read_sort_field x)
