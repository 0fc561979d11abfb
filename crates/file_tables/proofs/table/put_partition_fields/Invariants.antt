use Rattle.rules.specs.Layout.{read_partition_field}
use Rattle.file_rule.specs.Files.{partition_field_text}
use Rattle.file_tables.proofs.table.put_partition_fields.Given as goal

-- the text of a record
abbrev pub ghost-put_items : goal.ghost-put_items
ghost-put_items a = λ x. partition_field_text (read_partition_field x)
