use Rattle.rules.specs.Layout.{read_partition_spec}
use Rattle.file_rule.specs.Files.{spec_text}
use Rattle.file_tables.proofs.table.put_specs.Given as goal

-- the text of a record
abbrev pub ghost-put_items : goal.ghost-put_items
ghost-put_items a = λ x. spec_text (read_partition_spec x)
