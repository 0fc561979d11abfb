use Rattle.rules.specs.Layout.{read_partition_spec}
use Rattle.file_rule.specs.Export.{spec_texts}
use Rattle.file_shown.proofs.table.specs_named.Given as goal

-- what is asked of a record
abbrev pub ghost-all_items : goal.ghost-all_items
ghost-all_items a = λ x. spec_texts (read_partition_spec x)
