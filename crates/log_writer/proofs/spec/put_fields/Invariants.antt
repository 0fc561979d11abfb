use Rattle.rules.specs.Layout.{read_partition_field}
use Rattle.log_rule.specs.LogText.{partition_text}
use Rattle.log_writer.proofs.spec.put_fields.Given as goal

-- the text of a field
abbrev pub ghost-put_items : goal.ghost-put_items
ghost-put_items a = λ x. partition_text (read_partition_field x)
