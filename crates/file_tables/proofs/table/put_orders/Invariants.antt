use Rattle.rules.specs.Layout.{read_sort_order}
use Rattle.file_rule.specs.Files.{order_text}
use Rattle.file_tables.proofs.table.put_orders.Given as goal

-- the text of a record
abbrev pub ghost-put_items : goal.ghost-put_items
ghost-put_items a = λ x. order_text (read_sort_order x)
