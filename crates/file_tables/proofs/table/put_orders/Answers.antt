use Rattle.rules.specs.Layout.{read_sort_order}
use Rattle.file_rule.specs.Files.{order_text}
use Rattle.file_text.proofs.Lists.{table}
use Rattle.file_tables.proofs.table.put_orders.Goals as goal

pub returns : goal.returns
returns c = table order_text read_sort_order c.args.t.items c.args.t.count c.put_items.ensures c.blank.ensures
