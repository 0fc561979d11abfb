use Rattle.rules.specs.Layout.{read_partition_field}
use Rattle.file_rule.specs.Files.{partition_field_text}
use Rattle.file_text.proofs.Lists.{table}
use Rattle.file_tables.proofs.table.put_partition_fields.Goals as goal

pub returns : goal.returns
returns c = table partition_field_text read_partition_field c.args.t.items c.args.t.count c.put_items.ensures c.blank.ensures
