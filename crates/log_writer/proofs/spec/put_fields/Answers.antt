use Rattle.rules.specs.Layout.{read_partition_field}
use Rattle.log_rule.specs.LogText.{partition_text}
use Rattle.file_text.proofs.Lists.{table}
use Rattle.log_writer.proofs.spec.put_fields.Goals as goal

pub returns : goal.returns
returns c = table partition_text read_partition_field c.args.t.items c.args.t.count c.put_items.ensures c.blank.ensures
