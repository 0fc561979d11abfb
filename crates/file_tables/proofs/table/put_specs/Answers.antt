use Rattle.rules.specs.Layout.{read_partition_spec}
use Rattle.file_rule.specs.Files.{spec_text}
use Rattle.file_text.proofs.Lists.{table}
use Rattle.file_tables.proofs.table.put_specs.Goals as goal

pub returns : goal.returns
returns c = table spec_text read_partition_spec c.args.t.items c.args.t.count c.put_items.ensures c.blank.ensures
