use Rattle.rules.specs.Layout.{read_statistics_file}
use Rattle.file_rule.specs.Files.{statistics_text}
use Rattle.file_text.proofs.Lists.{table}
use Rattle.file_tables.proofs.table.put_files.Goals as goal

pub returns : goal.returns
returns c = table statistics_text read_statistics_file c.args.t.items c.args.t.count c.put_items.ensures c.blank.ensures
