use Rattle.rules.specs.Layout.{read_metadata_log_entry}
use Rattle.file_rule.specs.Files.{file_entry_text}
use Rattle.file_text.proofs.Lists.{table}
use Rattle.file_tables.proofs.table.put_metadata_log.Goals as goal

pub returns : goal.returns
returns c = table file_entry_text read_metadata_log_entry c.args.t.items c.args.t.count c.put_items.ensures c.blank.ensures
