use Rattle.rules.specs.Layout.{read_log_entry}
use Rattle.file_rule.specs.Files.{log_entry_text}
use Rattle.file_text.proofs.Lists.{table}
use Rattle.file_tables.proofs.table.put_snapshot_log.Goals as goal

pub returns : goal.returns
returns c = table log_entry_text read_log_entry c.args.t.items c.args.t.count c.put_items.ensures c.blank.ensures
