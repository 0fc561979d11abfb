use Rattle.rules.specs.Layout.{read_snapshot}
use Rattle.file_rule.specs.Files.{snapshot_text}
use Rattle.file_text.proofs.Lists.{table}
use Rattle.file_tables.proofs.table.put_snapshots.Goals as goal

pub returns : goal.returns
returns c = table (snapshot_text c.args.version) read_snapshot c.args.t.items c.args.t.count c.put_items.ensures c.blank.ensures
