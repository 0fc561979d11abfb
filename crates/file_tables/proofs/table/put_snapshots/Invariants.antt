use Rattle.rules.specs.Layout.{read_snapshot}
use Rattle.file_rule.specs.Files.{snapshot_text}
use Rattle.file_tables.proofs.table.put_snapshots.Given as goal

-- the text of a record
abbrev pub ghost-put_items : goal.ghost-put_items
ghost-put_items a = λ x. snapshot_text a.put_item.0.now (read_snapshot x)
