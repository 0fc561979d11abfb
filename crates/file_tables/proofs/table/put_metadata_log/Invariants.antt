use Rattle.rules.specs.Layout.{read_metadata_log_entry}
use Rattle.file_rule.specs.Files.{file_entry_text}
use Rattle.file_tables.proofs.table.put_metadata_log.Given as goal

-- the text of a record
abbrev pub ghost-put_items : goal.ghost-put_items
ghost-put_items a = λ x. file_entry_text (read_metadata_log_entry x)
