use Rattle.rules.specs.Layout.{read_statistics_file}
use Rattle.file_rule.specs.Files.{statistics_text}
use Rattle.file_tables.proofs.table.put_files.Given as goal

-- the text of a record
abbrev pub ghost-put_items : goal.ghost-put_items
ghost-put_items a = λ x. statistics_text (read_statistics_file x)
