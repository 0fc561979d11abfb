use Rattle.rules.specs.Layout.{read_statistics_file}
use Rattle.file_rule.specs.Export.{file_path}
use Rattle.file_shown.proofs.table.files_named.Given as goal

-- what is asked of a record
abbrev pub ghost-all_items : goal.ghost-all_items
ghost-all_items a = λ x. file_path (read_statistics_file x)
