use Rattle.rules.specs.Layout.{read_ref}
use Rattle.file_rule.specs.Files.{ref_text}
use Rattle.file_tables.proofs.table.put_refs.Given as goal

-- the text of a record
abbrev pub ghost-put_items : goal.ghost-put_items
ghost-put_items a = λ x. ref_text (read_ref x)
