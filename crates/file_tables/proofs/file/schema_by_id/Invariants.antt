use Rattle.rules.specs.Words.{eq_z}
use Rattle.file_tables.proofs.file.schema_by_id.Given as goal

-- it has the id
abbrev pub ghost-find_item : goal.ghost-find_item
ghost-find_item a = λ s. eq_z s.schema_id.0 a.is_wanted.0.now.0
