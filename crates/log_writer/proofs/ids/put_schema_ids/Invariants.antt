use Rattle.file_rule.specs.Written.{number_text}
use Rattle.log_writer.proofs.ids.put_schema_ids.Given as goal

-- the text of an id
abbrev pub ghost-put_items : goal.ghost-put_items
ghost-put_items a = λ x. number_text x.0
