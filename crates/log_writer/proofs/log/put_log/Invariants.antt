use Rattle.rules.specs.Kinds.{read_update}
use Rattle.log_rule.specs.LogText.{update_text}
use Rattle.log_writer.proofs.log.put_log.Given as goal

-- the text of an update
abbrev pub ghost-put_items : goal.ghost-put_items
ghost-put_items a = λ x. update_text a.put_item.0.now (read_update x)
