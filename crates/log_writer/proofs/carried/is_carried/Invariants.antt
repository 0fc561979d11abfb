use Rattle.rules.specs.Kinds.{read_update}
use Rattle.log_rule.specs.LogText.{is_carried_update}
use Rattle.log_writer.proofs.carried.is_carried.Given as goal

-- what is asked of an update
abbrev pub ghost-all_items : goal.ghost-all_items
ghost-all_items a = λ x. is_carried_update a.is_fine.0.now (read_update x)
