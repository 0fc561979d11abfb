use Rattle.rules.specs.Kinds.{read_updates}
use Rattle.log_rule.specs.LogText.{log_text}
use Rattle.log_writer.proofs.write.Given as goal

abbrev pub ghost-write_text : goal.ghost-write_text
ghost-write_text a = log_text (read_updates a.put.0.now) a.put.1.now
