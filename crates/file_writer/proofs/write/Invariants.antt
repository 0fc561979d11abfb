use Rattle.rules.specs.Layout.{read_metadata}
use Rattle.file_rule.specs.Files.{file_text}
use Rattle.file_writer.proofs.write.Given as goal

abbrev pub ghost-write_text : goal.ghost-write_text
ghost-write_text a = file_text (read_metadata a.put.0.now)
