-- What is answered to a log that is to be written, on records with slots: the rule on what is read.
use Rattle.std.specs.Prelude.{ℕ, List, ◌++◌, length, drop}
use Rattle.records.specs.declared.update.UpdateList.{UpdateList}
use Rattle.rules.specs.Kinds.{read_updates}
use Rattle.log_rule.specs.LogText.{WrittenLog, log_text, log_written}
use Rattle.file_writer.specs.declared.Exported.{Exported}
use Rattle.file_writer.specs.Answer.{written_of, bytes_of}

-- ---- of a log that can be carried

unfoldable pub put_answer : UpdateList → List ℕ → List ℕ → Exported
put_answer t offers buffer = written_of (log_text (read_updates t) offers) buffer

unfoldable pub put_bytes : UpdateList → List ℕ → List ℕ → List ℕ
put_bytes t offers buffer = bytes_of (log_text (read_updates t) offers) buffer

-- ---- of any

-- the rule on what is read, with as much room as the buffer has
abbrev pub ruled : UpdateList → List ℕ → List ℕ → WrittenLog
ruled t offers buffer = log_written (read_updates t) offers (length buffer)

unfoldable pub log_answer : UpdateList → List ℕ → List ℕ → Exported
log_answer t offers buffer = record { number = (ruled t offers buffer).number; length = length (ruled t offers buffer).text }

-- the text, and what stood behind its place; on a refusal all that stood there
unfoldable pub log_bytes : UpdateList → List ℕ → List ℕ → List ℕ
log_bytes t offers buffer = (ruled t offers buffer).text ++ drop (length (ruled t offers buffer).text) buffer
