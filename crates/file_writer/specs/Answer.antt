-- What is answered to metadata of which a file can be written, on records with slots. On a refusal the buffer is as it was.
use Rattle.std.specs.Prelude.{ℕ, Bool, cond, List, ◌++◌, leb, length, drop}
use Rattle.records.specs.declared.metadata.TableMetadata.{TableMetadata}
use Rattle.rules.specs.Replies.{accepted}
use Rattle.rules.specs.Layout.{read_metadata}
use Rattle.file_rule.specs.Files.{file_text}
use Rattle.file_rule.specs.Export.{short_buffer}
use Rattle.file_writer.specs.declared.Exported.{Exported}

-- the file is no longer than the buffer
abbrev pub fits : List ℕ → List ℕ → Bool
fits text buffer = leb (length text) (length buffer)

abbrev pub written_of : List ℕ → List ℕ → Exported
written_of text buffer = record { number = cond (fits text buffer) accepted short_buffer; length = cond (fits text buffer) (length text) 0 }

-- the file, and what stood behind its place
abbrev pub bytes_of : List ℕ → List ℕ → List ℕ
bytes_of text buffer = cond (fits text buffer) (text ++ drop (length text) buffer) buffer

unfoldable pub write_answer : TableMetadata → List ℕ → Exported
write_answer m buffer = written_of (file_text (read_metadata m)) buffer

unfoldable pub write_bytes : TableMetadata → List ℕ → List ℕ
write_bytes m buffer = bytes_of (file_text (read_metadata m)) buffer
