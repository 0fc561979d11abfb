-- What is answered to an export, on records with slots: the rule on what is read. 1 also where an unused place of the metadata is not blank.
use Rattle.std.specs.Prelude.{ℕ, cond, List, [], ◌++◌, length, drop}
use Rattle.records.specs.declared.metadata.TableMetadata.{TableMetadata}
use Rattle.rules.specs.Replies.{start_not_formed}
use Rattle.rules.specs.Blanks.{is_tidy_metadata}
use Rattle.rules.specs.Layout.{read_metadata}
use Rattle.file_rule.specs.Export as rule
use Rattle.file_rule.specs.Export.{exported}
use Rattle.file_writer.specs.declared.Exported.{Exported}

abbrev pub not_formed : rule.Exported
not_formed = record { number = start_not_formed; file = [] }

-- the rule on what is read, with as much room as the buffer has
abbrev pub ruled : TableMetadata → List ℕ → rule.Exported
ruled m buffer = cond (is_tidy_metadata m) (exported (read_metadata m) (length buffer)) not_formed

unfoldable pub export_answer : TableMetadata → List ℕ → Exported
export_answer m buffer = record { number = (ruled m buffer).number; length = length (ruled m buffer).file }

-- the file, and what stood behind its place; on a refusal all that stood there
unfoldable pub export_bytes : TableMetadata → List ℕ → List ℕ
export_bytes m buffer = (ruled m buffer).file ++ drop (length (ruled m buffer).file) buffer
