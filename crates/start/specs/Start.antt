-- The number of a start, on records: 1, then 2, then 26, then 39.
use Rattle.std.specs.Prelude.{ℕ, cond, []}
use Rattle.records.specs.declared.metadata.TableMetadata.{TableMetadata}
use Rattle.records.specs.declared.update.UpdateList.{UpdateList}
use Rattle.records.specs.declared.run.RunTerms.{RunTerms}
use Rattle.rules.specs.Words.{first_of}
use Rattle.rules.specs.Replies.{start_not_formed}
use Rattle.rules.specs.Run.{start_checks}
use Rattle.rules.specs.Blanks.{is_tidy_metadata}
use Rattle.rules.specs.Layout.{read_metadata}
use Rattle.rules.specs.Kinds.{read_updates}
use Rattle.rules.specs.Answer.{Lent, read_terms}

-- the limit text and the offers are not asked for: any will do
abbrev pub none_lent : Lent
none_lent = record { text = []; offers = [] }

unfoldable pub start_number : TableMetadata → UpdateList → RunTerms → ℕ
start_number m us terms = cond (is_tidy_metadata m) (first_of (start_checks (read_terms terms none_lent) (read_metadata m) (read_updates us))) start_not_formed
