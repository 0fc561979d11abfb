-- What the entry point answers, on records with slots: the rules on what is read, laid out; on a refusal the metadata that was given.
-- Document 01, "A refused run returns the starting metadata, an empty log and no expired entries."
use Rattle.std.specs.Prelude.{ℕ, cond, List}
use Rattle.std.proofs.Math.Option.{some}
use Rattle.records.specs.Blanks.{no_metadata_log, no_updates}
use Rattle.records.specs.declared.metadata.TableMetadata.{TableMetadata}
use Rattle.records.specs.declared.update.UpdateList.{UpdateList}
use Rattle.records.specs.declared.run.RunTerms.{RunTerms}
use Rattle.records.specs.declared.run.Answer.{Answer}
use Rattle.rules.specs.Replies.{accepted, start_not_formed}
use Rattle.rules.specs.Register.{Terms, Outcome}
use Rattle.rules.specs.Register.Outcome.{Refused, Accepted}
use Rattle.rules.specs.Run.{run}
use Rattle.rules.specs.Blanks.{is_tidy_metadata}
use Rattle.rules.specs.Layout.{given, read_text, read_metadata, laid_metadata, laid_metadata_log}
use Rattle.rules.specs.Kinds.{read_updates, laid_updates}

-- what is lent to a run beside its terms: the limit text, and the bytes of what its updates offer
pub record Lent : Type 0 where
  pub text : List ℕ
  pub offers : List ℕ

-- an absent limit text and an empty one both give 100
abbrev pub read_terms : RunTerms → Lent → Terms
read_terms t lent = record { clock = t.clock_ms.0; tolerance = t.tolerance_ms.0; file = given t.has_file (read_text t.file); limit = some lent.text; office = t.office; offers = lent.offers }

-- the place of an accepted run is 0
unfoldable pub laid_outcome : TableMetadata → Outcome → Answer
laid_outcome m (Refused number place) = record { number = number; place = place; metadata = m; changes = no_updates; expired = no_metadata_log }
laid_outcome m (Accepted m' log expired) = record { number = accepted; place = 0; metadata = laid_metadata m'; changes = laid_updates log; expired = laid_metadata_log expired }

-- 1 also where an unused place of the metadata is not blank
unfoldable pub answer : TableMetadata → UpdateList → RunTerms → Lent → Answer
answer m us terms lent = laid_outcome m (cond (is_tidy_metadata m) (run (read_terms terms lent) (read_metadata m) (read_updates us)) (Refused start_not_formed 0))
