-- What is said of a stored log that is to lead from a starting metadata to an ending one: that it does, or how it is refused, or the first difference.
use Rattle.std.specs.Prelude.{ℕ, Bool, cond, ◌&&◌, List, eqb}
use Rattle.records.specs.declared.metadata.TableMetadata.{TableMetadata}
use Rattle.records.specs.declared.update.UpdateList.{UpdateList}
use Rattle.records.specs.declared.run.RunTerms.{RunTerms}
use Rattle.records.specs.declared.run.Answer.{Answer}
use Rattle.rules.specs.Replies.{accepted}
use Rattle.rules.specs.Answer.{Lent, answer}
use Rattle.compare.specs.Parts.{first_difference, no_difference}
use Rattle.verdict.specs.declared.Verdict.{Verdict}

-- the metadata of a refused run is not compared
unfoldable pub judged : Answer → TableMetadata → Verdict
judged a ending =
    record {
      number = a.number;
      place = a.place;
      difference = cond (eqb a.number accepted) (first_difference a.metadata ending) no_difference;
    }

unfoldable pub verdict : TableMetadata → UpdateList → RunTerms → Lent → TableMetadata → Verdict
verdict m us terms lent ending = judged (answer m us terms lent) ending

-- the run is accepted, and nothing differs
abbrev pub leads_there : Verdict → Bool
leads_there v = eqb v.number accepted && eqb v.difference.part 0
