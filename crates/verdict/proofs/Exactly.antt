-- The verdict is exact: a log leads there exactly if its run is accepted with the ending metadata (`leads_exactly`), said of the definition
-- of any verdict that the contract of `judge` allows (`judge_leads_exactly`), and of any that `judge_answer` allows for an answer that is there already
-- (`judge_answer_leads_exactly`).
use Prim.Native.Nat.{ℕ}
use mathlib.Core.Path.{◌≡◌}
use mathlib.Core.Bool.{true}
use mathlib.Core.List.{List, [], ◌∷◌}
use borrow.Author.Tests.{eqb-true, eq-eqb}
use borrow.Fn.Kinds.{Dens, ended_of}
use contract.Lifetimes.{Lfts}
use denote.Triple.Clauses.{AtExit}
use lib.Dec.{eqb}
use Rattle.records.specs.declared.metadata.TableMetadata.{TableMetadata}
use Rattle.records.specs.declared.update.UpdateList.{UpdateList}
use Rattle.records.specs.declared.run.RunTerms.{RunTerms}
use Rattle.records.specs.declared.run.Answer.{Answer}
use Rattle.rules.specs.Answer.{Lent, answer}
use Rattle.rules.proofs.Checks.{parts, both}
use Rattle.compare.specs.Parts.{first_difference}
use Rattle.compare.proofs.Exactly.{same_exactly}
use Rattle.verdict.specs.declared.Verdict.{Verdict}
use Rattle.verdict.specs.Judged.{judged, verdict, leads_there}
use Rattle.verdict.proofs.judge.Kinds.{ps, r}
use Rattle.verdict.proofs.judge.Reads.{Post}
use Rattle.verdict.proofs.judge_answer.Kinds as answered
use Rattle.verdict.proofs.judge_answer.Reads as answered-reads

-- a run is accepted, and its metadata is the ending one
abbrev pub EndsAt : Answer → TableMetadata → Type 0
EndsAt a ending = (a.number ≡ 0) × (a.metadata ≡ ending)

module _ (a : Answer) (ending : TableMetadata) where
  judged_ends : leads_there (judged a ending) ≡ true → EndsAt a ending
  unfolding judged
  judged_ends e =
      let k = parts (eqb a.number 0) (eqb (judged a ending).difference.part 0 ∷ []) e in
      let d : eqb (first_difference a.metadata ending).part 0 ≡ true = rw k.0 at k.1.0 in
      (eqb-true a.number 0 k.0, (same_exactly a.metadata ending).0 (eqb-true (first_difference a.metadata ending).part 0 d))

  ends_judged : EndsAt a ending → leads_there (judged a ending) ≡ true
  unfolding judged
  ends_judged e =
      let n : eqb a.number 0 ≡ true = eq-eqb a.number 0 e.0 in
      both n (rw n (eq-eqb (first_difference a.metadata ending).part 0 ((same_exactly a.metadata ending).1 e.1)))

abbrev Exactly : Verdict → Answer → TableMetadata → Type 0
Exactly v a ending = (leads_there v ≡ true → EndsAt a ending) × (EndsAt a ending → leads_there v ≡ true)

pub leads_exactly : (m : TableMetadata) (us : UpdateList) (terms : RunTerms) (lent : Lent) (ending : TableMetadata) → Exactly (verdict m us terms lent ending) (answer m us terms lent) ending
unfolding verdict
leads_exactly m us terms lent ending = (judged_ends (answer m us terms lent) ending, ends_judged (answer m us terms lent) ending)

-- a call of `judge_answer`, and a verdict that its contract allows
pub judge_answer_leads_exactly : (κs : Lfts 0) (a : Dens κs answered.ps) (v : Verdict) (s : AtExit (ended_of 0 answered.ps answered.r) κs) → answered-reads.Post κs a v s → Exactly v a.0 a.1.0
judge_answer_leads_exactly κs a v s p = rw p (judged_ends a.0 a.1.0, ends_judged a.0 a.1.0)

-- a call of `judge`, and a verdict that its contract allows
pub judge_leads_exactly : (κs : Lfts 2) (a : Dens κs ps) (v : Verdict) (s : AtExit (ended_of 2 ps r) κs) → Post κs a v s → Exactly v (answer a.0 a.1.0 a.1.1.0 (record { text = a.1.1.1.0.now; offers = a.1.1.1.1.0.now })) a.1.1.1.1.1.0
judge_leads_exactly κs a v s p = rw p (leads_exactly a.0 a.1.0 a.1.1.0 (record { text = a.1.1.1.0.now; offers = a.1.1.1.1.0.now }) a.1.1.1.1.1.0)
