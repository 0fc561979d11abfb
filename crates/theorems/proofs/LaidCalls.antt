-- Calls of what is laid out, of an office and else under the terms of the examples: what they answer is what the rules answer, laid out. So chains of calls are computed
-- over lists; that what is laid out reads back is cited.
use Prim.Native.Nat.{ℕ}
use mathlib.Core.Path.{◌≡◌, refl, sym, ap, ◌∙◌}
use mathlib.Core.Bool.{true}
use mathlib.Core.List.{List}
use Rattle.records.specs.declared.run.RunTerms.{RunTerms}
use Rattle.records.specs.declared.run.Answer.{Answer}
use Rattle.rules.specs.Words.{all}
use Rattle.rules.specs.Register.{Metadata, Update, Outcome}
use Rattle.rules.specs.Register.Outcome.{Refused, Accepted}
use Rattle.rules.specs.WellFormed.{metadata_formed, update_formed}
use Rattle.rules.specs.Run.{run}
use Rattle.rules.specs.Layout.{laid_metadata}
use Rattle.rules.specs.Kinds.{laid_updates}
use Rattle.rules.specs.Answer.{laid_outcome}
use Rattle.rules.specs.Rows.{answered_from}
use Rattle.rules.specs.Examples.{terms, as_office}
use Rattle.rules.proofs.Answer.Laws.{laid_answer}
use Rattle.rules.proofs.Answer.Instances.{call_terms, call_lent}
use Rattle.theorems.proofs.Run.{Call, call_of}

abbrev pub terms_of : ℕ → RunTerms
terms_of office = record { clock_ms = call_terms.clock_ms; tolerance_ms = call_terms.tolerance_ms; has_file = call_terms.has_file; file = call_terms.file; office = office }

abbrev pub laid_call : ℕ → Metadata → List Update → Call
laid_call office p us = call_of (laid_metadata p) (laid_updates us) (terms_of office) call_lent

-- what the rules answer
abbrev pub outcome : ℕ → Metadata → List Update → Outcome
outcome office p us = run (as_office office terms) p us

-- and what the next call starts from
abbrev pub next : ℕ → Metadata → List Update → Metadata
next office p us = answered_from p (outcome office p us)

-- the number of such a call, and its metadata
pub record Laid (office : ℕ) (p : Metadata) (us : List Update) : Type 0 where
  pub number : (laid_call office p us).answered.number ≡ (laid_outcome (laid_metadata p) (outcome office p us)).number
  pub metadata : laid_metadata (next office p us) ≡ (laid_call office p us).answered.metadata

pub laid : (office : ℕ) (p : Metadata) (us : List Update) → metadata_formed p ≡ true → all update_formed us ≡ true → Laid office p us
unfolding laid_outcome
laid office p us f g =
    let e : (laid_call office p us).answered ≡ laid_outcome (laid_metadata p) (outcome office p us) = laid_answer p us (terms_of office) call_lent f g in
    record { number = ap (λ (a : Answer). a.number) e; metadata = go (outcome office p us) ∙ sym (ap (λ (a : Answer). a.metadata) e) }
  where
    go : (o : Outcome) → laid_metadata (answered_from p o) ≡ (laid_outcome (laid_metadata p) o).metadata
    go (Refused number place) = refl
    go (Accepted m log expired) = refl
