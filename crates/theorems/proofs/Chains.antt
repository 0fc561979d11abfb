-- A chain of calls of the entry point `run`, each from what the one before answered, is a sequence of runs of the rules.
use mathlib.Core.Path.{◌≡◌, refl, sym, ap, subst, ◌∙◌}
use mathlib.Core.Bool.{Bool, true, false, cond}
use mathlib.Core.List.{List, [], ◌∷◌}
use lib.Dec.{eqb}
use borrow.Author.Tests.{eqb-true, eqb-false}
use Rattle.records.specs.declared.metadata.TableMetadata.{TableMetadata}
use Rattle.rules.specs.Register.{Outcome}
use Rattle.rules.specs.Layout.{read_metadata}
use Rattle.rules.specs.Rows.{Given, answered_from, end_over as endOfRuns}
use Rattle.theorems.proofs.Run.{Call, start, run_refused}
use Rattle.theorems.proofs.Moment.{before, asked, under, accepted}

-- each call starts from what the one before answered, the first from m
abbrev pub Chain : TableMetadata → List Call → Type 0
Chain m [] = Unit {0}
Chain m (c ∷ cs) = (start c ≡ m) × Chain c.answered.metadata cs

-- what the last of them answers; m, where there is none
abbrev pub end_over : TableMetadata → List Call → TableMetadata
end_over m [] = m
end_over m (c ∷ cs) = end_over c.answered.metadata cs

-- a call by itself is one
pub alone : (c : Call) → Chain (start c) (c ∷ [])
alone c = (refl, tt)

abbrev pub as_run : Call → Given
as_run c = record { terms = under c; updates = asked c }

-- those that were accepted; a refused one leaves what it was given
abbrev pub runs_of : List Call → List Given
runs_of [] = []
runs_of (c ∷ cs) = cond (eqb c.answered.number 0) (as_run c ∷ runs_of cs) (runs_of cs)

-- from its start the runs of a chain lead to its end
pub chain_ends : (m : TableMetadata) (cs : List Call) → Chain m cs → endOfRuns (read_metadata m) (runs_of cs) ≡ read_metadata (end_over m cs)
unfolding endOfRuns
chain_ends m [] h = refl
chain_ends m (c ∷ cs) h =
    subst (λ (x : TableMetadata). endOfRuns (read_metadata x) (runs_of (c ∷ cs)) ≡ read_metadata (end_over m (c ∷ cs))) h.0
    (go (eqb c.answered.number 0) refl (chain_ends c.answered.metadata cs h.1))
  where
    go : (b : Bool) → eqb c.answered.number 0 ≡ b → endOfRuns (read_metadata c.answered.metadata) (runs_of cs) ≡ read_metadata (end_over c.answered.metadata cs)
        → endOfRuns (before c) (cond b (as_run c ∷ runs_of cs) (runs_of cs)) ≡ read_metadata (end_over c.answered.metadata cs)
    go true e k = ap (λ (o : Outcome). endOfRuns (answered_from (before c) o) (runs_of cs)) (accepted c (eqb-true c.answered.number 0 e)) ∙ k
    go false e k = ap (λ (x : TableMetadata). endOfRuns (read_metadata x) (runs_of cs)) (sym (run_refused c (eqb-false c.answered.number 0 e)).metadata) ∙ k
