-- Over any sequence of runs of one office, each from what the one before answered, with list and terms of its own, the other office's refs are at the end those of the start;
-- and if the office is the second, so are the history and what is kept for the first. A refused run gives back its start.
use Prim.Native.Nat.{ℕ}
use mathlib.Core.Path.{◌≡◌, refl, ◌∙◌, subst}
use mathlib.Core.Bool.{true}
use mathlib.Core.List.{List, [], ◌∷◌}
use borrow.Author.Tests.{eqb-true}
use Rattle.rules.specs.Words.{all}
use Rattle.rules.specs.Register.{FileEntry, Metadata, Update, Terms, Outcome}
use Rattle.rules.specs.Register.Outcome.{Refused, Accepted}
use Rattle.rules.specs.Others.{is_second, others_refs}
use Rattle.rules.specs.Run.{run}
use Rattle.rules.specs.Rows.{Given, answered_from, end_over}
use Rattle.rules.specs.OfficeWalks.{is_of_office}
use Rattle.rules.proofs.Tables.{all_head, all_tail}
use Rattle.rules.proofs.Offices.Refs.{office_refs_stay}
use Rattle.rules.proofs.Offices.Second.{first_offices, accepted_leaves}
use Rattle.rules.proofs.Offices.History.{HistoryStays, history_left}
use Rattle.rules.proofs.Offices.Kept.{Kept, kept_left}

-- what an office leaves of metadata
pub record OfficeLeaves (office : ℕ) (m m' : Metadata) : Type 0 where
  pub refs : others_refs office m'.refs ≡ others_refs office m.refs
  pub firsts : is_second office ≡ true → first_offices m' ≡ first_offices m

pub leaves_all : (office : ℕ) (m : Metadata) → OfficeLeaves office m m
leaves_all office m = record { refs = refl; firsts = λ s. refl }

-- one after the other
pub leaves_on : (office : ℕ) (a b c : Metadata) → OfficeLeaves office a b → OfficeLeaves office b c → OfficeLeaves office a c
leaves_on office a b c p q = record { refs = q.refs ∙ p.refs; firsts = λ s. q.firsts s ∙ p.firsts s }

pub run_leaves_others : (terms : Terms) (m : Metadata) (us : List Update) (m' : Metadata) (log : List Update) (expired : List FileEntry) → run terms m us ≡ Accepted m' log expired → OfficeLeaves terms.office m m'
run_leaves_others terms m us m' log expired e = record { refs = office_refs_stay terms m us m' log expired e; firsts = λ s. accepted_leaves terms m us m' log expired s e }

answered_leaves : (g : Given) (m : Metadata) (o : Outcome) → run g.terms m g.updates ≡ o → OfficeLeaves g.terms.office m (answered_from m o)
answered_leaves g m (Refused number place) e = leaves_all g.terms.office m
answered_leaves g m (Accepted m' log expired) e = run_leaves_others g.terms m g.updates m' log expired e

over_leaves : (office : ℕ) (m : Metadata) (gs : List Given) → all (is_of_office office) gs ≡ true → OfficeLeaves office m (end_over m gs)
unfolding end_over
over_leaves office m [] h = leaves_all office m
over_leaves office m (g ∷ gs) h =
    let o : Outcome = run g.terms m g.updates in
    let next : Metadata = answered_from m o in
    leaves_on office m next (end_over next gs)
    (subst (λ (x : ℕ). OfficeLeaves x m next) (eqb-true g.terms.office office (all_head (is_of_office office) g gs h)) (answered_leaves g m o refl))
    (over_leaves office next gs (all_tail (is_of_office office) g gs h))

-- Over any sequence of runs of one office:
module _ (office : ℕ) (m : Metadata) (gs : List Given) (h : all (is_of_office office) gs ≡ true) where
  -- the other office's refs stay, records and owners, in the same order;
  pub office_refs_over : others_refs office (end_over m gs).refs ≡ others_refs office m.refs
  office_refs_over = (over_leaves office m gs h).refs

  -- under the second office the history stays,
  pub office_history_over : is_second office ≡ true → HistoryStays m (end_over m gs)
  office_history_over s = history_left ((over_leaves office m gs h).firsts s)

  -- and all that is kept for the first
  pub office_kept_over : is_second office ≡ true → Kept m (end_over m gs)
  office_kept_over s = kept_left ((over_leaves office m gs h).firsts s)
