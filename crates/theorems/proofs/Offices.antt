-- Two offices, of the entry point `run`, by its contract alone: what a call of an office, accepted or refused, leaves of the other's, and so does any chain of calls of one office.
use Prim.Native.Nat.{ℕ}
use native.Mathlib.Omega.{arith}
use mathlib.Core.Path.{◌≡◌, refl, sym, ap, subst, ◌∙◌}
use mathlib.Core.Bool.{true, cond}
use mathlib.Core.List.{List, [], ◌∷◌, append-nil, Memᴰ}
use mathlib.Core.Option.{Option, none, some}
use lib.Dec.{eqb}
use lib.IntN.{ℤ}
use borrow.Author.Tests.{eqb-true, eqb-false, eq-eqb}
use borrow.Table.Steps.{cases}
use Rattle.records.specs.declared.metadata.TableMetadata.{TableMetadata}
use Rattle.rules.specs.Words.{all}
use Rattle.rules.specs.Replies.{start_not_formed, log_ends_elsewhere, main_disagrees}
use Rattle.rules.specs.Offices.{first_office, second_office}
use Rattle.rules.specs.Register.{NamedRef, Metadata, Outcome}
use Rattle.rules.specs.Register.Outcome.{Refused}
use Rattle.rules.specs.Walk.{Listed, record_ancestors}
use Rattle.rules.specs.RefUpdates.{ref_named, owner_after}
use Rattle.rules.specs.Others.{others_refs, others_reach}
use Rattle.rules.specs.OneOffice.{run_alone}
use Rattle.rules.specs.Moment.{current_at}
use Rattle.rules.specs.Blanks.{is_tidy_metadata}
use Rattle.rules.specs.Layout.{read_metadata}
use Rattle.rules.specs.Answer.{laid_outcome, answer}
use Rattle.rules.specs.OfficeWalks.{is_closed, HeldAlike, WalkStays, Onward, Further, is_of_office}
use Rattle.rules.proofs.Checks.{both, by_test}
use Rattle.rules.proofs.Offices.Reach.{office_reach_stays}
use Rattle.rules.proofs.Offices.Walks.{office_open_walks_begin, office_closed_walks_over}
use Rattle.rules.proofs.Offices.Owners.{office_owners}
use Rattle.rules.proofs.Offices.History.{HistoryStays, moment_stays}
use Rattle.rules.proofs.Offices.Kept.{Kept, office_no_log_refusal}
use Rattle.rules.proofs.Offices.Alone.{one_office_as_before}
use Rattle.rules.proofs.Offices.Runs.{office_refs_over, office_history_over, office_kept_over}
use Rattle.theorems.proofs.Run.{Call, start, terms, says, run_refused}
use Rattle.theorems.proofs.Moment.{before, asked, under, after, answered_number, accepted}
use Rattle.theorems.proofs.Chains.{Chain, end_over, alone, runs_of, chain_ends}

-- every call is the office's
abbrev pub OfOffice : ℕ → List Call → Type 0
OfOffice office [] = Unit {0}
OfOffice office (c ∷ cs) = ((terms c).office ≡ office) × OfOffice office cs

-- so are the runs of the rules
runs_of_office : (office : ℕ) (cs : List Call) → OfOffice office cs → all (is_of_office office) (runs_of cs) ≡ true
runs_of_office office [] h = refl
runs_of_office office (c ∷ cs) h =
    let rest : all (is_of_office office) (runs_of cs) ≡ true = runs_of_office office cs h.1 in
    by_test (λ gs. all (is_of_office office) gs ≡ true) (eqb c.answered.number 0) (λ e. both (eq-eqb (terms c).office office h.0) rest) (λ e. rest)

-- ---- any chain of calls of one office

module _ (office : ℕ) (m : TableMetadata) (cs : List Call) (h : Chain m cs) (o : OfOffice office cs) where
  -- the other office's refs are at the end those of the start, records and owners, in the same order,
  pub calls_others_refs_stay : others_refs office (read_metadata (end_over m cs)).refs ≡ others_refs office (read_metadata m).refs
  calls_others_refs_stay = rw (chain_ends m cs h) at (office_refs_over office (read_metadata m) (runs_of cs) (runs_of_office office cs o))

  -- and so is a walk from one of them that ends at a parentless snapshot, with all that it lists
  pub calls_closed_walks_stay : (r : NamedRef) → Memᴰ r (others_refs office (read_metadata m).refs)
      → is_closed (read_metadata m).snapshots (record_ancestors (read_metadata m).snapshots r.reference.snapshot none) ≡ true
      → WalkStays (read_metadata m).snapshots (read_metadata (end_over m cs)).snapshots r.reference.snapshot
  calls_closed_walks_stay = rw (chain_ends m cs h) at (office_closed_walks_over office (read_metadata m) (runs_of cs) (runs_of_office office cs o))

-- of the second office
module _ (m : TableMetadata) (cs : List Call) (h : Chain m cs) (o : OfOffice second_office cs) where
  -- the snapshot log and the current snapshot stay,
  pub calls_history_stays : HistoryStays (read_metadata m) (read_metadata (end_over m cs))
  calls_history_stays = rw (chain_ends m cs h) at (office_history_over second_office (read_metadata m) (runs_of cs) (runs_of_office second_office cs o) refl)

  -- so that for every time the answer which snapshot was current is the one that it was,
  pub calls_moment_stays : (time : ℤ) → current_at time (read_metadata (end_over m cs)).snapshot_log ≡ current_at time (read_metadata m).snapshot_log
  calls_moment_stays = moment_stays calls_history_stays

  -- and all that is kept for the first office stays
  pub calls_kept : Kept (read_metadata m) (read_metadata (end_over m cs))
  calls_kept = rw (chain_ends m cs h) at (office_kept_over second_office (read_metadata m) (runs_of cs) (runs_of_office second_office cs o) refl)

-- ---- one call

-- what holds of an accepted call, and of one that gives back its start, holds of any
accepted_or_back : (c : Call) (P : Metadata → Type 0) → (c.answered.number ≡ 0 → P (after c)) → P (before c) → P (after c)
accepted_or_back c P f b =
    cases (eqb c.answered.number 0)
    (λ t. f (eqb-true c.answered.number 0 t))
    (λ n. subst (λ (x : TableMetadata). P (read_metadata x)) (sym (run_refused c (eqb-false c.answered.number 0 n)).metadata) b)

module _ (c : Call) where
  -- the other office's refs stay, records and owners, in the same order
  pub run_others_refs_stay : others_refs (terms c).office (after c).refs ≡ others_refs (terms c).office (before c).refs
  run_others_refs_stay = calls_others_refs_stay (terms c).office (start c) (c ∷ []) (alone c) (refl, tt)

  -- a name that is held before and after has the owner that it had, and a new one the call's office
  pub run_owners : (name : List ℕ) (r : NamedRef) → ref_named name (after c).refs ≡ some r → r.owner ≡ owner_after (terms c).office name (before c).refs
  run_owners name r =
      accepted_or_back c (λ (m : Metadata). ref_named name m.refs ≡ some r → r.owner ≡ owner_after (terms c).office name (before c).refs)
      (λ e. office_owners (under c) (before c) (asked c) _ _ _ (accepted c e) name r)
      (λ q. rw (owner_after, q))

  -- every snapshot that the other office's refs reach is held after an accepted call, with an equal record
  pub run_reach_stays : c.answered.number ≡ 0 → (id : ℤ) → others_reach (terms c).office (before c) id ≡ true → HeldAlike (before c).snapshots (after c).snapshots id
  run_reach_stays e = office_reach_stays (under c) (before c) (asked c) _ _ _ (accepted c e)

  module _ (r : NamedRef) (own : Memᴰ r (others_refs (terms c).office (before c).refs)) where
    -- a walk from a ref of the other office that ends at a parentless snapshot stays as it was, with all that it lists,
    pub run_closed_walks_stay : is_closed (before c).snapshots (record_ancestors (before c).snapshots r.reference.snapshot none) ≡ true → WalkStays (before c).snapshots (after c).snapshots r.reference.snapshot
    run_closed_walks_stay = calls_closed_walks_stay (terms c).office (start c) (c ∷ []) (alone c) (refl, tt) r own

    -- and any other that listed ids is a beginning of the new one, unless that meets a snapshot twice
    pub run_open_walks_begin : (excluded : Option ℤ) (ids : List ℤ) → record_ancestors (before c).snapshots r.reference.snapshot excluded ≡ Listed ids
        → Onward ids (record_ancestors (after c).snapshots r.reference.snapshot excluded)
    run_open_walks_begin excluded ids q =
        accepted_or_back c (λ (m : Metadata). Onward ids (record_ancestors m.snapshots r.reference.snapshot excluded))
        (λ e. office_open_walks_begin (under c) (before c) (asked c) _ _ _ (accepted c e) r own excluded ids q)
        (Further [] (q ∙ ap Listed (sym (append-nil ids))))

-- the number is neither of the two that speak of the snapshot log and of `main`
abbrev pub Spared : ℕ → Type 0
Spared number = (number ≡ log_ends_elsewhere → ⊥) × (number ≡ main_disagrees → ⊥)

-- of the second office
module _ (c : Call) (s : (terms c).office ≡ second_office) where
  -- the snapshot log and the current snapshot stay,
  pub run_history_stays : HistoryStays (before c) (after c)
  run_history_stays = calls_history_stays (start c) (c ∷ []) (alone c) (s, tt)

  -- so that for every time the answer which snapshot was current is the one that it was;
  pub run_moment_stays : (time : ℤ) → current_at time (after c).snapshot_log ≡ current_at time (before c).snapshot_log
  run_moment_stays = moment_stays run_history_stays

  -- version, uuid, location, last column id, last partition id, schemas, orders, specs, and which of them are current or default stay;
  pub run_kept : Kept (before c) (after c)
  run_kept = calls_kept (start c) (c ∷ []) (alone c) (s, tt)

  -- and it is refused neither with 21 nor with 22
  pub run_no_log_refusal : Spared c.answered.number
  run_no_log_refusal =
      answered_number c Spared (λ q. omega (arith, q), λ q. omega (arith, q)) (λ q. omega (arith, q), λ q. omega (arith, q))
      (office_no_log_refusal (under c) (before c) (asked c) (eq-eqb (terms c).office second_office s))

-- With office 1 and no ref of the other's the answer is what it was before there were two offices.
pub run_one_office_as_before : (c : Call) → (terms c).office ≡ first_office → all (λ (r : NamedRef). eqb r.owner first_office) (before c).refs ≡ true
    → c.answered ≡ laid_outcome (start c) (cond (is_tidy_metadata (start c)) (run_alone (under c) (before c) (asked c)) (Refused start_not_formed 0))
unfolding answer
run_one_office_as_before c one own = says c ∙ ap (λ (o : Outcome). laid_outcome (start c) (cond (is_tidy_metadata (start c)) o (Refused start_not_formed 0))) (one_office_as_before (under c) one (before c) (asked c) own)
