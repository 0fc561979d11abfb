-- Expiry and the entry point `run`, by its contract alone: what a call with the list of an expiry answers, what it leaves of refs, walks and the history,
-- that a second list is then empty, and what a call with more behind the list does not answer with.
use Prim.Native.Nat.{◌+◌, ◌≤◌}
use native.Mathlib.Omega.{arith}
use mathlib.Core.Path.{◌≡◌, refl, ap, sym, ◌∙◌}
use mathlib.Core.Bool.{true}
use mathlib.Core.List.{List, [], ◌∷◌, ◌++◌, Memᴰ}
use mathlib.Core.Option.{none}
use lib.Dec.{eqb}
use lib.IntN.{ℤ}
use lib.ListN.{length}
use Rattle.records.specs.declared.run.Answer.{Answer}
use Rattle.rules.specs.Words.{any, first_of}
use Rattle.rules.specs.Replies.{accepted, table_full, log_ends_elsewhere}
use Rattle.rules.specs.Capacities.{snapshot_room}
use Rattle.rules.specs.Names.{main_name}
use Rattle.rules.specs.Register.{Snapshot, NamedRef, Update, State, Outcome}
use Rattle.rules.specs.Register.Outcome.{Refused, Accepted}
use Rattle.rules.specs.Register.Update.{AddSnapshot, SetBranchSnapshot}
use Rattle.rules.specs.WellFormed.{branch, snapshot_formed, points_in}
use Rattle.rules.specs.Walk.{Listed, record_ancestors}
use Rattle.rules.specs.OfficeWalks.{HeldAlike}
use Rattle.rules.specs.Moment.{current_at}
use Rattle.rules.specs.Run.{run_from, started, start_checks, run}
use Rattle.rules.specs.Run.Ran.{Reached}
use Rattle.rules.specs.Blanks.{is_tidy_metadata}
use Rattle.rules.specs.Layout.{read_metadata_log}
use Rattle.rules.specs.Kinds.{laid_updates}
use Rattle.rules.specs.Answer.{laid_outcome, answer}
use Rattle.rules.proofs.Checks.{or_right}
use Rattle.rules.proofs.History.Lists.{all_in}
use Rattle.rules.proofs.Answer.Laws.{Accepts, accepts_laid, zero_accepts}
use Rattle.retention.specs.Retention.{Policy, count_of, remaining_refs, own_refs, remaining_snapshots}
use Rattle.retention.specs.Expiry.{expiry}
use Rattle.retention.specs.Outcome.{list_outcome}
use Rattle.retention.proofs.Stay.{refs_keep_theirs}
use Rattle.retention.proofs.Run.{expiry_run, list_numbers, list_numbers_never, list_logged}
use Rattle.retention.proofs.Second.{Left, empty_list, kept_alike, list_leaves, second_list_empty}
use Rattle.retention.proofs.Branches.{BranchBegins, branch_walk_begins}
use Rattle.retention.proofs.History.{MomentLeft, MomentWith, expiry_removing, removals_moment}
use Rattle.retention.proofs.Commit.{entry_of, main_commit_no_21, commit_after_moment}
use Rattle.retention.proofs.Room.{other_checks, list_and, room_after, no_more_after, one_more_is_19}
use Rattle.theorems.proofs.Run.{Call, start, updates, terms, lent, says}
use Rattle.theorems.proofs.Moment.{before, asked, under, after, changes, answered_number, accepted as rules-accept}

-- from a tidy start the answer is what the rules say of the list, whichever way that is written, laid out
laid_as : (c : Call) → is_tidy_metadata (start c) ≡ true → {us : List Update} {o : Outcome} → asked c ≡ us → run (under c) (before c) us ≡ o → c.answered ≡ laid_outcome (start c) o
unfolding answer
laid_as c t q r = says c ∙ rw (t, q, r)

-- ---- the list alone

-- the call runs the list that a policy makes of its start, for the same office
pub record RunsList (c : Call) (p : Policy) : Type 0 where
  pub tidy : is_tidy_metadata (start c) ≡ true
  pub made : (expiry p (before c)).number ≡ accepted
  pub office : (terms c).office ≡ p.office
  pub list : asked c ≡ (expiry p (before c)).updates

module _ (c : Call) (p : Policy) (k : RunsList c p) where
  -- the answer, exactly: number, place, metadata, changes and expired entries
  pub run_expiry : c.answered ≡ laid_outcome (start c) (list_outcome (under c) p (before c))
  run_expiry = laid_as c k.tidy k.list (expiry_run (under c) p (before c) k.made k.office)

  -- the number is one of 0, 1, 26, 31, 32, 20, 21 and 23: never 2, 3, 19, 22, 35 or 39
  pub run_expiry_numbers : any (eqb c.answered.number) (accepted ∷ list_numbers) ≡ true
  run_expiry_numbers =
      answered_number c (λ number. any (eqb number) (accepted ∷ list_numbers) ≡ true) refl refl
      (λ number place q. or_right (eqb number accepted) (list_numbers_never (under c) p (before c) k.made k.office number place (ap (run (under c) (before c)) (sym k.list) ∙ q)))

  -- of an accepted call
  module _ (e : c.answered.number ≡ 0) where
    list_accepted : run (under c) (before c) (expiry p (before c)).updates ≡ Accepted (after c) (changes c) (read_metadata_log c.answered.expired)
    list_accepted = ap (run (under c) (before c)) (sym k.list) ∙ rules-accept c e

    -- the changes are the list,
    pub run_expiry_logged : c.answered.changes ≡ laid_updates (expiry p (before c)).updates
    unfolding laid_outcome
    run_expiry_logged =
        let z : Accepts (start c) (updates c) (terms c) (lent c) = zero_accepts (start c) (updates c) (terms c) (lent c) (sym (ap (λ (a : Answer). a.number) (says c)) ∙ e) in
        ap (λ (a : Answer). a.changes) (says c ∙ accepts_laid (start c) (updates c) (terms c) (lent c) z)
        ∙ ap laid_updates (list_logged (under c) p (before c) k.made k.office _ _ _ (ap (run (under c) (before c)) (sym k.list) ∙ z.runs))

    -- refs, snapshots and the snapshot log are those that the policy keeps,
    pub run_expiry_leaves : Left p (before c) (after c)
    run_expiry_leaves = list_leaves (under c) p (before c) k.made k.office list_accepted

    -- and the same policy makes an empty list of what is answered
    pub run_second_list_empty : expiry p (after c) ≡ empty_list
    run_second_list_empty = second_list_empty (under c) p (before c) k.made k.office list_accepted

    -- no ref that is left has lost its snapshot, nor has that another record
    pub run_expiry_refs_held : (r : NamedRef) → Memᴰ r (after c).refs → HeldAlike (before c).snapshots (after c).snapshots r.reference.snapshot
    run_expiry_refs_held =
        rw (run_expiry_leaves.refs, run_expiry_leaves.snapshots)
        (λ r i. kept_alike p (before c) r.reference.snapshot (all_in (points_in (remaining_snapshots p (before c))) (remaining_refs p (before c)) (refs_keep_theirs p (before c) k.made) i))

    -- the walk of an own branch that is left is a beginning of what it was: as many as its count says, or the whole
    pub run_expiry_branch_walk : (r : NamedRef) → Memᴰ r (own_refs p (before c)) → r.reference.kind ≡ branch → (ids : List ℤ) → record_ancestors (before c).snapshots r.reference.snapshot none ≡ Listed ids
        → BranchBegins (count_of p r.reference) ids (record_ancestors (after c).snapshots r.reference.snapshot none)
    run_expiry_branch_walk = rw run_expiry_leaves.snapshots (branch_walk_begins p (before c) k.made)

-- ---- the history

-- a call whose list ends in a commit on `main` is not refused with 21
pub run_main_commit_no_21 : (c : Call) (us : List Update) (s : Snapshot) → asked c ≡ us ++ (SetBranchSnapshot main_name s ∷ []) → c.answered.number ≡ log_ends_elsewhere → ⊥
run_main_commit_no_21 c us s q =
    answered_number c (λ number. number ≡ log_ends_elsewhere → ⊥) (λ z. omega (arith, z)) (λ z. omega (arith, z))
    (λ number place r. main_commit_no_21 (under c) (before c) us s number place (ap (run (under c) (before c)) (sym q) ∙ r))

module _ (c : Call) (e : c.answered.number ≡ 0) (p : Policy) where
  -- after an accepted call with the list of an expiry the answer for any time which snapshot was current is what it was, or none
  pub run_expiry_history : asked c ≡ (expiry p (before c)).updates → (time : ℤ) → MomentLeft (current_at time (before c).snapshot_log) (current_at time (after c).snapshot_log)
  run_expiry_history q =
      removals_moment (under c) (before c) (expiry_removing p (before c)) (after c) _ _ (ap (run (under c) (before c)) (sym q) ∙ rules-accept c e)

  -- with a commit on `main` behind the list it is what it was, none, or the commit's entry
  pub run_expiry_commit_history : (s : Snapshot) → asked c ≡ (expiry p (before c)).updates ++ (SetBranchSnapshot main_name s ∷ [])
      → (time : ℤ) → MomentWith (entry_of s) (current_at time (before c).snapshot_log) (current_at time (after c).snapshot_log)
  run_expiry_commit_history s q =
      commit_after_moment (under c) (before c) (expiry_removing p (before c)) s (after c) _ _ (ap (run (under c) (before c)) (sym q) ∙ rules-accept c e)

-- ---- additions behind the list

module _ (c : Call) (p : Policy) (e : (expiry p (before c)).number ≡ accepted) (o : (terms c).office ≡ p.office) (ss : List Snapshot) where
  -- 64 less the snapshots that are kept fit: with no more of them the call is not refused with 19,
  pub run_expiry_room : asked c ≡ list_and p (before c) ss → length (remaining_snapshots p (before c)) + length ss ≤ snapshot_room → c.answered.number ≡ table_full → ⊥
  run_expiry_room q h =
      answered_number c (λ number. number ≡ table_full → ⊥) (λ z. omega (arith, z)) (λ z. omega (arith, z))
      (λ number place r. room_after (under c) p (before c) e o ss h number place (ap (run (under c) (before c)) (sym q) ∙ r))

  -- and with more it is not accepted
  pub run_expiry_no_more : asked c ≡ list_and p (before c) ss → c.answered.number ≡ 0 → length (remaining_snapshots p (before c)) + length ss ≤ snapshot_room
  run_expiry_no_more q z = no_more_after (under c) p (before c) e o ss _ _ _ (ap (run (under c) (before c)) (sym q) ∙ rules-accept c z)

  -- where so many are run to the end one more is refused with 19, at its place, if the call passes 1, 2, 26 and 39 and that one every other check
  pub run_one_more_is_19 : is_tidy_metadata (start c) ≡ true → length (remaining_snapshots p (before c)) + length ss ≡ snapshot_room
      → (st : State) → run_from (under c) (list_and p (before c) ss) 0 (started (before c)) ≡ Reached st
      → (s : Snapshot) → snapshot_formed s ≡ true → first_of (other_checks (under c) s st) ≡ 0
      → asked c ≡ list_and p (before c) ss ++ (AddSnapshot s ∷ []) → first_of (start_checks (under c) (before c) (asked c)) ≡ accepted
      → c.answered ≡ laid_outcome (start c) (Refused table_full (length (list_and p (before c) ss)))
  run_one_more_is_19 t h st r s f n q g = laid_as c t q (one_more_is_19 (under c) p (before c) e o ss h st r s f n (rw q at g))
