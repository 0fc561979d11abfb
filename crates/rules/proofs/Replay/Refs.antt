-- Setting a ref, committing to a branch and removing a ref are replayed by what they log.
use Prim.Native.Nat.{ℕ}
use mathlib.Core.Path.{◌≡◌, refl}
use mathlib.Core.Bool.{Bool, true, false, cond, ◌&&◌}
use mathlib.Core.List.{List, [], ◌∷◌, ◌++◌}
use mathlib.Core.Option.{none}
use lib.Signed.{non_neg}
use Rattle.rules.specs.Words.{is_some, if_some, all, first_of}
use Rattle.rules.specs.Replies.{commit_on_tag}
use Rattle.rules.specs.Capacities.{ref_room}
use Rattle.rules.specs.Names.{is_main}
use Rattle.rules.specs.Register.{Snapshot, Reference, NamedRef, Update, Terms, State, with_own, with_current, on_fields, logged}
use Rattle.rules.specs.Register.Update.{AddSnapshot, SetBranchSnapshot, SetRef, RemoveRef}
use Rattle.rules.specs.WellFormed.{name_formed, snapshot_formed, ref_formed, refs_formed, ref_below, update_formed}
use Rattle.rules.specs.ChangeLog.{logs_addition}
use Rattle.rules.specs.SnapshotUpdates.{add_snapshot_checks, add_snapshot}
use Rattle.rules.specs.RefUpdates.{ref_named, is_held_ref, is_tag, own_after, as_main, put_ref, committed, without_ref, set_ref_checks, set_ref, set_branch_snapshot_checks, set_branch_snapshot, remove_ref}
use Rattle.rules.specs.Others.{is_others}
use Rattle.rules.specs.Updates.{offers_formed, checks, update_number, effect}
use Rattle.rules.specs.Replay.{strip}
use Rattle.rules.proofs.Checks.{both, and_left, and_right, parts, passed_before, passed_after}
use Rattle.rules.proofs.Tables.{table_parts_lem}
use Rattle.rules.proofs.Sound.Metadata.{Sound}
use Rattle.rules.proofs.Sound.Snapshots.{add_snapshot_numbered}
use Rattle.rules.proofs.Sound.Refs.{committed_formed}
use Rattle.rules.proofs.Sound.Updates.{accepted_form, accepted_own, accepted_checks}
use Rattle.rules.proofs.Replay.Steps.{with_log, accepted_if, Replays, nothing, once, followed}
use Rattle.rules.proofs.Replay.Snapshots.{add_snapshot_replays}

-- ---- set ref

-- a ref that takes effect, for `main` or not
abbrev taken : Terms → List ℕ → Reference → Bool → State → State
taken terms name r main st =
    logged (SetRef name r)
    (put_ref terms.office name r
    (cond main
    (as_main terms.clock r.snapshot (with_own (own_after r.snapshot st) st))
    (with_own (own_after r.snapshot st) st)))

module _ (terms : Terms) (name : List ℕ) (r : Reference) (st : State) where
  taken_log : (main : Bool) → (taken terms name r main st).log ≡ st.log ++ (SetRef name r ∷ [])
  taken_log true = refl
  taken_log false = refl

  -- it reads from the log whether the snapshot's addition is logged
  taken_alike : (main : Bool) (l : List Update) → logs_addition l r.snapshot ≡ logs_addition st.log r.snapshot
      → taken terms name r main (with_log l st) ≡ with_log (l ++ (SetRef name r ∷ [])) (taken terms name r main st)
  taken_alike true l h = rw h
  taken_alike false l h = rw h

  pub set_ref_replays : update_number terms (SetRef name r) st ≡ 0 → Replays terms 1 st (effect terms (SetRef name r) st)
  unfolding effect set_ref strip
  set_ref_replays e = go (is_held_ref name r st.metadata.refs) refl
    where
      go : (t : Bool) → is_held_ref name r st.metadata.refs ≡ t → Replays terms 1 st (cond t st (taken terms name r (is_main name) st))
      go true q = nothing terms 1 st
      go false q = once terms (SetRef name r) st (taken terms name r (is_main name) st) refl e (taken_log (is_main name)) (λ l h. rw q (taken_alike (is_main name) l (h r.snapshot)))

-- ---- branch commit

held_refs_formed : (l : List NamedRef) → refs_formed l ≡ true → all ref_formed l ≡ true
unfolding refs_formed
held_refs_formed l h = (table_parts_lem ref_room ref_formed ref_below l h).1

module _ (terms : Terms) (name : List ℕ) (s : Snapshot) (st : State) (e : update_number terms (SetBranchSnapshot name s) st ≡ 0) where
  abbrev commit : Reference
  commit = committed name s.id st.metadata.refs

  commit_form : name_formed name && snapshot_formed s ≡ true
  unfolding update_formed
  commit_form = accepted_form terms (SetBranchSnapshot name s) st e

  -- the checks of a commit, after 13, are those of its two parts
  pub commit_checks : first_of (add_snapshot_checks terms.tolerance s st ++ set_ref_checks name commit (add_snapshot s st)) ≡ 0
  unfolding checks set_branch_snapshot_checks
  commit_checks =
      passed_after
      ((is_tag name st.metadata.refs, commit_on_tag) ∷ [])
      (add_snapshot_checks terms.tolerance s st ++ set_ref_checks name commit (add_snapshot s st))
      refl
      (accepted_checks terms (SetBranchSnapshot name s) st e)

  commit_adds : update_number terms (AddSnapshot s) st ≡ 0
  unfolding checks update_formed offers_formed is_others
  commit_adds =
      accepted_if terms (AddSnapshot s) st
      (and_right (name_formed name) (snapshot_formed s) commit_form)
      refl
      refl
      (passed_before (add_snapshot_checks terms.tolerance s st) (set_ref_checks name commit (add_snapshot s st)) commit_checks)

  commit_set_formed : Sound st.metadata → update_formed (SetRef name commit) ≡ true
  unfolding update_formed
  commit_set_formed k =
      let n : non_neg s.id ≡ true = (parts (non_neg s.id) (if_some non_neg s.parent ∷ non_neg s.sequence.0 ∷ []) (and_right (name_formed name) (snapshot_formed s) commit_form)).0 in
      both (and_left (name_formed name) (snapshot_formed s) commit_form) (committed_formed name s.id st.metadata.refs n (held_refs_formed st.metadata.refs k.refs))

  -- the addition leaves the refs as they are, so the ref is still not the other office's
  commit_sets : Sound st.metadata → update_number terms (SetRef name commit) (add_snapshot s st) ≡ 0
  unfolding checks offers_formed is_others add_snapshot
  commit_sets k =
      accepted_if terms (SetRef name commit) (add_snapshot s st)
      (commit_set_formed k)
      refl
      (accepted_own terms (SetBranchSnapshot name s) st e)
      (passed_after (add_snapshot_checks terms.tolerance s st) (set_ref_checks name commit (add_snapshot s st)) (add_snapshot_numbered terms.tolerance s st) commit_checks)

-- a commit is an addition and a ref, and so are its two entries
pub set_branch_snapshot_replays : (terms : Terms) (name : List ℕ) (s : Snapshot) (st : State) → update_number terms (SetBranchSnapshot name s) st ≡ 0 → Sound st.metadata → Replays terms 2 st (effect terms (SetBranchSnapshot name s) st)
unfolding effect set_branch_snapshot
set_branch_snapshot_replays terms name s st e k =
    followed terms 1 1 st (add_snapshot s st) (effect terms (SetBranchSnapshot name s) st)
    (add_snapshot_replays terms s st (commit_adds terms name s st e))
    (set_ref_replays terms name (commit terms name s st e) (add_snapshot s st) (commit_sets terms name s st e k))

-- ---- remove ref

pub remove_ref_replays : (terms : Terms) (name : List ℕ) (st : State) → update_number terms (RemoveRef name) st ≡ 0 → Replays terms 1 st (effect terms (RemoveRef name) st)
unfolding effect remove_ref strip
remove_ref_replays terms name st e = go (is_main name) refl
  where
    cleared : State
    cleared = logged (RemoveRef name) (on_fields (with_current none) (without_ref name st))

    removed : State
    removed = logged (RemoveRef name) (without_ref name st)

    other : is_main name ≡ false → (t : Bool) → is_some (ref_named name st.metadata.refs) ≡ t → Replays terms 1 st (cond t removed st)
    other m true q = once terms (RemoveRef name) st removed refl e refl (λ l h. rw (m, q))
    other m false q = nothing terms 1 st

    go : (t : Bool) → is_main name ≡ t → Replays terms 1 st (cond t cleared (cond (is_some (ref_named name st.metadata.refs)) removed st))
    go true m = once terms (RemoveRef name) st cleared refl e refl (λ l h. rw m)
    go false m = other m (is_some (ref_named name st.metadata.refs)) refl
