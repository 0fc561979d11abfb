-- What a run does to a whole history, one that names held snapshots alone: it stays whole, and a logged removal of office 1 makes any history whole.
use Prim.Native.Nat.{ℕ}
use mathlib.Core.Path.{◌≡◌, refl, sym, ◌∙◌, subst}
use mathlib.Core.Bool.{Bool, true, false, not, ◌&&◌, false≢true, true≢false}
use mathlib.Core.List.{List, []}
use lib.IntN.{ℤ}
use borrow.Author.Tests.{not-true, not-false}
use borrow.Table.Steps.{cases}
use Rattle.rules.specs.Words.{eq_z, is_some, all, any, after_last, is_empty, is_in, put}
use Rattle.rules.specs.Names.{is_main}
use Rattle.rules.specs.Offices.{first_office}
use Rattle.rules.specs.Register.{Snapshot, Reference, LogEntry, FileEntry, Metadata, Update, Terms, State}
use Rattle.rules.specs.Register.Outcome.{Accepted}
use Rattle.rules.specs.Register.StatisticsTable.{Statistics, PartitionStatistics}
use Rattle.rules.specs.Register.Update.{AssignUuid, UpgradeFormatVersion, SetLocation, AddSnapshot, SetBranchSnapshot, RemoveSnapshots, SetRef, RemoveRef, AddSchema, SetCurrentSchema, RemoveSchemas, AddSortOrder, SetDefaultSortOrder, SetStatistics, RemoveStatistics, AddPartitionSpec, SetDefaultPartitionSpec, RemovePartitionSpecs, NotFormed}
use Rattle.rules.specs.WellFormed.{snapshot_below, holds_snapshot}
use Rattle.rules.specs.ChangeLog.{logs_main, logs_removal}
use Rattle.rules.specs.Moment.{is_whole}
use Rattle.rules.specs.SnapshotUpdates.{add_snapshot, held_snapshots, other_snapshots, remove_snapshots}
use Rattle.rules.specs.RefUpdates.{ref_named, is_held_ref, set_ref, committed, set_branch_snapshot, remove_ref}
use Rattle.rules.specs.StatisticsUpdates.{has_file_of, set_statistics, remove_statistics}
use Rattle.rules.specs.Others.{is_second, names_others, others_reach, is_needed, is_others}
use Rattle.rules.specs.Updates.{effect}
use Rattle.rules.specs.Close.{intermediates, is_rebuilt, is_missing, is_intermediate, rebuilt, history, closed}
use Rattle.rules.specs.Run.{started, closing_log, run}
use Rattle.rules.proofs.Checks.{by_test, both, or_right, by_either}
use Rattle.rules.proofs.Orders.{numbers_ordered}
use Rattle.rules.proofs.Tables.{all_then, all_keep, all_append, any_put}
use Rattle.rules.proofs.Sound.Refs.{names_own}
use Rattle.rules.proofs.Sound.Updates.{accepted_own}
use Rattle.rules.proofs.Sound.Accepted.{Ends, run_accepted}
use Rattle.rules.proofs.Sound.Run.{run_keeps}
use Rattle.rules.proofs.History.Lists.{in_any, all_keyed, stays_or_goes, after_last_none}
use Rattle.rules.proofs.History.Accounted.{is_known, no_removal, AccountedState, run_accounted}

-- the entry's snapshot is held
abbrev pub is_held_in : Metadata → LogEntry → Bool
is_held_in m e = holds_snapshot m.snapshots e.snapshot

-- ---- the close

-- after a logged removal only entries of held snapshots stay
removal_held : (log : List Update) (m : Metadata) → logs_removal log ≡ true → all (is_held_in m) (history log m) ≡ true
unfolding rebuilt
removal_held log m e =
    let l : List LogEntry = after_last (is_missing m) m.snapshot_log in
    rw e
    (all_keep (is_held_in m) (λ x. not (is_intermediate log m x)) l
    (all_then (λ x. not (is_missing m x)) (is_held_in m) (λ x h. not-false (is_held_in m x) (not-true (is_missing m x) h)) l (after_last_none (is_missing m) m.snapshot_log)))

-- where all are held, those that stay are
history_held : (log : List Update) (m : Metadata) → logs_removal log ≡ false → all (is_held_in m) m.snapshot_log ≡ true → all (is_held_in m) (history log m) ≡ true
unfolding rebuilt
history_held log m e h =
    let P : List LogEntry → Type 0 = λ l. all (is_held_in m) l ≡ true in
    by_test P (is_rebuilt log m)
    (λ r. rw e (all_keep (is_held_in m) (λ e. not (is_missing m e) && not (is_intermediate log m e)) m.snapshot_log h))
    (λ r. h)

-- the close of an empty log leaves the history
pub history_left : (m : Metadata) → history [] m ≡ m.snapshot_log
unfolding logs_removal logs_main intermediates
history_left m = refl

-- ---- the updates of office 2

-- the history of a state is whole
abbrev WholeState : State → Type 0
WholeState st = is_whole st.metadata ≡ true

add_snapshot_whole : (s : Snapshot) (st : State) → WholeState st → WholeState (add_snapshot s st)
unfolding add_snapshot is_whole
add_snapshot_whole s st w =
    let l : List Snapshot = st.metadata.snapshots in
    all_then (is_held_in st.metadata) (λ (e : LogEntry). holds_snapshot (put snapshot_below s l) e.snapshot)
    (λ e. any_put numbers_ordered (λ (x : Snapshot). x.id) (λ (k : ℤ). eq_z k e.snapshot) s l) st.metadata.snapshot_log w

-- it removes no snapshot that the log names
remove_snapshots_whole : (office : ℕ) (ids : List ℤ) (st : State) → is_second office ≡ true → any (is_needed office st.metadata) (held_snapshots ids st.metadata.snapshots) ≡ false
    → WholeState st → WholeState (remove_snapshots ids st)
unfolding remove_snapshots is_whole
remove_snapshots_whole office ids st o n w =
    let m : Metadata = st.metadata in
    let held : List ℤ = held_snapshots ids m.snapshots in
    let others : List Snapshot = other_snapshots ids m.snapshots in
    let k : all (λ (e : LogEntry). holds_snapshot others e.snapshot) m.snapshot_log ≡ true =
    all_keyed (λ (e : LogEntry). e.snapshot) (is_held_in m) (λ (e : LogEntry). holds_snapshot others e.snapshot) m.snapshot_log
    (λ e named h. by_either (holds_snapshot others e.snapshot) (is_in held e.snapshot)
    (λ q. q)
    (λ q. absurd (true≢false (sym (in_any (is_needed office m) held e.snapshot q (or_right (others_reach office m e.snapshot) (both o named))) ∙ n)))
    (stays_or_goes (λ (s : Snapshot). s.id) ids m.snapshots e.snapshot h)) w in
    by_test WholeState (is_empty held) (λ q. k) (λ q. k)

-- it sets no `main`
set_ref_whole : (terms : Terms) (name : List ℕ) (r : Reference) (st : State) → is_second terms.office ≡ true → names_others terms.office name st.metadata ≡ false → WholeState st → WholeState (set_ref terms name r st)
unfolding set_ref is_whole
set_ref_whole terms name r st o n w =
    let other : is_main name ≡ false = rw o at (names_own terms.office name st.metadata n).0 in
    by_test WholeState (is_held_ref name r st.metadata.refs) (λ q. w) (λ q. rw other w)

-- what is kept for office 1 is not its own
kept : {A : Type 0} {second : Bool} → second ≡ true → second ≡ false → A
kept o n = absurd (true≢false (sym o ∙ n))

own_whole : (terms : Terms) (u : Update) (st : State) → is_second terms.office ≡ true → is_others terms.office u st.metadata ≡ false → WholeState st → WholeState (effect terms u st)
unfolding is_others effect add_snapshot set_branch_snapshot remove_ref set_statistics remove_statistics is_whole
own_whole terms (AssignUuid uuid) st o n w = kept o n
own_whole terms (UpgradeFormatVersion v) st o n w = kept o n
own_whole terms (SetLocation location) st o n w = kept o n
own_whole terms (AddSnapshot s) st o n w = add_snapshot_whole s st w
own_whole terms (SetBranchSnapshot name s) st o n w = set_ref_whole terms name (committed name s.id st.metadata.refs) (add_snapshot s st) o n (add_snapshot_whole s st w)
own_whole terms (RemoveSnapshots ids) st o n w = remove_snapshots_whole terms.office ids st o n w
own_whole terms (SetRef name r) st o n w = set_ref_whole terms name r st o n w
own_whole terms (RemoveRef name) st o n w = by_test WholeState (is_main name) (λ q. w) (λ q. by_test WholeState (is_some (ref_named name st.metadata.refs)) (λ h. w) (λ h. w))
own_whole terms (AddSchema x) st o n w = kept o n
own_whole terms (SetCurrentSchema id) st o n w = kept o n
own_whole terms (RemoveSchemas ids) st o n w = kept o n
own_whole terms (AddSortOrder x) st o n w = kept o n
own_whole terms (SetDefaultSortOrder id) st o n w = kept o n
own_whole terms (SetStatistics Statistics f) st o n w = w
own_whole terms (SetStatistics PartitionStatistics f) st o n w = w
own_whole terms (RemoveStatistics Statistics id) st o n w = by_test WholeState (has_file_of st.metadata.statistics id) (λ q. w) (λ q. w)
own_whole terms (RemoveStatistics PartitionStatistics id) st o n w = by_test WholeState (has_file_of st.metadata.partition_statistics id) (λ q. w) (λ q. w)
own_whole terms (AddPartitionSpec x) st o n w = kept o n
own_whole terms (SetDefaultPartitionSpec id) st o n w = kept o n
own_whole terms (RemovePartitionSpecs ids) st o n w = kept o n
own_whole terms (NotFormed counts) st o n w = w

-- ---- the run

-- without a removal what is known is held
pub known_held : (l : List Snapshot) (log : List Update) (id : ℤ) → logs_removal log ≡ false → is_known l log id ≡ true → holds_snapshot l id ≡ true
known_held l log id e k = by_either (holds_snapshot l id) false (λ h. h) (λ f. absurd (false≢true f)) (rw (no_removal log e) at k)

-- without a removal the history of a run that started with a whole one is whole before the close
pub end_held : (m : Metadata) (st : State) → AccountedState m st → logs_removal st.log ≡ false → is_whole m ≡ true → all (is_held_in st.metadata) st.metadata.snapshot_log ≡ true
unfolding is_whole
end_held m st a e w =
    let held : (id : ℤ) → is_known st.metadata.snapshots st.log id ≡ true → holds_snapshot st.metadata.snapshots id ≡ true = λ id. known_held st.metadata.snapshots st.log id e in
    rw a.appended
    (all_append (is_held_in st.metadata) m.snapshot_log a.joined
    (all_then (is_held_in m) (is_held_in st.metadata) (λ x k. held x.snapshot (a.start_known x.snapshot k)) m.snapshot_log w)
    (all_then (λ (x : LogEntry). is_known st.metadata.snapshots st.log x.snapshot) (is_held_in st.metadata) (λ x. held x.snapshot) a.joined a.joined_known))

module _ (terms : Terms) (m : Metadata) (us : List Update) (m' : Metadata) (log : List Update) (expired : List FileEntry) (accepted : run terms m us ≡ Accepted m' log expired) where
  ends : Ends terms m' log expired m us
  ends = run_accepted terms m' log expired m us accepted

  -- the close of a run of either office leaves the history whole if what it leaves is held
  whole_if : {closing : List Update} → closing_log terms ends.end ≡ closing → all (is_held_in ends.end.metadata) (history closing ends.end.metadata) ≡ true → is_whole m' ≡ true
  unfolding is_whole closed
  whole_if c h = subst (λ (x : Metadata). is_whole x ≡ true) ends.closes.metadata (rw c h)

  own_log : is_second terms.office ≡ false → closing_log terms ends.end ≡ log
  own_log o = rw o ends.closes.logged

  -- after a run of office 1 that logs a removal of snapshots the history is whole, whatever it was
  pub whole_after_removal : terms.office ≡ first_office → logs_removal log ≡ true → is_whole m' ≡ true
  whole_after_removal o r = whole_if (own_log (rw o)) (removal_held log ends.end.metadata r)

  -- a run from a whole history leads to a whole one
  pub whole_stays : is_whole m ≡ true → is_whole m' ≡ true
  unfolding is_whole
  whole_stays w = cases (is_second terms.office) second first
    where
      second : is_second terms.office ≡ true → is_whole m' ≡ true
      second o =
          whole_if {closing = []} (rw o)
          (rw (history_left ends.end.metadata)
          (run_keeps terms WholeState (λ u st e. own_whole terms u st o (accepted_own terms u st e)) us 0 (started m) ends.end ends.reached w))

      first : is_second terms.office ≡ false → is_whole m' ≡ true
      first o =
          cases (logs_removal log)
          (λ r. whole_if (own_log o) (removal_held log ends.end.metadata r))
          (λ r. whole_if (own_log o)
          (history_held log ends.end.metadata r (end_held m ends.end (run_accounted m terms us ends.end ends.reached) (rw ends.closes.logged r) w)))
