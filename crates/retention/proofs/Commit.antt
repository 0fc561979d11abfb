-- A list that ends in a commit on `main` is never refused with 21: the commit's snapshot is then the current one, is held, and its entry is the last of the
-- snapshot log, so that the log which the close builds anew ends there too. Where the commit stands behind removals alone, as behind the list of an expiry,
-- the answered log is an end of the old one and that entry.
use Prim.Native.Nat.{ℕ, suc}
use mathlib.Core.Path.{◌≡◌, refl, sym, ap, ◌∙◌, subst}
use mathlib.Core.Bool.{Bool, true, false, cond, not, ◌&&◌, ◌||◌, false≢true, true≢false, and-false, or-false}
use mathlib.Core.List.{List, [], ◌∷◌, ◌++◌, append-nil}
use mathlib.Core.Option.{Option, none, some}
use lib.Dec.{eqb}
use lib.IntN.{ℤ}
use lib.ListN.{length}
use borrow.Author.Tests.{eqb-true, eqb-false, not-true, not-false}
use borrow.Table.Steps.{cases}
use Rattle.rules.specs.Words.{eq_z, is_some, or_else, if_some, some_with, same_option, all, any, keep, first, after_last, is_in, put, first_of, Check}
use Rattle.rules.specs.Replies.{accepted, log_ends_elsewhere}
use Rattle.rules.specs.Names.{main_name}
use Rattle.rules.specs.Offices.{is_office}
use Rattle.rules.specs.Register.{Snapshot, Reference, NamedRef, LogEntry, FileEntry, Metadata, Update, Terms, State, Outcome}
use Rattle.rules.specs.Register.Outcome.{Refused, Accepted}
use Rattle.rules.specs.Register.Update.{AddSnapshot, SetBranchSnapshot, SetRef}
use Rattle.rules.specs.WellFormed.{has_snapshot, holds_snapshot, points_in, snapshot_below, refs_held, file_name_formed, metadata_formed}
use Rattle.rules.specs.Moment.{current_at}
use Rattle.rules.specs.ChangeLog.{logs_addition, main_target, logs_main, logs_removal}
use Rattle.rules.specs.SnapshotUpdates.{add_snapshot_checks, add_snapshot}
use Rattle.rules.specs.RefUpdates.{has_name, ref_named, same_reference, is_held_ref, set_ref_checks, time_of, own_after, set_ref, committed, set_branch_snapshot}
use Rattle.rules.specs.Updates.{update_number, effect}
use Rattle.rules.specs.Close.{intermediates, is_rebuilt, is_missing, is_intermediate, rebuilt, ends_at, ends_elsewhere, close_checks}
use Rattle.rules.specs.Run.{Ran, run_from, started, close, closing_log, close_ran, start_formed, start_checks, run}
use Rattle.rules.specs.Run.Ran.{Stopped, Reached}
use Rattle.rules.proofs.Checks.{by_test, by_option, only_then, both, and_left, by_either, parts, passed, passed_before}
use Rattle.rules.proofs.Orders.{Ordered, Tells, numbers_ordered, numbers_told}
use Rattle.rules.proofs.Tables.{by_key, all_head, all_tail, all_first, all_kept, first_any}
use Rattle.rules.proofs.Sound.Metadata.{Sound, formed_sound}
use Rattle.rules.proofs.Sound.Snapshots.{add_new}
use Rattle.rules.proofs.Sound.Accepted.{Ends, run_accepted}
use Rattle.rules.proofs.Sound.Run.{not_reached, same_state, run_sound}
use Rattle.rules.proofs.Replay.Lists.{keep_append, any_append, collect_append}
use Rattle.rules.proofs.Replay.Keys.{in_all}
use Rattle.rules.proofs.Replay.Refs.{commit_checks}
use Rattle.rules.proofs.Answer.Places.{may_be_of_update, OfUpdates, updates_numbered}
use Rattle.rules.proofs.History.Lists.{last_append}
use Rattle.rules.proofs.Offices.Refs.{accepted_start}
use Rattle.retention.proofs.Stay.{fails}
use Rattle.retention.proofs.History.{EndAnd, MomentWith, end_and_moment, cut_end, Removing, Quiet, CutBy, accepted_cut, removals_quiet}

-- ---- a number that does not come

-- checks of which none with the number fails do not answer with it
pub first_other : (number : ℕ) → eqb accepted number ≡ false → (cs : List Check) → all (λ (c : Check). not (eqb c.1 number) || not c.0) cs ≡ true → eqb (first_of cs) number ≡ false
first_other number n [] h = n
first_other number n (c ∷ cs) h =
    let other : Check → Bool = λ x. not (eqb x.1 number) || not x.0 in
    cases c.0
    (λ t. rw t (by_either (not (eqb c.1 number)) (not c.0) (not-true (eqb c.1 number)) (λ f. absurd (true≢false (sym t ∙ not-true c.0 f))) (all_head other c cs h)))
    (λ f. rw f (first_other number n cs (all_tail other c cs h)))

-- a refusal has another number
abbrev pub Without : ℕ → Outcome → Type 0
Without number (Refused n place) = eqb n number ≡ false
Without number (Accepted m log expired) = Unit {0}

-- ---- the last update of a run

-- a run that passes its last update comes to a state in which that one is accepted, and then to what it makes of it
record Until (terms : Terms) (us : List Update) (u : Update) (place : ℕ) (st st' : State) : Type 0 where
  before : State
  reached : run_from terms us place st ≡ Reached before
  passes : update_number terms u before ≡ 0
  after : effect terms u before ≡ st'

last_update : (terms : Terms) (us : List Update) (u : Update) (place : ℕ) (st st' : State) → run_from terms (us ++ (u ∷ [])) place st ≡ Reached st' → Until terms us u place st st'
unfolding run_from
last_update terms [] u place st st' e =
    let k = only_then (eqb (update_number terms u st) accepted) (not_reached (update_number terms u st) place st') e in
    record { before = st; reached = refl; passes = eqb-true (update_number terms u st) accepted k.0; after = same_state (effect terms u st) st' k.1 }
last_update terms (x ∷ us) u place st st' e =
    let k = only_then (eqb (update_number terms x st) accepted) (not_reached (update_number terms x st) place st') e in
    longer k.0 (last_update terms us u (suc place) (effect terms x st) st' k.1)
  where
    longer : eqb (update_number terms x st) accepted ≡ true → Until terms us u (suc place) (effect terms x st) st' → Until terms (x ∷ us) u place st st'
    longer t k = record { before = k.before; reached = rw t k.reached; passes = k.passes; after = k.after }

-- ---- a commit on `main`

-- what is put into a table is found there
first_put_itself : {A K : Type 0} {lt same : K → K → Bool} → Ordered lt → Tells same → (key : A → K) (a : A) (l : List A) → first (λ (x : A). same (key x) (key a)) (put (by_key lt key) a l) ≡ some a
first_put_itself o t key a [] = rw (t.itself (key a))
first_put_itself {A} {K} {lt} {same} o t key a (x ∷ l) =
    let P : List A → Type 0 = λ r. first (λ (y : A). same (key y) (key a)) r ≡ some a in
    by_test P (lt (key a) (key x))
    (λ e. rw (t.itself (key a)))
    (λ e. by_test P (lt (key x) (key a))
    (λ f. rw (other f) (first_put_itself o t key a l))
    (λ f. rw (t.itself (key a))))
  where
    other : lt (key x) (key a) ≡ true → same (key x) (key a) ≡ false
    other f = fails (same (key x) (key a)) (λ s. rw (t.equal (key x) (key a) s) at f) (o.irreflexive (key a))

-- the ref of a commit names its snapshot
committed_names : (name : List ℕ) (id : ℤ) (l : List NamedRef) → (committed name id l).snapshot ≡ id
committed_names name id l = by_option (λ (r : Reference). r.snapshot ≡ id) (ref_named name l) (λ q. refl) (λ n q. refl)

-- a ref that is held names a held snapshot
held_names_held : (name : List ℕ) (r : Reference) (m : Metadata) → refs_held m ≡ true → is_held_ref name r m.refs ≡ true → holds_snapshot m.snapshots r.snapshot ≡ true
unfolding refs_held
held_names_held name r m h e = go (ref_named name m.refs) (all_first (points_in m.snapshots) (has_name name) m.refs h) e
  where
    go : (o : Option NamedRef) → if_some (points_in m.snapshots) o ≡ true → some_with (λ (n : NamedRef). same_reference n.reference r) o ≡ true → holds_snapshot m.snapshots r.snapshot ≡ true
    go none h e = absurd (false≢true e)
    go (some n) h e =
        let a : Reference = n.reference in
        let same : eq_z a.snapshot r.snapshot ≡ true =
        (parts (eq_z a.snapshot r.snapshot)
        (eqb a.kind r.kind ∷ same_option eq_z a.min_snapshots r.min_snapshots ∷ same_option eq_z a.max_snapshot_age r.max_snapshot_age ∷ same_option eq_z a.max_ref_age r.max_ref_age ∷ []) e).0 in
        rw (numbers_told.equal a.snapshot r.snapshot same) at h

-- the entry of a snapshot that is committed to `main`
abbrev pub entry_of : Snapshot → LogEntry
entry_of s = record { snapshot = s.id; time = s.time }

-- what a commit on `main` makes of a state: its snapshot is current, found in the table and logged as a target of `main`, and its entry is the last
record Commits (s : Snapshot) (st st' : State) : Type 0 where
  current : st'.metadata.fields.current ≡ some s.id
  found : first (has_snapshot s.id) st'.metadata.snapshots ≡ some s
  appended : st'.metadata.snapshot_log ≡ st.metadata.snapshot_log ++ (entry_of s ∷ [])
  mains : logs_main st'.log ≡ logs_main st.log ++ (s.id ∷ [])

-- its entry's snapshot is not missing
commit_held : {s : Snapshot} {st st' : State} → Commits s st st' → is_missing st'.metadata (entry_of s) ≡ false
commit_held {s} {st} {st'} c = ap not (sym (first_any (has_snapshot s.id) st'.metadata.snapshots) ∙ ap is_some c.found)

module _ (terms : Terms) (s : Snapshot) (st : State) (e : update_number terms (SetBranchSnapshot main_name s) st ≡ 0) (held : refs_held st.metadata ≡ true) where
  abbrev ref : Reference
  ref = committed main_name s.id st.metadata.refs

  -- 5: no ref that is held names the snapshot, so "equal ref: nothing at all" is not the case
  takes_effect : is_held_ref main_name ref st.metadata.refs ≡ false
  takes_effect =
      let new : holds_snapshot st.metadata.snapshots s.id ≡ false =
      add_new terms.tolerance s st (passed_before (add_snapshot_checks terms.tolerance s st) (set_ref_checks main_name ref (add_snapshot s st)) (commit_checks terms main_name s st e)) in
      fails (is_held_ref main_name ref st.metadata.refs) (held_names_held main_name ref st.metadata held)
      (ap (holds_snapshot st.metadata.snapshots) (committed_names main_name s.id st.metadata.refs) ∙ new)

  table_has : first (has_snapshot s.id) (put snapshot_below s st.metadata.snapshots) ≡ some s
  table_has = first_put_itself numbers_ordered numbers_told (λ (x : Snapshot). x.id) s st.metadata.snapshots

  -- the addition's time is the run's own last update
  own_time : own_after s.id (add_snapshot s st) ≡ some s.time
  unfolding add_snapshot
  own_time = by_test (λ (o : Option ℤ). o ≡ some s.time) (logs_addition (add_snapshot s st).log s.id) (λ t. rw (time_of, table_has)) (λ f. refl)

  mains_logged : logs_main ((st.log ++ (AddSnapshot s ∷ [])) ++ (SetRef main_name ref ∷ [])) ≡ logs_main st.log ++ (s.id ∷ [])
  unfolding logs_main
  mains_logged =
      collect_append main_target (st.log ++ (AddSnapshot s ∷ [])) (SetRef main_name ref ∷ [])
      ∙ ap (λ (l : List ℤ). l ++ (ref.snapshot ∷ [])) (collect_append main_target st.log (AddSnapshot s ∷ []) ∙ append-nil (logs_main st.log))
      ∙ ap (λ (id : ℤ). logs_main st.log ++ (id ∷ [])) (committed_names main_name s.id st.metadata.refs)

  main_commits : Commits s st (effect terms (SetBranchSnapshot main_name s) st)
  unfolding effect set_branch_snapshot set_ref add_snapshot
  main_commits =
      let named : ref.snapshot ≡ s.id = committed_names main_name s.id st.metadata.refs in
      let entry : ℤ → LogEntry = λ id. record { snapshot = id; time = or_else (own_after id (add_snapshot s st)) terms.clock } in
      rw takes_effect
      (record {
        current = ap some named;
        found = table_has;
        appended =
            ap (λ (id : ℤ). st.metadata.snapshot_log ++ (entry id ∷ [])) named
            ∙ ap (λ (o : Option ℤ). st.metadata.snapshot_log ++ (record { snapshot = s.id; time = or_else o terms.clock } ∷ [])) own_time;
        mains = mains_logged;
      })

-- ---- the log that the close builds anew

module _ {A : Type 0} (e : A) where
  -- what stands after the last that passes a test, with one behind it that fails
  after_last_append : (p : A → Bool) → p e ≡ false → (l : List A) → after_last p (l ++ (e ∷ [])) ≡ after_last p l ++ (e ∷ [])
  after_last_append p n [] = rw n
  after_last_append p n (x ∷ l) =
      let same : any p (l ++ (e ∷ [])) ≡ any p l = any_append p l (e ∷ []) ∙ rw n (or-false (any p l)) in
      rw same
      (cases (any p l)
      (λ t. rw t (after_last_append p n l))
      (λ f. rw f (by_test (λ (r : List A). cond (p x) (l ++ (e ∷ [])) (x ∷ l ++ (e ∷ [])) ≡ r ++ (e ∷ [])) (p x) (λ t. rw t) (λ g. rw g))))

  keep_append_kept : (p : A → Bool) → p e ≡ true → (l : List A) → keep p (l ++ (e ∷ [])) ≡ keep p l ++ (e ∷ [])
  keep_append_kept p t l = keep_append p l (e ∷ []) ∙ rw t

module _ (log : List Update) (m : Metadata) (l : List LogEntry) (e : LogEntry) (ends : m.snapshot_log ≡ l ++ (e ∷ [])) (current : m.fields.current ≡ some e.snapshot) (held : is_missing m e ≡ false) where
  -- the current snapshot is not intermediate
  lasting : is_intermediate log m e ≡ false
  unfolding intermediates
  lasting =
      let q : ℤ → Bool = λ id. logs_addition log id && not (some_with (eq_z id) m.fields.current) in
      let id : ℤ = e.snapshot in
      fails (is_in (keep q (logs_main log)) id) (in_all q (keep q (logs_main log)) id (all_kept q (logs_main log)))
      (rw (current, numbers_told.itself id) (and-false (logs_addition log id)))

  newest_ends : (r : List LogEntry) → ends_at e.snapshot (r ++ (e ∷ [])) ≡ true
  newest_ends r = rw (last_append r (e ∷ [])) (numbers_told.itself e.snapshot)

  -- so a log that ends with its entry ends with it still
  rebuilt_ends : ends_at e.snapshot (rebuilt log m) ≡ true
  unfolding rebuilt
  rebuilt_ends =
      let stays : LogEntry → Bool = λ x. not (is_intermediate log m x) in
      let both : LogEntry → Bool = λ x. not (is_missing m x) && not (is_intermediate log m x) in
      by_test (λ (r : List LogEntry). ends_at e.snapshot r ≡ true) (logs_removal log)
      (λ t. rw (ends, after_last_append e (is_missing m) held l, keep_append_kept e stays (ap not lasting) (after_last (is_missing m) l)) (newest_ends (keep stays (after_last (is_missing m) l))))
      (λ f. rw (ends, keep_append_kept e both (rw (held, lasting)) l) (newest_ends (keep both l)))

  no_end_elsewhere : ends_elsewhere log m ≡ false
  unfolding ends_elsewhere
  no_end_elsewhere = ap (λ (o : Option ℤ). is_rebuilt log m && not (if_some (λ id. ends_at id (rebuilt log m)) o)) current ∙ rw rebuilt_ends (and-false (is_rebuilt log m))

-- ---- the run

-- no number of an update is 21
update_without : (number : ℕ) → may_be_of_update number ≡ true → eqb number log_ends_elsewhere ≡ false
update_without number h = fails (eqb number log_ends_elsewhere) (λ q. rw (eqb-true number log_ends_elsewhere q) at h) refl

close_without : (terms : Terms) (place : ℕ) (st : State) → ends_elsewhere (closing_log terms st) st.metadata ≡ false → Without log_ends_elsewhere (close terms place (closing_log terms st) st)
unfolding close close_checks
close_without terms place st n =
    let cs : List Check = close_checks terms (closing_log terms st) st.metadata in
    by_test (Without log_ends_elsewhere) (eqb (first_of cs) accepted) (λ e. tt) (λ e. first_other log_ends_elsewhere refl cs (rw n))

module _ (terms : Terms) (m : Metadata) (us : List Update) (s : Snapshot) where
  abbrev list : List Update
  list = us ++ (SetBranchSnapshot main_name s ∷ [])

  -- the commit is made of the state that the updates before it lead to
  last_commits : is_office terms.office ≡ true → Sound m → (st : State) (u : Until terms us (SetBranchSnapshot main_name s) 0 (started m) st) → Commits s u.before st
  last_commits o k st u =
      let d : Sound u.before.metadata = run_sound terms o us 0 (started m) u.before u.reached k in
      subst (Commits s u.before) u.after (main_commits terms s u.before u.passes d.refs_held)

  -- so before the close the log ends with its entry
  commit_no_end_elsewhere : is_office terms.office ≡ true → Sound m → (st : State) → run_from terms list 0 (started m) ≡ Reached st → ends_elsewhere (closing_log terms st) st.metadata ≡ false
  commit_no_end_elsewhere o k st e =
      let u : Until terms us (SetBranchSnapshot main_name s) 0 (started m) st = last_update terms us (SetBranchSnapshot main_name s) 0 (started m) st e in
      let c : Commits s u.before st = last_commits o k st u in
      no_end_elsewhere (closing_log terms st) st.metadata u.before.metadata.snapshot_log (entry_of s) c.appended c.current (commit_held c)

  run_without : Without log_ends_elsewhere (run terms m list)
  unfolding run start_checks
  run_without =
      let n : ℕ = first_of (start_checks terms m list) in
      by_test (Without log_ends_elsewhere) (eqb n accepted)
      (λ e. let p = passed (start_checks terms m list) refl (eqb-true n accepted e) in
      let f : metadata_formed m ≡ true = and_left (metadata_formed m) (if_some file_name_formed terms.file) (not-false (start_formed terms m) p.0) in
      closing (not-false (is_office terms.office) p.1.1.1.0) (formed_sound m f) (run_from terms list 0 (started m)) refl (updates_numbered terms list 0 (started m)))
      (λ e. first_other log_ends_elsewhere refl (start_checks terms m list) refl)
    where
      closing : is_office terms.office ≡ true → Sound m → (r : Ran) → run_from terms list 0 (started m) ≡ r → OfUpdates r → Without log_ends_elsewhere (close_ran terms list r)
      closing o k (Stopped number at) e h = update_without number h
      closing o k (Reached st) e h = close_without terms (length list) st (commit_no_end_elsewhere o k st e)

  -- a list that ends in a commit on `main` is not refused with 21
  pub main_commit_no_21 : (number place : ℕ) → run terms m list ≡ Refused number place → number ≡ log_ends_elsewhere → ⊥
  main_commit_no_21 number place e = eqb-false number log_ends_elsewhere (subst (Without log_ends_elsewhere) e run_without)

-- ---- removals, and a commit on `main` behind them

-- a last entry that fails the test stays the last
cut_and_newest : {p : LogEntry → Bool} {old new : List LogEntry} {e : LogEntry} → p e ≡ false → CutBy p (old ++ (e ∷ [])) new → EndAnd e old new
cut_and_newest {p} {old} {new} {e} n k = record { rest = cond k.cut (after_last p old) old; end = cut_end p k.cut old; is = k.is ∙ go k.cut }
  where
    go : (b : Bool) → cond b (after_last p (old ++ (e ∷ []))) (old ++ (e ∷ [])) ≡ cond b (after_last p old) old ++ (e ∷ [])
    go true = after_last_append e p n old
    go false = refl

module _ (terms : Terms) (m : Metadata) {us : List Update} (r : Removing us) (s : Snapshot) (m' : Metadata) (log : List Update) (expired : List FileEntry)
    (e : run terms m (us ++ (SetBranchSnapshot main_name s ∷ [])) ≡ Accepted m' log expired) where
  -- the answered log is an end of the old one, and the commit's entry
  pub commit_after_log : EndAnd (entry_of s) m.snapshot_log m'.snapshot_log
  commit_after_log =
      let u : Update = SetBranchSnapshot main_name s in
      let k : Ends terms m' log expired m (us ++ (u ∷ [])) = run_accepted terms m' log expired m (us ++ (u ∷ [])) e in
      let w : Until terms us u 0 (started m) k.end = last_update terms us u 0 (started m) k.end k.reached in
      let q : Quiet m.snapshot_log w.before = removals_quiet terms m r w.before w.reached in
      let c : Commits s w.before k.end = last_commits terms m us s k.office (accepted_start k) k.end w in
      let mains : all (λ id. some_with (eq_z id) k.end.metadata.fields.current) (logs_main k.end.log) ≡ true = rw (c.mains, q.no_main, c.current) (both (numbers_told.itself s.id) refl) in
      let same : k.end.metadata.snapshot_log ≡ m.snapshot_log ++ (entry_of s ∷ []) = c.appended ∙ ap (λ (l : List LogEntry). l ++ (entry_of s ∷ [])) q.same in
      cut_and_newest (commit_held c)
      (subst (λ (l : List LogEntry). CutBy (is_missing k.end.metadata) l m'.snapshot_log) same (accepted_cut terms m (us ++ (u ∷ [])) m' log expired k mains))

  -- so the answer for any time is what it was, none, or that entry
  pub commit_after_moment : (time : ℤ) → MomentWith (entry_of s) (current_at time m.snapshot_log) (current_at time m'.snapshot_log)
  commit_after_moment = end_and_moment commit_after_log
