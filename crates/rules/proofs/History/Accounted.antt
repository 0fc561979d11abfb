-- While a run goes on, its log accounts for its snapshots and its history: what was held once is held or was removed by the log, the history is the start's followed by
-- entries of snapshots to which a logged `main` ref went, and of the start's snapshots the log adds only those that it removed.
use Prim.Native.Nat.{ℕ}
use mathlib.Core.Path.{◌≡◌, refl, sym, ap, ◌∙◌}
use mathlib.Core.Bool.{Bool, true, false, ◌||◌, false≢true, true≢false}
use mathlib.Core.List.{List, [], ◌∷◌, ◌++◌, append-nil, append_assoc}
use mathlib.Core.Option.{Option, none, some}
use lib.Dec.{eqb}
use lib.IntN.{ℤ}
use borrow.Author.Tests.{not-false}
use Rattle.rules.specs.Words.{eq_z, is_some, or_else, some_with, all, any, is_empty, is_in, put, same_bytes, first_of}
use Rattle.rules.specs.Names.{is_main, trimmed}
use Rattle.rules.specs.Register.{Snapshot, Reference, LogEntry, Metadata, Update, Terms, State}
use Rattle.rules.specs.Register.Update.{AssignUuid, UpgradeFormatVersion, SetLocation, AddSnapshot, SetBranchSnapshot, RemoveSnapshots, SetRef, RemoveRef, AddSchema, SetCurrentSchema, RemoveSchemas, AddSortOrder, SetDefaultSortOrder, SetStatistics, RemoveStatistics, AddPartitionSpec, SetDefaultPartitionSpec, RemovePartitionSpecs, NotFormed}
use Rattle.rules.specs.WellFormed.{snapshot_below, holds_snapshot}
use Rattle.rules.specs.ChangeLog.{is_addition, logs_addition, main_target, logs_main, removal, is_snapshot_removal, removed_ids, logs_removal}
use Rattle.rules.specs.Moment.{logs_removed}
use Rattle.rules.specs.SingleUpdates.{assign_uuid, upgrade_format_version, set_location}
use Rattle.rules.specs.SnapshotUpdates.{add_snapshot_checks, add_snapshot, held_snapshots, other_snapshots, remove_snapshots}
use Rattle.rules.specs.RefUpdates.{ref_named, is_held_ref, set_ref_checks, set_ref, committed, set_branch_snapshot, remove_ref}
use Rattle.rules.specs.Offers.{offered_schema, offered_spec}
use Rattle.rules.specs.SchemaUpdates.{reused_schema, add_schema, chosen, set_current_schema, remove_schemas}
use Rattle.rules.specs.OrderUpdates.{reused_order, add_sort_order, set_default_sort_order}
use Rattle.rules.specs.Register.StatisticsTable.{Statistics, PartitionStatistics}
use Rattle.rules.specs.StatisticsUpdates.{has_file_of, set_statistics, remove_statistics}
use Rattle.rules.specs.SpecUpdates.{reusing, reused_spec, spec_added, add_partition_spec, set_default_partition_spec, held_specs, remove_partition_specs}
use Rattle.rules.specs.Updates.{checks, update_number, effect}
use Rattle.rules.specs.Run.{run_from, started}
use Rattle.rules.specs.Run.Ran.{Reached}
use Rattle.rules.proofs.Checks.{by_test, by_option, both, or_left, or_right, by_either, neither, passed_unless, passed_before, passed_after}
use Rattle.rules.proofs.Orders.{numbers_ordered, numbers_told}
use Rattle.rules.proofs.Tables.{all_then, all_append, any_put}
use Rattle.rules.proofs.Sound.Snapshots.{add_snapshot_numbered, add_new}
use Rattle.rules.proofs.Sound.Updates.{accepted_checks}
use Rattle.rules.proofs.Sound.Run.{run_keeps}
use Rattle.rules.proofs.Replay.Lists.{any_append, collect_append}
use Rattle.rules.proofs.Replay.Keys.{none_held}
use Rattle.rules.proofs.Replay.Log.{additions_append}
use Rattle.rules.proofs.Replay.Refs.{commit_checks}
use Rattle.rules.proofs.History.Lists.{stays_or_goes}

-- ---- what a log says of snapshots, when more joins it

-- a number of a list stands in it with another list behind it, or before it
in_before : (l r : List ℤ) (x : ℤ) → is_in l x ≡ true → is_in (l ++ r) x ≡ true
in_before l r x h = rw (any_append (eq_z x) l r) (or_left (is_in r x) h)

in_behind : (l r : List ℤ) (x : ℤ) → is_in r x ≡ true → is_in (l ++ r) x ≡ true
in_behind l r x h = rw (any_append (eq_z x) l r) (or_right (is_in l x) h)

-- what two logs joined remove, and to what they set `main`, is what each does
removed_append : (a b : List Update) → logs_removed (a ++ b) ≡ logs_removed a ++ logs_removed b
removed_append [] b = refl
removed_append (u ∷ a) b = rw (removed_append a b) (sym (append_assoc (removed_ids u) (logs_removed a) (logs_removed b)))

mains_append : (a b : List Update) → logs_main (a ++ b) ≡ logs_main a ++ logs_main b
unfolding logs_main
mains_append a b = collect_append main_target a b

-- setting `main` logs its target
main_logged : (log : List Update) (name : List ℕ) (r : Reference) → is_main name ≡ true → is_in (logs_main (log ++ (SetRef name r ∷ []))) r.snapshot ≡ true
unfolding logs_main
main_logged log name r e =
    let u : Update = SetRef name r in
    let only : Option ℤ → List ℤ = λ o. elim o [ none ↦ [] | some id ↦ id ∷ [] ] in
    let target : main_target u ≡ some r.snapshot = rw e in
    rw (mains_append log (u ∷ []))
    (in_behind (logs_main log) (only (main_target u)) r.snapshot (rw (ap only target) (or_left false (numbers_told.itself r.snapshot))))

-- an update that is no removal of snapshots removes none
removes_none : (u : Update) → is_snapshot_removal u ≡ false → removed_ids u ≡ []
removes_none u = go (removal u)
  where
    go : (o : Option (List ℤ)) → is_some o ≡ false → or_else o [] ≡ []
    go none e = refl
    go (some ids) e = absurd (true≢false e)

-- a log with no removal removes none
pub no_removal : (log : List Update) → logs_removal log ≡ false → logs_removed log ≡ []
unfolding logs_removal
no_removal [] e = refl
no_removal (u ∷ log) e = let k = neither (is_snapshot_removal u) (any is_snapshot_removal log) e in rw (removes_none u k.0, no_removal log k.1)

-- ---- an account

-- it is held, or the log removed it
abbrev pub is_known : List Snapshot → List Update → ℤ → Bool
is_known l log id = holds_snapshot l id || is_in (logs_removed log) id

-- a logged `main` ref went to it
abbrev pub is_main_of : List Update → LogEntry → Bool
is_main_of log e = is_in (logs_main log) e.snapshot

module _ (m : Metadata) where
  -- the log accounts for the snapshots and the history that a run from m has come to
  pub record Accounted (snapshots : List Snapshot) (history : List LogEntry) (log : List Update) : Type 0 where
    pub joined : List LogEntry
    pub appended : history ≡ m.snapshot_log ++ joined
    pub mains : all (is_main_of log) joined ≡ true
    pub joined_known : all (λ (e : LogEntry). is_known snapshots log e.snapshot) joined ≡ true
    pub start_known : (id : ℤ) → holds_snapshot m.snapshots id ≡ true → is_known snapshots log id ≡ true
    pub given_again : (id : ℤ) → holds_snapshot m.snapshots id ≡ true → logs_addition log id ≡ true → is_in (logs_removed log) id ≡ true

  abbrev pub AccountedState : State → Type 0
  AccountedState st = Accounted st.metadata.snapshots st.metadata.snapshot_log st.log

  -- at the start
  nothing_yet : AccountedState (started m)
  unfolding logs_addition
  nothing_yet = record {
    joined = [];
    appended = sym (append-nil m.snapshot_log);
    mains = refl;
    joined_known = refl;
    start_known = λ id h. or_left (is_in (logs_removed []) id) h;
    given_again = λ id h a. absurd (false≢true a);
  }

  -- an update is logged: what was held is known after it, and what it adds was not held
  module _ (u : Update) (l l' : List Snapshot) (log : List Update)
      (stays : (id : ℤ) → holds_snapshot l id ≡ true → is_known l' (log ++ (u ∷ [])) id ≡ true)
      (adds : (id : ℤ) → is_addition id u ≡ true → holds_snapshot l id ≡ false) where
    -- what was removed stays so
    removed_stays : (id : ℤ) → is_in (logs_removed log) id ≡ true → is_in (logs_removed (log ++ (u ∷ []))) id ≡ true
    removed_stays id k = rw (removed_append log (u ∷ [])) (in_before (logs_removed log) (logs_removed (u ∷ [])) id k)

    -- what is known stays known
    known_stays : (id : ℤ) → is_known l log id ≡ true → is_known l' (log ++ (u ∷ [])) id ≡ true
    known_stays id = by_either (holds_snapshot l id) (is_in (logs_removed log) id) (stays id) (λ k. or_right (holds_snapshot l' id) (removed_stays id k))

    -- so the log accounts for what is then
    logs : {h : List LogEntry} → Accounted l h log → Accounted l' h (log ++ (u ∷ []))
    unfolding logs_addition
    logs a = record {
      joined = a.joined;
      appended = a.appended;
      mains =
          all_then (is_main_of log) (is_main_of (log ++ (u ∷ [])))
          (λ e k. rw (mains_append log (u ∷ [])) (in_before (logs_main log) (logs_main (u ∷ [])) e.snapshot k)) a.joined a.mains;
      joined_known = all_then (λ (e : LogEntry). is_known l log e.snapshot) (λ (e : LogEntry). is_known l' (log ++ (u ∷ [])) e.snapshot) (λ e. known_stays e.snapshot) a.joined a.joined_known;
      start_known = λ id k. known_stays id (a.start_known id k);
      given_again = λ id k g. removed_stays id
          (by_either (logs_addition log id) (is_addition id u || false)
          (a.given_again id k)
          (by_either (is_addition id u) false (λ q. rw (adds id q) at (a.start_known id k)) (λ q. absurd (false≢true q)))
          (rw (additions_append log (u ∷ []) id) at g));
    }

  -- one that adds no snapshot is logged, and the snapshots stay
  logs_quiet : (u : Update) → ((id : ℤ) → is_addition id u ≡ false) → {l : List Snapshot} {h : List LogEntry} {log : List Update} → Accounted l h log → Accounted l h (log ++ (u ∷ []))
  logs_quiet u q {l} {h} {log} = logs u l l log (λ id. or_left (is_in (logs_removed (log ++ (u ∷ []))) id)) (λ id a. absurd (false≢true (sym (q id) ∙ a)))

  -- an entry joins, of a snapshot that is known and to which a logged `main` ref went
  joins : (e : LogEntry) {l : List Snapshot} {h : List LogEntry} {log : List Update} → is_main_of log e ≡ true → is_known l log e.snapshot ≡ true → Accounted l h log → Accounted l (h ++ (e ∷ [])) log
  joins e {l} {h} {log} p k a = record {
    joined = a.joined ++ (e ∷ []);
    appended = ap (λ (r : List LogEntry). r ++ (e ∷ [])) a.appended ∙ append_assoc m.snapshot_log a.joined (e ∷ []);
    mains = all_append (is_main_of log) a.joined (e ∷ []) a.mains (both p refl);
    joined_known = all_append (λ (e : LogEntry). is_known l log e.snapshot) a.joined (e ∷ []) a.joined_known (both k refl);
    start_known = a.start_known;
    given_again = a.given_again;
  }

  -- ---- the updates that add, remove or set

  -- 5: what is added was not held
  add_snapshot_accounted : (tolerance : ℤ) (s : Snapshot) (st : State) → first_of (add_snapshot_checks tolerance s st) ≡ 0 → AccountedState st → AccountedState (add_snapshot s st)
  unfolding add_snapshot
  add_snapshot_accounted tolerance s st e =
      let l : List Snapshot = st.metadata.snapshots in
      logs (AddSnapshot s) l (put snapshot_below s l) st.log
      (λ id k. or_left (is_in (logs_removed (st.log ++ (AddSnapshot s ∷ []))) id) (any_put numbers_ordered (λ (x : Snapshot). x.id) (λ (k : ℤ). eq_z k id) s l k))
      (λ id q. rw (numbers_told.equal s.id id q) at (add_new tolerance s st e))

  -- what goes is logged
  remove_snapshots_accounted : (ids : List ℤ) (st : State) → AccountedState st → AccountedState (remove_snapshots ids st)
  unfolding remove_snapshots
  remove_snapshots_accounted ids st a =
      let l : List Snapshot = st.metadata.snapshots in
      let id_of : Snapshot → ℤ = λ s. s.id in
      let u : Update = RemoveSnapshots (held_snapshots ids l) in
      by_test AccountedState (is_empty (held_snapshots ids l))
      (λ e. rw (none_held id_of ids l e) a)
      (λ e. logs u l (other_snapshots ids l) st.log
      (λ id k. by_either (holds_snapshot (other_snapshots ids l) id) (is_in (held_snapshots ids l) id)
      (or_left (is_in (logs_removed (st.log ++ (u ∷ []))) id))
      (λ g. or_right (holds_snapshot (other_snapshots ids l) id) (rw (removed_append st.log (u ∷ [])) (in_behind (logs_removed st.log) (held_snapshots ids l ++ []) id (in_before (held_snapshots ids l) [] id g))))
      (stays_or_goes id_of ids l id k))
      (λ id q. absurd (false≢true q)) a)

  -- 12: what `main` is set to is held
  set_ref_accounted : (terms : Terms) (name : List ℕ) (r : Reference) (st : State) → first_of (set_ref_checks name r st) ≡ 0 → AccountedState st → AccountedState (set_ref terms name r st)
  unfolding set_ref set_ref_checks
  set_ref_accounted terms name r st e a =
      let u : Update = SetRef name r in
      let b : Accounted st.metadata.snapshots st.metadata.snapshot_log (st.log ++ (u ∷ [])) = logs_quiet u (λ id. refl) a in
      by_test AccountedState (is_held_ref name r st.metadata.refs)
      (λ n. a)
      (λ n. let held : holds_snapshot st.metadata.snapshots r.snapshot ≡ true = not-false (holds_snapshot st.metadata.snapshots r.snapshot) (passed_unless (is_held_ref name r st.metadata.refs) _ refl n e).0 in
      by_test (λ (x : State). Accounted x.metadata.snapshots x.metadata.snapshot_log (x.log ++ (u ∷ []))) (is_main name)
      (λ q. joins _ (main_logged st.log name r q) (or_left (is_in (logs_removed (st.log ++ (u ∷ []))) r.snapshot) held) b)
      (λ q. b))

  -- ---- any update

  -- 5 and 12 aside, nothing is asked: the other updates change neither snapshots nor history, and add no snapshot
  effect_accounted : (terms : Terms) (u : Update) (st : State) → update_number terms u st ≡ 0 → AccountedState st → AccountedState (effect terms u st)
  unfolding checks effect assign_uuid upgrade_format_version set_location set_branch_snapshot remove_ref add_schema set_current_schema remove_schemas add_sort_order set_default_sort_order set_statistics remove_statistics spec_added add_partition_spec set_default_partition_spec remove_partition_specs
  effect_accounted terms (AssignUuid uuid) st e a = by_test AccountedState (same_bytes uuid st.metadata.fields.uuid) (λ q. a) (λ q. logs_quiet (AssignUuid uuid) (λ id. refl) a)
  effect_accounted terms (UpgradeFormatVersion v) st e a = by_test AccountedState (eqb v st.metadata.fields.version) (λ q. a) (λ q. logs_quiet (UpgradeFormatVersion v) (λ id. refl) a)
  effect_accounted terms (SetLocation location) st e a = by_test AccountedState (same_bytes (trimmed location) st.metadata.fields.location) (λ q. a) (λ q. logs_quiet (SetLocation (trimmed location)) (λ id. refl) a)
  effect_accounted terms (AddSnapshot s) st e a = add_snapshot_accounted terms.tolerance s st (accepted_checks terms (AddSnapshot s) st e) a
  effect_accounted terms (SetBranchSnapshot name s) st e a =
      let r : Reference = committed name s.id st.metadata.refs in
      let k = commit_checks terms name s st e in
      set_ref_accounted terms name r (add_snapshot s st)
      (passed_after (add_snapshot_checks terms.tolerance s st) (set_ref_checks name r (add_snapshot s st)) (add_snapshot_numbered terms.tolerance s st) k)
      (add_snapshot_accounted terms.tolerance s st (passed_before (add_snapshot_checks terms.tolerance s st) (set_ref_checks name r (add_snapshot s st)) k) a)
  effect_accounted terms (RemoveSnapshots ids) st e a = remove_snapshots_accounted ids st a
  effect_accounted terms (SetRef name r) st e a = set_ref_accounted terms name r st (accepted_checks terms (SetRef name r) st e) a
  effect_accounted terms (RemoveRef name) st e a =
      let b : Accounted st.metadata.snapshots st.metadata.snapshot_log (st.log ++ (RemoveRef name ∷ [])) = logs_quiet (RemoveRef name) (λ id. refl) a in
      by_test AccountedState (is_main name) (λ q. b) (λ q. by_test AccountedState (is_some (ref_named name st.metadata.refs)) (λ p. b) (λ p. a))
  effect_accounted terms (AddSchema o) st e a =
      by_option AccountedState (reused_schema (offered_schema terms.offers o) st.metadata.schemas)
      (λ q. logs_quiet (AddSchema _) (λ id. refl) a)
      (λ id q. by_test AccountedState (some_with (eq_z id) st.added.schema) (λ p. a) (λ p. logs_quiet (AddSchema o) (λ id. refl) a))
  effect_accounted terms (SetCurrentSchema id) st e a = by_test AccountedState (eq_z (chosen id st.added.schema) st.metadata.fields.current_schema) (λ q. a) (λ q. logs_quiet (SetCurrentSchema _) (λ id. refl) a)
  effect_accounted terms (RemoveSchemas ids) st e a = by_test AccountedState (is_empty ids) (λ q. a) (λ q. logs_quiet (RemoveSchemas _) (λ id. refl) a)
  effect_accounted terms (AddSortOrder o) st e a =
      by_option AccountedState (reused_order o st.metadata.orders)
      (λ q. logs_quiet (AddSortOrder _) (λ id. refl) a)
      (λ id q. by_test AccountedState (some_with (eq_z id) st.added.order) (λ p. a) (λ p. logs_quiet (AddSortOrder _) (λ id. refl) a))
  effect_accounted terms (SetDefaultSortOrder id) st e a = by_test AccountedState (eq_z (chosen id st.added.order) st.metadata.fields.default_order) (λ q. a) (λ q. logs_quiet (SetDefaultSortOrder _) (λ id. refl) a)
  effect_accounted terms (SetStatistics Statistics f) st e a = logs_quiet (SetStatistics Statistics f) (λ id. refl) a
  effect_accounted terms (SetStatistics PartitionStatistics f) st e a = logs_quiet (SetStatistics PartitionStatistics f) (λ id. refl) a
  effect_accounted terms (RemoveStatistics Statistics id) st e a = by_test AccountedState (has_file_of st.metadata.statistics id) (λ q. logs_quiet (RemoveStatistics Statistics id) (λ id. refl) a) (λ q. a)
  effect_accounted terms (RemoveStatistics PartitionStatistics id) st e a = by_test AccountedState (has_file_of st.metadata.partition_statistics id) (λ q. logs_quiet (RemoveStatistics PartitionStatistics id) (λ id. refl) a) (λ q. a)
  effect_accounted terms (AddPartitionSpec o) st e a =
      by_option AccountedState (reused_spec (reusing st.metadata.specs (offered_spec terms.offers o)) st.metadata.specs)
      (λ q. logs_quiet (AddPartitionSpec _) (λ id. refl) a)
      (λ id q. by_test AccountedState (some_with (eq_z id) st.added.spec) (λ p. a) (λ p. logs_quiet (AddPartitionSpec _) (λ id. refl) a))
  effect_accounted terms (SetDefaultPartitionSpec id) st e a = by_test AccountedState (eq_z (chosen id st.added.spec) st.metadata.fields.default_spec) (λ q. a) (λ q. logs_quiet (SetDefaultPartitionSpec _) (λ id. refl) a)
  effect_accounted terms (RemovePartitionSpecs ids) st e a = by_test AccountedState (is_empty (held_specs ids st.metadata.specs)) (λ q. a) (λ q. logs_quiet (RemovePartitionSpecs _) (λ id. refl) a)
  effect_accounted terms (NotFormed counts) st e a = a

  -- ---- a run

  pub run_accounted : (terms : Terms) (us : List Update) (st : State) → run_from terms us 0 (started m) ≡ Reached st → AccountedState st
  run_accounted terms us st e = run_keeps terms AccountedState (effect_accounted terms) us 0 (started m) st e nothing_yet
