-- What a run leaves of a whole history, and of the answer which snapshot was current at a time, where no snapshot is both removed and added by its log.
use Prim.Native.Nat.{ℕ, ◌-◌}
use mathlib.Core.Path.{◌≡◌, refl, sym, ap, ◌∙◌, subst}
use mathlib.Core.Bool.{Bool, true, false, not, ◌&&◌}
use mathlib.Core.List.{List, [], ◌++◌, Memᴰ}
use mathlib.Core.Option.{Option, none, some}
use lib.IntN.{ℤ}
use lib.ListN.{length, take, drop, take-append-drop}
use lib.Seq.{drop-append_seam}
use Rattle.rules.specs.Words.{eq_z, some_with, all, keep, last_of, after_last}
use Rattle.rules.specs.Register.{LogEntry, FileEntry, Metadata, Update, Terms, State}
use Rattle.rules.specs.Register.Outcome.{Accepted}
use Rattle.rules.specs.ChangeLog.{logs_addition, logs_main, logs_removal}
use Rattle.rules.specs.Moment.{is_by, current_at, is_whole, logs_removed, removes_and_adds}
use Rattle.rules.specs.Close.{intermediates, is_rebuilt, is_missing, is_intermediate, rebuilt, history, closed}
use Rattle.rules.specs.Others.{is_second}
use Rattle.rules.specs.Run.{Ran, run_from, started, closing_log, run}
use Rattle.rules.specs.Run.Ran.{Stopped, Reached}
use Rattle.rules.proofs.Checks.{by_test, by_option, both, and_left}
use Rattle.rules.proofs.Tables.{all_then, all_kept}
use Rattle.rules.proofs.Sound.Accepted.{Ends, run_accepted}
use Rattle.rules.proofs.Replay.Lists.{keep_append, keep_all}
use Rattle.rules.proofs.Replay.Keys.{in_all}
use Rattle.rules.proofs.History.Lists.{in_any, Dropped, after_last_drop, keep_second, last_append, all_in, in_drop, in_keep, in_last}
use Rattle.rules.proofs.History.Accounted.{is_main_of, AccountedState, run_accounted}
use Rattle.rules.proofs.History.Whole.{is_held_in, history_left, known_held}

-- ---- the entries of a run

abbrev history_of : Ran → List LogEntry
history_of (Stopped number place) = []
history_of (Reached st) = st.metadata.snapshot_log

-- the entries that the updates of a run append to the history: what it has before the close, beyond the start's
unfoldable pub joined_by : Terms → Metadata → List Update → List LogEntry
joined_by terms m us = drop (length m.snapshot_log) (history_of (run_from terms us 0 (started m)))

-- a new history is the old one without its first entries, followed by those that joined, without the first of them and some others, in their order;
-- each that joined is of a snapshot to which a logged `main` ref went
pub record HistoryKept (joined : List LogEntry) (log : List Update) (old new : List LogEntry) : Type 0 where
  pub dropped : ℕ
  pub skipped : ℕ
  pub stays : LogEntry → Bool
  pub is : new ≡ drop dropped old ++ keep stays (drop skipped joined)
  pub mains : all (is_main_of log) joined ≡ true

-- what a run may make of an answer: as it was, or an entry of this run, or none
pub data MomentKept (joined : List LogEntry) (log : List Update) (before after : Option LogEntry) : Type 0 where
  AsBefore : after ≡ before → MomentKept joined log before after
  OfThisRun : (e : LogEntry) → after ≡ some e → Memᴰ e joined → is_main_of log e ≡ true → MomentKept joined log before after
  Gone : after ≡ none → MomentKept joined log before after

-- ---- the answer

module _ {joined : List LogEntry} {log : List Update} {old new : List LogEntry} (k : HistoryKept joined log old new) (time : ℤ) where
  -- without its first entries a history answers as before, or with none
  old_kept : MomentKept joined log (current_at time old) (last_of (keep (is_by time) (drop k.dropped old)))
  unfolding current_at
  old_kept = go (last_of (keep (is_by time) (drop k.dropped old))) whole
    where
      first : Option LogEntry
      first = last_of (keep (is_by time) (take k.dropped old))

      whole : last_of (keep (is_by time) old) ≡ elim (last_of (keep (is_by time) (drop k.dropped old))) [ none ↦ first | some e ↦ some e ]
      whole =
          ap (λ (l : List LogEntry). last_of (keep (is_by time) l)) (sym (take-append-drop k.dropped old))
          ∙ ap last_of (keep_append (is_by time) (take k.dropped old) (drop k.dropped old))
          ∙ last_append (keep (is_by time) (take k.dropped old)) (keep (is_by time) (drop k.dropped old))

      go : (o : Option LogEntry) → last_of (keep (is_by time) old) ≡ elim o [ none ↦ first | some e ↦ some e ] → MomentKept joined log (last_of (keep (is_by time) old)) o
      go none q = Gone refl
      go (some e) q = AsBefore (sym q)

  -- the last entry by a time is one that joined, or what the old ones answer
  answer_kept : MomentKept joined log (current_at time old) (current_at time new)
  unfolding current_at
  answer_kept =
      let later : List LogEntry = drop k.skipped joined in
      let behind : List LogEntry = keep k.stays later in
      let P : Option LogEntry → Type 0 = MomentKept joined log (current_at time old) in
      rw (k.is, keep_append (is_by time) (drop k.dropped old) behind, last_append (keep (is_by time) (drop k.dropped old)) (keep (is_by time) behind))
      (by_option P (last_of (keep (is_by time) behind))
      (λ q. old_kept)
      (λ e q. let here : Memᴰ e joined = in_drop k.skipped joined (in_keep k.stays later (in_keep (is_by time) behind (in_last (keep (is_by time) behind) q))) in OfThisRun e refl here (all_in (is_main_of log) joined k.mains here)))

-- ---- the close

module _ (m : Metadata) (st : State) (a : AccountedState m st) (w : is_whole m ≡ true) (n : removes_and_adds st.log ≡ false) where
  -- what was held at the start is not intermediate: the log adds it only after a removal
  start_not_intermediate : (e : LogEntry) → is_held_in m e ≡ true → not (is_intermediate st.log st.metadata e) ≡ true
  unfolding intermediates removes_and_adds
  start_not_intermediate e h = go (is_intermediate st.log st.metadata e) refl
    where
      adds : ℤ → Bool
      adds id = logs_addition st.log id && not (some_with (eq_z id) st.metadata.fields.current)

      go : (t : Bool) → is_intermediate st.log st.metadata e ≡ t → not t ≡ true
      go true q =
          let added : logs_addition st.log e.snapshot ≡ true = and_left (logs_addition st.log e.snapshot) (not (some_with (eq_z e.snapshot) st.metadata.fields.current)) (in_all adds (keep adds (logs_main st.log)) e.snapshot (all_kept adds (logs_main st.log)) q) in
          sym n ∙ in_any (logs_addition st.log) (logs_removed st.log) e.snapshot (a.given_again e.snapshot h added) added
      go false q = refl

  -- what a test that holds for the start's entries keeps of the history, without its first entries
  kept_of_lem : (q : LogEntry → Bool) → ((e : LogEntry) → is_held_in m e ≡ true → q e ≡ true) → (n : ℕ) → HistoryKept a.joined st.log m.snapshot_log (keep q (drop n st.metadata.snapshot_log))
  unfolding is_whole
  kept_of_lem q f n = record {
    dropped = n;
    skipped = n - length m.snapshot_log;
    stays = q;
    is = ap (λ (l : List LogEntry). keep q (drop n l)) a.appended ∙ keep_second q n m.snapshot_log a.joined (all_then (is_held_in m) q f m.snapshot_log w);
    mains = a.mains;
  }

  -- a history that the close leaves as it is
  left_kept : HistoryKept a.joined st.log m.snapshot_log st.metadata.snapshot_log
  left_kept = record {
    dropped = 0;
    skipped = 0;
    stays = is_main_of st.log;
    is = a.appended ∙ ap (λ (l : List LogEntry). m.snapshot_log ++ l) (sym (keep_all (is_main_of st.log) a.joined a.mains));
    mains = a.mains;
  }

  -- the history after a close that reads the log
  close_kept : HistoryKept a.joined st.log m.snapshot_log (history st.log st.metadata)
  unfolding rebuilt
  close_kept =
      let p : Metadata = st.metadata in
      let log : List Update = st.log in
      let lasting : LogEntry → Bool = λ e. not (is_intermediate log p e) in
      let P : List LogEntry → Type 0 = HistoryKept a.joined log m.snapshot_log in
      let cut : Dropped p.snapshot_log (after_last (is_missing p) p.snapshot_log) = after_last_drop (is_missing p) p.snapshot_log in
      by_test P (is_rebuilt log p)
      (λ r. by_test P (logs_removal log)
      (λ e. subst (λ (l : List LogEntry). P (keep lasting l)) (sym cut.is) (kept_of_lem lasting start_not_intermediate cut.count))
      (λ e. kept_of_lem (λ x. not (is_missing p x) && lasting x)
      (λ x h. both (ap (λ (t : Bool). not (not t)) (known_held p.snapshots log x.snapshot e (a.start_known x.snapshot h))) (start_not_intermediate x h)) 0))
      (λ r. left_kept)

  -- and after the close of a run of either office
  closing_kept : (terms : Terms) → HistoryKept a.joined st.log m.snapshot_log (history (closing_log terms st) st.metadata)
  closing_kept terms =
      by_test (λ (log : List Update). HistoryKept a.joined st.log m.snapshot_log (history log st.metadata)) (is_second terms.office)
      (λ o. rw (history_left st.metadata) left_kept)
      (λ o. close_kept)

-- ---- the run

-- what joined by the account is what joined
joined_same : (terms : Terms) (m : Metadata) (us : List Update) (st : State) (a : AccountedState m st) → run_from terms us 0 (started m) ≡ Reached st → joined_by terms m us ≡ a.joined
unfolding joined_by
joined_same terms m us st a e =
    ap (λ (r : Ran). drop (length m.snapshot_log) (history_of r)) e
    ∙ ap (drop (length m.snapshot_log)) a.appended
    ∙ drop-append_seam m.snapshot_log a.joined

-- the history before the close is the start's, followed by what joined
pub joined_is : (terms : Terms) (m : Metadata) (us : List Update) (st : State) → run_from terms us 0 (started m) ≡ Reached st → st.metadata.snapshot_log ≡ m.snapshot_log ++ joined_by terms m us
joined_is terms m us st e =
    let a : AccountedState m st = run_accounted m terms us st e in
    a.appended ∙ ap (λ (l : List LogEntry). m.snapshot_log ++ l) (sym (joined_same terms m us st a e))

-- the same of equal ones
alike : {joined joined' : List LogEntry} {log log' : List Update} {old new new' : List LogEntry} → joined' ≡ joined → log' ≡ log → new' ≡ new → HistoryKept joined log old new → HistoryKept joined' log' old new'
alike p q r k = rw (p, q, r) k

module _ (terms : Terms) (m : Metadata) (us : List Update) (m' : Metadata) (log : List Update) (expired : List FileEntry) (accepted : run terms m us ≡ Accepted m' log expired) (w : is_whole m ≡ true) (n : removes_and_adds log ≡ false) where
  -- from a whole history, where no snapshot is both removed and added by the log, only first entries go, and only entries of this run come
  pub history_kept : HistoryKept (joined_by terms m us) log m.snapshot_log m'.snapshot_log
  unfolding closed
  history_kept =
      let k : Ends terms m' log expired m us = run_accepted terms m' log expired m us accepted in
      let a : AccountedState m k.end = run_accounted m terms us k.end k.reached in
      alike
      (joined_same terms m us k.end a k.reached)
      (sym k.closes.logged)
      (sym (ap (λ (x : Metadata). x.snapshot_log) k.closes.metadata))
      (closing_kept m k.end a w (rw k.closes.logged n) terms)

  -- so the answer for any time is as before, or an entry of this run, or none
  pub moment_kept : (time : ℤ) → MomentKept (joined_by terms m us) log (current_at time m.snapshot_log) (current_at time m'.snapshot_log)
  moment_kept time = answer_kept history_kept time
