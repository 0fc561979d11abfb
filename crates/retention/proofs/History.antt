-- What an expiry leaves of the history: an end of the snapshot log, so that for every time the answer which snapshot was current is what it was, or none.
-- Its list only removes refs and snapshots, and any list that does so leaves an end.
use Prim.Native.Nat.{ℕ, zero, suc}
use mathlib.Core.Path.{◌≡◌, refl, sym, ap, ap₂, ◌∙◌, subst}
use mathlib.Core.Bool.{Bool, true, false, cond, not, ◌&&◌, and-false}
use mathlib.Core.List.{List, [], ◌∷◌, ◌++◌, map, append-nil}
use mathlib.Core.Option.{Option, none, some}
use lib.Dec.{eqb}
use lib.IntN.{ℤ}
use lib.ListN.{drop}
use borrow.Table.Steps.{cases}
use Rattle.rules.specs.Words.{eq_z, is_some, some_with, all, keep, after_last, is_empty, is_in, first_of}
use Rattle.rules.specs.Replies.{accepted}
use Rattle.rules.specs.Capacities.{removal_room}
use Rattle.rules.specs.Names.{is_main}
use Rattle.rules.specs.Register.{NamedRef, LogEntry, FileEntry, Metadata, Update, Terms, State}
use Rattle.rules.specs.Register.Outcome.{Accepted}
use Rattle.rules.specs.Register.Update.{RemoveSnapshots, RemoveRef}
use Rattle.rules.specs.ChangeLog.{logs_addition, main_target, logs_main, logs_removal}
use Rattle.rules.specs.Moment.{is_by, current_at}
use Rattle.rules.specs.SnapshotUpdates.{held_snapshots, remove_snapshots}
use Rattle.rules.specs.RefUpdates.{ref_named, remove_ref}
use Rattle.rules.specs.Others.{is_second}
use Rattle.rules.specs.Updates.{update_number, effect}
use Rattle.rules.specs.Close.{intermediates, is_missing, is_intermediate, rebuilt, history, closed}
use Rattle.rules.specs.Run.{run_from, started, closing_log, run}
use Rattle.rules.specs.Run.Ran.{Reached}
use Rattle.rules.proofs.Checks.{by_test, only_then}
use Rattle.rules.proofs.Tables.{all_head, all_tail}
use Rattle.rules.proofs.Sound.Accepted.{Ends, run_accepted}
use Rattle.rules.proofs.Sound.Run.{not_reached, same_state}
use Rattle.rules.proofs.Replay.Lists.{keep_append, keep_all, collect_append}
use Rattle.rules.proofs.History.Lists.{Dropped, after_last_drop, last_append}
use Rattle.rules.proofs.History.During.{behind}
use Rattle.retention.specs.Retention.{Policy, dropped_refs, going_ids}
use Rattle.retention.specs.Expiry.{parts_of, expiring_updates, expiry_checks, Expiry, expiry}
use Rattle.retention.specs.Outcome.{remaining, is_cut, remaining_log}
use Rattle.retention.proofs.Stay.{all_each}

-- ---- the answer of an end

-- what a shorter history may make of an answer: as it was, or none
pub data MomentLeft (before after : Option LogEntry) : Type 0 where
  AsBefore : after ≡ before → MomentLeft before after
  Gone : after ≡ none → MomentLeft before after

-- what answers in an end answers in the whole
end_answers : (time : ℤ) (n : ℕ) (l : List LogEntry) {e : LogEntry} → current_at time (drop n l) ≡ some e → current_at time l ≡ some e
end_answers time zero l q = q
end_answers time (suc n) [] q = q
end_answers time (suc n) (x ∷ l) q = behind time x l (end_answers time n l q)

pub end_moment : {old new : List LogEntry} → Dropped old new → (time : ℤ) → MomentLeft (current_at time old) (current_at time new)
end_moment {old} {new} k time = go (current_at time new) refl
  where
    go : (o : Option LogEntry) → current_at time new ≡ o → MomentLeft (current_at time old) o
    go none q = Gone refl
    go (some e) q = AsBefore (sym (end_answers time k.count old (ap (current_at time) (sym k.is) ∙ q)))

-- ---- an end, and one entry more

pub record EndAnd (e : LogEntry) (old new : List LogEntry) : Type 0 where
  pub rest : List LogEntry
  pub end : Dropped old rest
  pub is : new ≡ rest ++ (e ∷ [])

-- what it may make of an answer: the entry, or what the end does
pub data MomentWith (e : LogEntry) (before after : Option LogEntry) : Type 0 where
  Newest : after ≡ some e → MomentWith e before after
  Older : MomentLeft before after → MomentWith e before after

pub end_and_moment : {e : LogEntry} {old new : List LogEntry} → EndAnd e old new → (time : ℤ) → MomentWith e (current_at time old) (current_at time new)
unfolding current_at
end_and_moment {e} {old} {new} k time =
    let older : List LogEntry = keep (is_by time) k.rest in
    rw (k.is, keep_append (is_by time) k.rest (e ∷ []))
    (cases (is_by time e)
    (λ t. rw (t, last_append older (e ∷ [])) (Newest refl))
    (λ f. rw (f, append-nil older) (Older (end_moment k.end time))))

-- ---- the log after an expiry

-- a log that is cut after the last entry that passes a test, or left
pub cut_end : {A : Type 0} (p : A → Bool) (b : Bool) (l : List A) → Dropped l (cond b (after_last p l) l)
cut_end p true l = after_last_drop p l
cut_end p false l = record { count = 0; is = refl }

-- it is the old one without its first entries
pub log_is_an_end : (p : Policy) (m : Metadata) → Dropped m.snapshot_log (remaining_log p m)
log_is_an_end p m = cut_end (is_missing (remaining p m)) (is_cut p m) m.snapshot_log

-- so the answer for any time is what it was, or none
pub expiry_moment : (p : Policy) (m : Metadata) (time : ℤ) → MomentLeft (current_at time m.snapshot_log) (current_at time (remaining_log p m))
expiry_moment p m time = end_moment (log_is_an_end p m) time

-- ---- lists of removals

-- a list that removes refs and snapshots, as that of an expiry does
pub data Removing : List Update → Type 0 where
  Nothing : Removing []
  OfRef : (name : List ℕ) {us : List Update} → Removing us → Removing (RemoveRef name ∷ us)
  OfSnapshots : (ids : List ℤ) {us : List Update} → Removing us → Removing (RemoveSnapshots ids ∷ us)

refs_removing : (refs : List NamedRef) {us : List Update} → Removing us → Removing (map (λ (r : NamedRef). RemoveRef r.name) refs ++ us)
refs_removing [] k = k
refs_removing (r ∷ refs) k = OfRef r.name (refs_removing refs k)

parts_removing : (parts : List (List ℤ)) → Removing (map RemoveSnapshots parts)
parts_removing [] = Nothing
parts_removing (ids ∷ parts) = OfSnapshots ids (parts_removing parts)

-- so does that of a refused one, which is empty
pub expiry_removing : (p : Policy) (m : Metadata) → Removing (expiry p m).updates
unfolding expiry expiring_updates
expiry_removing p m =
    by_test (λ (x : Expiry). Removing x.updates) (eqb (first_of (expiry_checks p m)) accepted)
    (λ t. refs_removing (dropped_refs p m) (parts_removing (parts_of removal_room (going_ids p m))))
    (λ f. Nothing)

-- the snapshot log is as it was, and no `main` ref is logged
pub record Quiet (l : List LogEntry) (st : State) : Type 0 where
  pub same : st.metadata.snapshot_log ≡ l
  pub no_main : logs_main st.log ≡ []

-- an update that sets no `main` is logged
logs_no_main : (log : List Update) (u : Update) → logs_main (u ∷ []) ≡ [] → logs_main log ≡ [] → logs_main (log ++ (u ∷ [])) ≡ []
unfolding logs_main
logs_no_main log u n q = collect_append main_target log (u ∷ []) ∙ ap₂ ◌++◌ q n

module _ (l : List LogEntry) where
  remove_ref_quiet : (name : List ℕ) (st : State) → Quiet l st → Quiet l (remove_ref name st)
  unfolding remove_ref logs_main
  remove_ref_quiet name st q =
      let more : logs_main (st.log ++ (RemoveRef name ∷ [])) ≡ [] = logs_no_main st.log (RemoveRef name) refl q.no_main in
      by_test (Quiet l) (is_main name)
      (λ e. record { same = q.same; no_main = more })
      (λ e. by_test (Quiet l) (is_some (ref_named name st.metadata.refs)) (λ f. record { same = q.same; no_main = more }) (λ f. q))

  remove_snapshots_quiet : (ids : List ℤ) (st : State) → Quiet l st → Quiet l (remove_snapshots ids st)
  unfolding remove_snapshots logs_main
  remove_snapshots_quiet ids st q =
      let held : List ℤ = held_snapshots ids st.metadata.snapshots in
      by_test (Quiet l) (is_empty held)
      (λ e. record { same = q.same; no_main = q.no_main })
      (λ e. record { same = q.same; no_main = logs_no_main st.log (RemoveSnapshots held) refl q.no_main })

  removing_quiet : (terms : Terms) {us : List Update} → Removing us → (place : ℕ) (st st' : State) → run_from terms us place st ≡ Reached st' → Quiet l st → Quiet l st'
  unfolding run_from effect
  removing_quiet terms Nothing place st st' e q = subst (Quiet l) (same_state st st' e) q
  removing_quiet terms (OfRef name k) place st st' e q =
      let n : ℕ = update_number terms (RemoveRef name) st in
      removing_quiet terms k (suc place) (remove_ref name st) st' (only_then (eqb n accepted) (not_reached n place st') e).1 (remove_ref_quiet name st q)
  removing_quiet terms (OfSnapshots ids k) place st st' e q =
      let n : ℕ = update_number terms (RemoveSnapshots ids) st in
      removing_quiet terms k (suc place) (remove_snapshots ids st) st' (only_then (eqb n accepted) (not_reached n place st') e).1 (remove_snapshots_quiet ids st q)

-- ---- what their close leaves of the snapshot log

-- where `main` went to the current snapshot alone there are no intermediate snapshots, and the close only cuts the log after the last entry whose snapshot is
-- missing
quiet_history : (log : List Update) (m : Metadata) → all (λ id. some_with (eq_z id) m.fields.current) (logs_main log) ≡ true
    → history log m ≡ cond (logs_removal log) (after_last (is_missing m) m.snapshot_log) m.snapshot_log
unfolding rebuilt intermediates
quiet_history log m h =
    let none : intermediates log m.fields.current ≡ [] = keep_none (logs_main log) h in
    let stays : LogEntry → Bool = λ e. not (is_intermediate log m e) in
    let cut : List LogEntry = after_last (is_missing m) m.snapshot_log in
    cases (logs_removal log)
    (λ t. rw t (keep_all stays cut (all_each stays cut (λ e i. ap (λ (ids : List ℤ). not (is_in ids e.snapshot)) none))))
    (λ f. rw (f, none))
  where
    keep_none : (ids : List ℤ) → all (λ id. some_with (eq_z id) m.fields.current) ids ≡ true → keep (λ id. logs_addition log id && not (some_with (eq_z id) m.fields.current)) ids ≡ []
    keep_none [] k = refl
    keep_none (id ∷ ids) k =
        let is : ℤ → Bool = λ x. some_with (eq_z x) m.fields.current in
        rw (all_head is id ids k, and-false (logs_addition log id)) (keep_none ids (all_tail is id ids k))

-- the close of either office reads the log or none
closing_mains_lem : (terms : Terms) (st : State) (p : ℤ → Bool) → all p (logs_main st.log) ≡ true → all p (logs_main (closing_log terms st)) ≡ true
unfolding logs_main
closing_mains_lem terms st p h = by_test (λ (log : List Update). all p (logs_main log) ≡ true) (is_second terms.office) (λ e. refl) (λ e. h)

-- one log is another, cut after the last entry that passes a test or left
pub record CutBy (p : LogEntry → Bool) (old new : List LogEntry) : Type 0 where
  pub cut : Bool
  pub is : new ≡ cond cut (after_last p old) old

cut_is_end : {p : LogEntry → Bool} {old new : List LogEntry} → CutBy p old new → Dropped old new
cut_is_end {p} {old} {new} k = subst (Dropped old) (sym k.is) (cut_end p k.cut old)

-- an accepted run, where `main` went to the current snapshot alone
pub accepted_cut : (terms : Terms) (m : Metadata) (us : List Update) (m' : Metadata) (log : List Update) (expired : List FileEntry) (k : Ends terms m' log expired m us)
    → all (λ id. some_with (eq_z id) k.end.metadata.fields.current) (logs_main k.end.log) ≡ true → CutBy (is_missing k.end.metadata) k.end.metadata.snapshot_log m'.snapshot_log
unfolding closed
accepted_cut terms m us m' log expired k h =
    let st : State = k.end in
    let closing : List Update = closing_log terms st in
    record {
      cut = logs_removal closing;
      is =
          sym (ap (λ (x : Metadata). x.snapshot_log) k.closes.metadata)
          ∙ quiet_history closing st.metadata (closing_mains_lem terms st (λ id. some_with (eq_z id) st.metadata.fields.current) h);
    }

-- ---- a run of removals

pub removals_quiet : (terms : Terms) (m : Metadata) {us : List Update} → Removing us → (st : State) → run_from terms us 0 (started m) ≡ Reached st → Quiet m.snapshot_log st
unfolding logs_main
removals_quiet terms m r st e = removing_quiet m.snapshot_log terms r 0 (started m) st e (record { same = refl; no_main = refl })

module _ (terms : Terms) (m : Metadata) {us : List Update} (r : Removing us) (m' : Metadata) (log : List Update) (expired : List FileEntry) (e : run terms m us ≡ Accepted m' log expired) where
  -- the answered log is an end of the old one
  pub removals_log : Dropped m.snapshot_log m'.snapshot_log
  removals_log =
      let k : Ends terms m' log expired m us = run_accepted terms m' log expired m us e in
      let q : Quiet m.snapshot_log k.end = removals_quiet terms m r k.end k.reached in
      subst (λ (l : List LogEntry). Dropped l m'.snapshot_log) q.same (cut_is_end (accepted_cut terms m us m' log expired k (rw q.no_main)))

  -- so the answer for any time is what it was, or none
  pub removals_moment : (time : ℤ) → MomentLeft (current_at time m.snapshot_log) (current_at time m'.snapshot_log)
  removals_moment = end_moment removals_log
