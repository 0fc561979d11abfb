-- A run keeps metadata sound, and what it accepts is well formed.
use Prim.Native.Nat.{ℕ, suc, ◌≤◌}
use native.Mathlib.Omega.{arith}
use mathlib.Core.Path.{◌≡◌, refl, subst}
use mathlib.Core.Bool.{Bool, true, not, ◌&&◌}
use mathlib.Core.List.{List, [], ◌∷◌}
use lib.Dec.{eqb}
use lib.Signed.{non_neg}
use lib.ListN.{length}
use borrow.Author.Tests.{ltb-false, eqb-true, not-false}
use Rattle.rules.specs.Words.{if_some, or_else, all, after_last, first_of}
use Rattle.rules.specs.Replies.{accepted}
use Rattle.rules.specs.Capacities.{snapshot_log_room, metadata_log_room}
use Rattle.rules.specs.Offices.{is_office}
use Rattle.rules.specs.Register.{LogEntry, FileEntry, Metadata, Update, Terms, State, with_snapshot_log, with_metadata_log, with_last_updated}
use Rattle.rules.specs.Register.Outcome.{Accepted}
use Rattle.rules.specs.WellFormed.{file_name_formed, snapshot_log_formed, metadata_log_formed, fields_formed, main_agrees, metadata_formed}
use Rattle.rules.specs.ChangeLog.{logs_removal}
use Rattle.rules.specs.Updates.{update_number, effect}
use Rattle.rules.specs.Close.{is_rebuilt, is_missing, is_intermediate, rebuilt, history, joined, surplus, staying, close_checks, closed}
use Rattle.rules.specs.Run.{run_from, started, closing_log, run}
use Rattle.rules.specs.Run.Ran.{Stopped, Reached}
use Rattle.rules.proofs.Checks.{by_test, by_option, only_then, both, and_left, and_right, passed}
use Rattle.rules.proofs.Tables.{all_append, all_drop, log_all, log_formed_lem, log_keep, log_after_last}
use Rattle.rules.proofs.Sound.Metadata.{Sound, SoundState, formed_sound, sound_formed, with_fields_lem, with_snapshot_log_lem, with_metadata_log_lem}
use Rattle.rules.proofs.Sound.Updates.{effect_sound}
use Rattle.rules.proofs.Sound.Accepted.{Ends, run_accepted}

-- ---- the updates of a run

pub not_reached : (n place : ℕ) (st : State) → Stopped n place ≡ Reached st → ⊥
not_reached n place st e = let z : ◌≡◌ {A = ℕ} 0 1 = cc in omega arith

pub same_state : (st st' : State) → Reached st ≡ Reached st' → st ≡ st'
same_state st st' e = cc

-- what every accepted update keeps, a run keeps
pub run_keeps : (terms : Terms) (P : State → Type 0) → ((u : Update) (st : State) → update_number terms u st ≡ 0 → P st → P (effect terms u st))
    → (us : List Update) (place : ℕ) (st st' : State) → run_from terms us place st ≡ Reached st' → P st → P st'
unfolding run_from
run_keeps terms P f [] place st st' e p = subst P (same_state st st' e) p
run_keeps terms P f (u ∷ us) place st st' e p =
    let k = only_then (eqb (update_number terms u st) accepted) (not_reached (update_number terms u st) place st') e in
    run_keeps terms P f us (suc place) (effect terms u st) st' k.1 (f u st (eqb-true (update_number terms u st) accepted k.0) p)

pub run_sound : (terms : Terms) → is_office terms.office ≡ true → (us : List Update) (place : ℕ) (st st' : State) → run_from terms us place st ≡ Reached st' → Sound st.metadata → Sound st'.metadata
run_sound terms o = run_keeps terms SoundState (λ u st. effect_sound terms u st o)

-- ---- the close

-- what the close leaves of the snapshot log is part of it
history_formed : (log : List Update) (m : Metadata) → snapshot_log_formed m.snapshot_log ≡ true → snapshot_log_formed (history log m) ≡ true
unfolding rebuilt snapshot_log_formed
history_formed log m h =
    let P : List LogEntry → Type 0 = λ l. snapshot_log_formed l ≡ true in
    let f : LogEntry → Bool = λ e. non_neg e.snapshot in
    by_test P (is_rebuilt log m)
    (λ e. by_test P (logs_removal log)
    (λ r. log_keep snapshot_log_room f (λ x. not (is_intermediate log m x)) (after_last (is_missing m) m.snapshot_log) (log_after_last snapshot_log_room f (is_missing m) m.snapshot_log h))
    (λ r. log_keep snapshot_log_room f (λ x. not (is_missing m x) && not (is_intermediate log m x)) m.snapshot_log h))
    (λ e. h)

-- the file that joins has a well-formed name
joined_formed : (terms : Terms) (m : Metadata) → if_some file_name_formed terms.file ≡ true → all (λ (e : FileEntry). file_name_formed e.file) m.metadata_log ≡ true
    → all (λ (e : FileEntry). file_name_formed e.file) (joined terms m) ≡ true
joined_formed terms m f h =
    let p : FileEntry → Bool = λ e. file_name_formed e.file in
    by_option (λ (l : List FileEntry). all p l ≡ true) terms.file
    (λ n. h)
    (λ name n. all_append p m.metadata_log (record { file = name; time = m.fields.last_updated } ∷ []) h (both (rw n at f) refl))

-- 23 bounds what stays
staying_formed : (terms : Terms) (m : Metadata) → if_some file_name_formed terms.file ≡ true → length (staying terms m) ≤ metadata_log_room → metadata_log_formed m.metadata_log ≡ true → metadata_log_formed (staying terms m) ≡ true
unfolding staying metadata_log_formed
staying_formed terms m f r h =
    let p : FileEntry → Bool = λ e. file_name_formed e.file in
    log_formed_lem metadata_log_room p (staying terms m) r (all_drop p (surplus terms m) (joined terms m) (joined_formed terms m f (log_all metadata_log_room p m.metadata_log h)))

closed_sound : (terms : Terms) (log : List Update) (st : State) → Sound st.metadata → if_some file_name_formed terms.file ≡ true → length (staying terms st.metadata) ≤ metadata_log_room → Sound (closed terms log st)
unfolding closed fields_formed
closed_sound terms log st s f r =
    let m : Metadata = st.metadata in
    let files : Metadata = with_metadata_log (staying terms m) m in
    let past : Metadata = with_snapshot_log (history log m) files in
    let a : Sound files = with_metadata_log_lem m s (staying terms m) (staying_formed terms m f r s.metadata_log) in
    let b : Sound past = with_snapshot_log_lem files a (history log m) (history_formed log m s.snapshot_log) in
    with_fields_lem past b (with_last_updated (or_else st.own terms.clock) m.fields) s.fields refl refl refl

-- 22: main agrees, also after the close, which changes neither of the two
closed_agrees : (terms : Terms) (log : List Update) (st : State) → main_agrees st.metadata ≡ true → main_agrees (closed terms log st) ≡ true
unfolding closed main_agrees
closed_agrees terms log st h = h

close_passed : (terms : Terms) (log : List Update) (m : Metadata) → first_of (close_checks terms log m) ≡ 0 → (main_agrees m ≡ true) × (length (staying terms m) ≤ metadata_log_room)
unfolding close_checks
close_passed terms log m e =
    let k = passed (close_checks terms log m) refl e in
    (not-false (main_agrees m) k.1.1.1.1.0, ltb-false metadata_log_room (length (staying terms m)) k.1.1.1.1.1.0)

pub close_formed : (terms : Terms) (log : List Update) (st : State) → Sound st.metadata → if_some file_name_formed terms.file ≡ true → first_of (close_checks terms log st.metadata) ≡ 0 → metadata_formed (closed terms log st) ≡ true
close_formed terms log st s f e =
    let k = close_passed terms log st.metadata e in
    sound_formed (closed terms log st) (closed_sound terms log st s f k.1) (closed_agrees terms log st k.0)

-- ---- the run

pub accepted_formed : (terms : Terms) (m : Metadata) (us : List Update) (m' : Metadata) (log : List Update) (expired : List FileEntry) → run terms m us ≡ Accepted m' log expired → metadata_formed m' ≡ true
accepted_formed terms m us m' log expired e =
    let k : Ends terms m' log expired m us = run_accepted terms m' log expired m us e in
    let f : if_some file_name_formed terms.file ≡ true = and_right (metadata_formed m) (if_some file_name_formed terms.file) k.formed in
    let s : Sound m = formed_sound m (and_left (metadata_formed m) (if_some file_name_formed terms.file) k.formed) in
    subst (λ (x : Metadata). metadata_formed x ≡ true) k.closes.metadata
    (close_formed terms (closing_log terms k.end) k.end (run_sound terms k.office us 0 (started m) k.end k.reached s) f k.closes.passes)
