-- The run of an expiry's list, with nothing after it: every update is accepted and logged as it is, and the close answers by the start alone. So the list
-- is refused with no number but 1, 26, 31, 32, 20, 21 and 23, and the change log of an accepted one is the list.
pub mod Lists
pub mod Needed
pub mod Removals
pub mod Drops
pub mod Reached
pub mod Contents
pub mod Closing
pub mod Remains
use Prim.Native.Nat.{ℕ}
use mathlib.Core.Path.{◌≡◌, refl, sym, ap, subst, ◌∙◌}
use mathlib.Core.Bool.{true, false, cond}
use mathlib.Core.List.{List, [], ◌∷◌, ◌++◌, map}
use lib.Dec.{eqb}
use lib.ListN.{length}
use borrow.Author.Tests.{eq-eqb, le-leb}
use borrow.Table.Steps.{cases}
use Rattle.rules.specs.Words.{any, first_of, Check}
use Rattle.rules.specs.Replies.{accepted, start_not_formed, tolerance_outside, name_clash, source_misfit, default_order_unfit, log_ends_elsewhere, too_many_files}
use Rattle.rules.specs.Capacities.{list_room}
use Rattle.rules.specs.Offices.{is_office}
use Rattle.rules.specs.Register.{LogEntry, FileEntry, Metadata, Update, Terms, Outcome, with_fields, with_snapshot_log, with_metadata_log, with_last_updated}
use Rattle.rules.specs.Register.Outcome.{Refused, Accepted}
use Rattle.rules.specs.ChangeLog.{logs_main, logs_removal}
use Rattle.rules.specs.SpecUpdates.{is_held_misfit}
use Rattle.rules.specs.Others.{is_second}
use Rattle.rules.specs.Close.{is_default_clashing, is_default_misfit, is_default_unfit, expired, staying, close_checks, closed}
use Rattle.rules.specs.Run.{list_sum, close, closing_log, start_checks, run}
use Rattle.rules.proofs.Checks.{by_test, or_left, or_right}
use Rattle.rules.proofs.Replay.Lists.{any_append}
use Rattle.retention.specs.Retention.{Policy}
use Rattle.retention.specs.Expiry.{expiring_updates, expiry}
use Rattle.retention.specs.Outcome.{remaining, is_cut, remaining_log, list_start_checks, list_close_checks, list_outcome}
use Rattle.retention.proofs.Stay.{Expires, expiry_accepted}
use Rattle.retention.proofs.Run.Reached.{ended, list_reached}
use Rattle.retention.proofs.Run.Contents.{list_short, list_no_main, list_removes}
use Rattle.retention.proofs.Run.Closing.{history_is, ends_elsewhere_is}
use Rattle.retention.proofs.Run.Remains.{main_agrees_lem, current_held}

-- ---- the close

-- what remains, closed
abbrev closed_remaining : Terms → Policy → Metadata → Metadata
closed_remaining terms p m = with_fields (with_last_updated terms.clock m.fields) (with_snapshot_log (remaining_log p m) (with_metadata_log (staying terms m) (remaining p m)))

module _ (terms : Terms) (p : Policy) (m : Metadata) (k : Expires p m) (o : terms.office ≡ p.office) where
  abbrev closing : List Update
  closing = closing_log terms (ended p m)

  closing_no_main : logs_main closing ≡ []
  unfolding logs_main
  closing_no_main = by_test (λ (log : List Update). logs_main log ≡ []) (is_second terms.office) (λ e. refl) (λ e. list_no_main p m)

  closing_removes : logs_removal closing ≡ is_cut p m
  unfolding logs_removal
  closing_removes = rw o (cases (is_second p.office) (λ t. rw t) (λ f. rw f (list_removes p m)))

  close_number : first_of (close_checks terms closing (remaining p m)) ≡ first_of (list_close_checks terms p m)
  unfolding close_checks remaining is_default_clashing is_default_misfit is_held_misfit is_default_unfit staying
  close_number = rw (ends_elsewhere_is (remaining p m) closing (is_cut p m) closing_no_main closing_removes (current_held p m k), main_agrees_lem p m k)

  closed_is : closed terms closing (ended p m) ≡ closed_remaining terms p m
  unfolding closed remaining staying
  closed_is =
      ap (λ (l : List LogEntry). with_fields (with_last_updated terms.clock m.fields) (with_snapshot_log l (with_metadata_log (staying terms m) (remaining p m))))
      (history_is (remaining p m) closing (is_cut p m) closing_no_main closing_removes)

  expired_is : expired terms (remaining p m) ≡ expired terms m
  unfolding expired remaining
  expired_is = refl

  -- where the list has led, the close answers by the start
  list_closes : (place : ℕ) → close terms place closing (ended p m)
      ≡ cond (eqb (first_of (list_close_checks terms p m)) accepted)
      (Accepted (closed_remaining terms p m) (expiring_updates p m) (expired terms m))
      (Refused (first_of (list_close_checks terms p m)) place)
  unfolding close
  list_closes place = rw (close_number, closed_is, expired_is)

-- ---- the run

pub expiry_run : (terms : Terms) (p : Policy) (m : Metadata) → (expiry p m).number ≡ accepted → terms.office ≡ p.office → run terms m (expiry p m).updates ≡ list_outcome terms p m
unfolding run start_checks list_outcome
expiry_run terms p m e o =
    let k : Expires p m = expiry_accepted p m e in
    let us : List Update = expiring_updates p m in
    let office : is_office terms.office ≡ true = rw o k.office in
    rw (k.updates, k.formed, le-leb (list_sum us) list_room (list_short p m k.formed), office, list_reached p m k terms o, list_closes terms p m k o (length us))

-- ---- what follows of it

-- the numbers with which the list may be refused: before its first update, and at the close
abbrev pub start_numbers : List ℕ
start_numbers = start_not_formed ∷ tolerance_outside ∷ []

abbrev pub close_numbers : List ℕ
close_numbers = name_clash ∷ source_misfit ∷ default_order_unfit ∷ log_ends_elsewhere ∷ too_many_files ∷ []

abbrev pub list_numbers : List ℕ
list_numbers = start_numbers ++ close_numbers

-- a refusal has one of them, and an acceptance logs these updates
abbrev Answers : List Update → Outcome → Type 0
Answers us (Refused number place) = any (eqb number) list_numbers ≡ true
Answers us (Accepted m log gone) = log ≡ us

-- checks that fail answer with the number of one of them
number_of_one : (cs : List Check) → eqb (first_of cs) accepted ≡ false → any (eqb (first_of cs)) (map (λ (c : Check). c.1) cs) ≡ true
number_of_one [] h = sym h
number_of_one (c ∷ cs) h =
    cases c.0
    (λ t. let P : ℕ → Type 0 = λ n. any (eqb n) (map (λ (x : Check). x.1) (c ∷ cs)) ≡ true in
    let e : first_of (c ∷ cs) ≡ c.1 = rw t in
    subst P (sym e) (or_left (any (eqb c.1) (map (λ (x : Check). x.1) cs)) (eq-eqb c.1 c.1 refl)))
    (λ f. let P : ℕ → Type 0 = λ n. any (eqb n) (map (λ (x : Check). x.1) (c ∷ cs)) ≡ true in
    let e : first_of (c ∷ cs) ≡ first_of cs = rw f in
    subst P (sym e) (or_right (eqb (first_of cs) c.1) (number_of_one cs (rw f at h))))

outcome_answers : (terms : Terms) (p : Policy) (m : Metadata) → Answers (expiring_updates p m) (list_outcome terms p m)
unfolding list_outcome
outcome_answers terms p m =
    let P : Outcome → Type 0 = Answers (expiring_updates p m) in
    let start : ℕ = first_of (list_start_checks terms) in
    let end : ℕ = first_of (list_close_checks terms p m) in
    by_test P (eqb start accepted)
    (λ s. by_test P (eqb end accepted)
    (λ e. refl)
    (λ e. any_append (eqb end) start_numbers close_numbers ∙ or_right (any (eqb end) start_numbers) (number_of_one (list_close_checks terms p m) e)))
    (λ s. any_append (eqb start) start_numbers close_numbers ∙ or_left (any (eqb start) close_numbers) (number_of_one (list_start_checks terms) s))

module _ (terms : Terms) (p : Policy) (m : Metadata) (e : (expiry p m).number ≡ accepted) (o : terms.office ≡ p.office) where
  run_answers : Answers (expiry p m).updates (run terms m (expiry p m).updates)
  run_answers = rw (expiry_run terms p m e o, (expiry_accepted p m e).updates) (outcome_answers terms p m)

  -- no other number comes: not 2, 3, 19, 22, 35 or 39
  pub list_numbers_never : (number place : ℕ) → run terms m (expiry p m).updates ≡ Refused number place → any (eqb number) list_numbers ≡ true
  list_numbers_never number place h = subst (Answers (expiry p m).updates) h run_answers

  -- the change log is the list
  pub list_logged : (m' : Metadata) (log : List Update) (gone : List FileEntry) → run terms m (expiry p m).updates ≡ Accepted m' log gone → log ≡ (expiry p m).updates
  list_logged m' log gone h = subst (Answers (expiry p m).updates) h run_answers
