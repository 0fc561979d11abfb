-- The entry point `run`, and which snapshot was current at a time: what an accepted run makes of a history and of the answer, by the contract of `run` alone.
use Prim.Native.Nat.{ℕ}
use mathlib.Core.Path.{◌≡◌, refl, sym, ap, subst, ◌∙◌}
use mathlib.Core.Bool.{true, false}
use mathlib.Core.List.{List}
use lib.IntN.{ℤ}
use Rattle.records.specs.declared.run.Answer.{Answer}
use Rattle.rules.specs.Replies.{start_not_formed}
use Rattle.rules.specs.Offices.{first_office}
use Rattle.rules.specs.Register.{LogEntry, Metadata, Update, Terms, Outcome}
use Rattle.rules.specs.Register.Outcome.{Refused, Accepted}
use Rattle.rules.specs.ChangeLog.{logs_removal}
use Rattle.rules.specs.Moment.{current_at, is_whole, removes_and_adds}
use Rattle.rules.specs.Run.{run}
use Rattle.rules.specs.Blanks.{is_tidy_metadata}
use Rattle.rules.specs.Layout.{read_metadata, read_metadata_log}
use Rattle.rules.specs.Kinds.{read_updates}
use Rattle.rules.specs.Answer.{read_terms, laid_outcome, answer}
use Rattle.rules.proofs.Checks.{by_test}
use Rattle.rules.proofs.Answer.Laws.{answer_read}
use Rattle.rules.proofs.History.Whole.{whole_stays, whole_after_removal}
use Rattle.rules.proofs.History.Kept.{joined_by, HistoryKept, history_kept, MomentKept, moment_kept}
use Rattle.theorems.proofs.Run.{Call, start, updates, terms, lent, says}

module _ (c : Call) where
  -- what is given, read
  abbrev pub before : Metadata
  before = read_metadata (start c)

  abbrev pub asked : List Update
  asked = read_updates (updates c)

  abbrev pub under : Terms
  under = read_terms (terms c) (lent c)

  -- what is answered, read
  abbrev pub after : Metadata
  after = read_metadata c.answered.metadata

  abbrev pub changes : List Update
  changes = read_updates c.answered.changes

  -- the entries that the updates of the run append to the history
  abbrev pub joined : List LogEntry
  joined = joined_by under before asked

-- what holds of 0, of 1 and of every number with which the rules refuse holds of the number that is answered
pub answered_number : (c : Call) (P : ℕ → Type 0) → P 0 → P start_not_formed → ((number place : ℕ) → run (under c) (before c) (asked c) ≡ Refused number place → P number) → P c.answered.number
unfolding answer laid_outcome
answered_number c P a u f =
    subst (λ (x : Answer). P x.number) (sym (says c))
    (by_test (λ (o : Outcome). P (laid_outcome (start c) o).number) (is_tidy_metadata (start c)) (λ t. go (run (under c) (before c) (asked c)) refl) (λ n. u))
  where
    go : (o : Outcome) → run (under c) (before c) (asked c) ≡ o → P (laid_outcome (start c) o).number
    go (Refused number place) q = f number place q
    go (Accepted m log expired) q = a

module _ (c : Call) (e : c.answered.number ≡ 0) where
  -- the rules accept, and lead to what is answered
  pub accepted : run (under c) (before c) (asked c) ≡ Accepted (after c) (changes c) (read_metadata_log c.answered.expired)
  accepted =
      subst (λ (x : Answer). run (under c) (before c) (asked c) ≡ Accepted (read_metadata x.metadata) (read_updates x.changes) (read_metadata_log x.expired)) (sym (says c))
      (answer_read (start c) (updates c) (terms c) (lent c) (sym (ap (λ (x : Answer). x.number) (says c)) ∙ e))

  -- an accepted run from a whole history, one that names held snapshots alone, answers a whole one
  pub run_whole_stays : is_whole (before c) ≡ true → is_whole (after c) ≡ true
  run_whole_stays = whole_stays (under c) (before c) (asked c) (after c) (changes c) (read_metadata_log c.answered.expired) accepted

  -- after an accepted run of office 1 that logs a removal of snapshots the history is whole, whatever it was
  pub run_whole_after_removal : (terms c).office ≡ first_office → logs_removal (changes c) ≡ true → is_whole (after c) ≡ true
  run_whole_after_removal = whole_after_removal (under c) (before c) (asked c) (after c) (changes c) (read_metadata_log c.answered.expired) accepted

  module _ (w : is_whole (before c) ≡ true) (n : removes_and_adds (changes c) ≡ false) where
    -- from a whole history, where no snapshot is both removed and added by the log, only first entries go and only entries of this run come
    pub run_history_kept : HistoryKept (joined c) (changes c) (before c).snapshot_log (after c).snapshot_log
    run_history_kept = history_kept (under c) (before c) (asked c) (after c) (changes c) (read_metadata_log c.answered.expired) accepted w n

    -- so for every time the answer is the one before the run, or an entry of this run, or none
    pub run_moment_kept : (time : ℤ) → MomentKept (joined c) (changes c) (current_at time (before c).snapshot_log) (current_at time (after c).snapshot_log)
    run_moment_kept = moment_kept (under c) (before c) (asked c) (after c) (changes c) (read_metadata_log c.answered.expired) accepted w n
