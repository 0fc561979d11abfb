-- What the answer of a run is like: its number is 0 exactly where the rules accept, and then it is fit to start the next run; otherwise nothing has changed. Each number has its place.
use Prim.Native.Nat.{ℕ, ◌≤◌}
use native.Mathlib.Omega.{arith}
use mathlib.Core.Path.{◌≡◌, refl, ap, ◌∙◌}
use mathlib.Core.Bool.{Bool, true, false, cond}
use mathlib.Core.List.{List}
use lib.ListN.{length, length-map}
use Rattle.records.specs.Blanks.{no_metadata_log, no_update, no_updates}
use Rattle.records.specs.declared.metadata.TableMetadata.{TableMetadata}
use Rattle.records.specs.declared.update.UpdateList.{UpdateList}
use Rattle.records.specs.declared.run.RunTerms.{RunTerms}
use Rattle.records.specs.declared.run.Answer.{Answer}
use Rattle.rules.specs.Words.{all}
use Rattle.rules.specs.Replies.{accepted, start_not_formed}
use Rattle.rules.specs.Capacities.{list_room}
use Rattle.rules.specs.Register.{FileEntry, Metadata, Update, Terms, Outcome}
use Rattle.rules.specs.Register.Outcome.{Refused, Accepted}
use Rattle.rules.specs.WellFormed.{metadata_formed, update_formed}
use Rattle.rules.specs.Run.{list_sum, run}
use Rattle.rules.specs.Blanks.{is_tidy_metadata}
use Rattle.rules.specs.Layout.{counted, read_metadata, laid_metadata, read_metadata_log}
use Rattle.rules.specs.Kinds.{read_update, read_updates, laid_updates}
use Rattle.rules.specs.Answer.{Lent, read_terms, laid_outcome, answer}
use Rattle.rules.proofs.Checks.{by_test}
use Rattle.rules.proofs.Slots.Relaid.{length_counted}
use Rattle.rules.proofs.Answer.Places.{Reply, Replies, reply_of_start, run_replies}
use Rattle.rules.proofs.Sound.Run.{accepted_formed}
use Rattle.rules.proofs.Replay.Run.{log_fits_lem}
use Rattle.rules.proofs.Slots.Laid.{tidy_metadata}
use Rattle.rules.proofs.Slots.Reread.{reread_metadata, reread_metadata_log, reread_updates}

-- ---- no refusal has the number 0

abbrev pub RefusesNumbered : Outcome → Type 0
RefusesNumbered (Refused number place) = number ≡ accepted → ⊥
RefusesNumbered (Accepted m log expired) = Unit {0}

pub run_numbered : (terms : Terms) (m : Metadata) (us : List Update) → RefusesNumbered (run terms m us)
run_numbered terms m us = numbered (run terms m us) (run_replies terms m us)
  where
    numbered : (o : Outcome) → Replies (length us) o → RefusesNumbered o
    numbered (Refused number place) h = λ z. omega arith
    numbered (Accepted m' log expired) h = tt

-- ---- what an answer's number says

module _ (m : TableMetadata) (us : UpdateList) (terms : RunTerms) (lent : Lent) where
  -- the metadata is tidy, and the run on what is read is accepted
  pub record Accepts : Type 0 where
    pub tidy : is_tidy_metadata m ≡ true
    pub metadata : Metadata
    pub log : List Update
    pub expired : List FileEntry
    pub runs : run (read_terms terms lent) (read_metadata m) (read_updates us) ≡ Accepted metadata log expired

  -- then the answer is the outcome, laid out
  pub accepts_laid : (k : Accepts) → answer m us terms lent ≡ laid_outcome m (Accepted k.metadata k.log k.expired)
  unfolding answer
  accepts_laid k = rw (k.tidy, k.runs)

  -- and its number is 0
  pub accepts_zero : Accepts → (answer m us terms lent).number ≡ 0
  unfolding laid_outcome
  accepts_zero k = ap (λ (a : Answer). a.number) (accepts_laid k)

  -- only then
  pub zero_accepts : (answer m us terms lent).number ≡ 0 → Accepts
  unfolding answer laid_outcome
  zero_accepts e = by_tidy (is_tidy_metadata m) refl e
    where
      by_run : is_tidy_metadata m ≡ true → (o : Outcome) → RefusesNumbered o → run (read_terms terms lent) (read_metadata m) (read_updates us) ≡ o → (laid_outcome m o).number ≡ 0 → Accepts
      by_run t (Refused number place) h r e = absurd (h e)
      by_run t (Accepted m' log expired) h r e = record { tidy = t; metadata = m'; log = log; expired = expired; runs = r }

      by_tidy : (b : Bool) → is_tidy_metadata m ≡ b → (laid_outcome m (cond b (run (read_terms terms lent) (read_metadata m) (read_updates us)) (Refused start_not_formed 0))).number ≡ 0 → Accepts
      by_tidy true t e =
          let terms' : Terms = read_terms terms lent in
          by_run t (run terms' (read_metadata m) (read_updates us)) (run_numbered terms' (read_metadata m) (read_updates us)) refl e
      by_tidy false t e = absurd (let z : ◌≡◌ {A = ℕ} start_not_formed 0 = e in omega arith)

-- ---- what is laid out

-- well-formed metadata and updates, laid out, are answered by the outcome of the rules, laid out
pub laid_answer : (p : Metadata) (us : List Update) (terms : RunTerms) (lent : Lent) → metadata_formed p ≡ true → all update_formed us ≡ true
    → answer (laid_metadata p) (laid_updates us) terms lent ≡ laid_outcome (laid_metadata p) (run (read_terms terms lent) p us)
unfolding answer
laid_answer p us terms lent f g = rw (tidy_metadata p f, reread_metadata p, reread_updates us g)

-- ---- an accepted run

-- what a run may start from: unused places are blank, and what is read is well formed
pub record Formed (m : TableMetadata) : Type 0 where
  pub tidy : is_tidy_metadata m ≡ true
  pub formed : metadata_formed (read_metadata m) ≡ true

-- what a run may be given to do: every update well formed, and not too many
pub record Fits (us : UpdateList) : Type 0 where
  pub formed : all update_formed (read_updates us) ≡ true
  pub light : list_sum (read_updates us) ≤ list_room

laid_formed : (p : Metadata) → metadata_formed p ≡ true → Formed (laid_metadata p)
laid_formed p f = record { tidy = tidy_metadata p f; formed = rw reread_metadata f }

laid_fits : (l : List Update) → all update_formed l ≡ true → list_sum l ≤ list_room → Fits (laid_updates l)
laid_fits l f s = let e : read_updates (laid_updates l) ≡ l = reread_updates l f in record { formed = rw e f; light = rw e s }

module _ (m : TableMetadata) (us : UpdateList) (terms : RunTerms) (lent : Lent) (e : (answer m us terms lent).number ≡ 0) where
  accepts : Accepts m us terms lent
  accepts = zero_accepts m us terms lent e

  log_formed_lem : (all update_formed accepts.log ≡ true) × (list_sum accepts.log ≤ list_room)
  log_formed_lem = log_fits_lem (read_terms terms lent) (read_metadata m) (read_updates us) accepts.metadata accepts.log accepts.expired accepts.runs

  -- one run's answer is the next run's start
  pub answer_formed : Formed (answer m us terms lent).metadata
  unfolding laid_outcome
  answer_formed =
      rw (accepts_laid m us terms lent accepts)
      (laid_formed accepts.metadata (accepted_formed (read_terms terms lent) (read_metadata m) (read_updates us) accepts.metadata accepts.log accepts.expired accepts.runs))

  -- its changes can be run
  pub answer_log_fits : Fits (answer m us terms lent).changes
  unfolding laid_outcome
  answer_log_fits = rw (accepts_laid m us terms lent accepts) (laid_fits accepts.log log_formed_lem.0 log_formed_lem.1)

  -- read back, the answer is the outcome of the rules: nothing is lost in laying it out
  pub answer_read : run (read_terms terms lent) (read_metadata m) (read_updates us)
      ≡ Accepted (read_metadata (answer m us terms lent).metadata) (read_updates (answer m us terms lent).changes) (read_metadata_log (answer m us terms lent).expired)
  unfolding laid_outcome
  answer_read =
      rw (accepts_laid m us terms lent accepts)
      (rw (reread_metadata, reread_updates accepts.log log_formed_lem.0, reread_metadata_log) accepts.runs)

-- ---- a refused run

-- "A refused run returns the starting metadata, an empty log and no expired entries."
pub record Unchanged (m : TableMetadata) (a : Answer) : Type 0 where
  pub metadata : a.metadata ≡ m
  pub changes : a.changes ≡ no_updates
  pub expired : a.expired ≡ no_metadata_log

refused_unchanged : (m : TableMetadata) (o : Outcome) → ((laid_outcome m o).number ≡ 0 → ⊥) → Unchanged m (laid_outcome m o)
unfolding laid_outcome
refused_unchanged m (Refused number place) h = record { metadata = refl; changes = refl; expired = refl }
refused_unchanged m (Accepted m' log expired) h = absurd (h refl)

pub answer_refused : (m : TableMetadata) (us : UpdateList) (terms : RunTerms) (lent : Lent) → ((answer m us terms lent).number ≡ 0 → ⊥) → Unchanged m (answer m us terms lent)
unfolding answer
answer_refused m us terms lent h = refused_unchanged m (cond (is_tidy_metadata m) (run (read_terms terms lent) (read_metadata m) (read_updates us)) (Refused start_not_formed 0)) h

-- ---- number and place

-- as many updates are read as the count says
read_count : (us : UpdateList) → length (read_updates us) ≡ us.count
unfolding read_updates
read_count us = length-map (counted no_update us.items us.count) read_update ∙ length_counted no_update us.items us.count

laid_reply : (m : TableMetadata) (count : ℕ) (o : Outcome) → Replies count o → Reply count (laid_outcome m o).number (laid_outcome m o).place
unfolding laid_outcome
laid_reply m count (Refused number place) h = h.1
laid_reply m count (Accepted m' log expired) h = reply_of_start count accepted refl

pub answer_reply : (m : TableMetadata) (us : UpdateList) (terms : RunTerms) (lent : Lent) → Reply us.count (answer m us terms lent).number (answer m us terms lent).place
unfolding answer
answer_reply m us terms lent =
    laid_reply m us.count (cond (is_tidy_metadata m) (run (read_terms terms lent) (read_metadata m) (read_updates us)) (Refused start_not_formed 0))
    (by_test (Replies us.count) (is_tidy_metadata m)
    (λ t. rw (read_count us) at (run_replies (read_terms terms lent) (read_metadata m) (read_updates us)))
    (λ f. (omega arith, reply_of_start us.count start_not_formed refl)))
