-- No row id twice, of records: what an answer's changes add, and that metadata which is apart is answered by metadata which is apart.
use Prim.Native.Nat.{ℕ}
use mathlib.Core.Path.{◌≡◌, refl}
use mathlib.Core.Bool.{Bool, true, false, ◌&&◌}
use mathlib.Core.List.{List, []}
use lib.Dec.{eqb}
use borrow.Author.Tests.{eqb-true, eqb-false}
use Rattle.records.specs.Blanks.{no_updates}
use Rattle.records.specs.declared.metadata.TableMetadata.{TableMetadata}
use Rattle.records.specs.declared.update.UpdateList.{UpdateList}
use Rattle.records.specs.declared.run.RunTerms.{RunTerms}
use Rattle.records.specs.declared.run.Answer.{Answer}
use Rattle.rules.specs.Register.{Snapshot}
use Rattle.rules.specs.WellFormed.{metadata_formed}
use Rattle.rules.specs.Blanks.{is_tidy_metadata}
use Rattle.rules.specs.Layout.{read_metadata}
use Rattle.rules.specs.Kinds.{read_updates}
use Rattle.rules.specs.Answer.{Lent, read_terms, answer}
use Rattle.rules.specs.Rows.{new_snapshots, is_apart, is_formed_and_apart}
use Rattle.rules.proofs.Checks.{both, and_right}
use Rattle.rules.proofs.Rows.Runs.{Adds, adds_none, logs_new, run_adds}
use Rattle.rules.proofs.Rows.Apart.{apart_stays}
use Rattle.rules.proofs.Answer.Laws.{Formed, Unchanged, answer_formed, answer_read, answer_refused}

-- the snapshots that an answer's changes add
abbrev pub new_in : Answer → List Snapshot
new_in a = new_snapshots (read_updates a.changes)

none_in : new_snapshots (read_updates no_updates) ≡ []
unfolding new_snapshots read_updates no_updates
none_in = refl

-- a refused answer adds none, and has the metadata that was given
unchanged_adds : (m : TableMetadata) (a : Answer) → Unchanged m a → (read_metadata m).fields.version ≡ 3 → Adds (read_metadata m) (read_metadata a.metadata) (new_in a)
unchanged_adds m a u v = rw (u.metadata, u.changes, none_in) (adds_none (read_metadata m) v)

-- what holds where a number is 0, and where it is not, holds in any case
accepted_or_not : {P : Type 0} (number : ℕ) → (number ≡ 0 → P) → ((number ≡ 0 → ⊥) → P) → P
accepted_or_not {P} number f g = go (eqb number 0) refl
  where
    go : (b : Bool) → eqb number 0 ≡ b → P
    go true e = f (eqb-true number 0 e)
    go false e = g (eqb-false number 0 e)

module _ (m : TableMetadata) (us : UpdateList) (terms : RunTerms) (lent : Lent) where
  -- from version 3 an accepted answer's changes add what the additions and branch commits of its list are to add, in order
  pub answer_logs_new : (read_metadata m).fields.version ≡ 3 → (answer m us terms lent).number ≡ 0 → new_in (answer m us terms lent) ≡ new_snapshots (read_updates us)
  answer_logs_new v e = logs_new (read_terms terms lent) (read_metadata m) (read_updates us) _ _ _ (answer_read m us terms lent e) v

  -- from version 3 an answer, accepted or not, leads to its metadata by what its changes add
  pub answer_adds : (read_metadata m).fields.version ≡ 3 → Adds (read_metadata m) (read_metadata (answer m us terms lent).metadata) (new_in (answer m us terms lent))
  answer_adds v =
      accepted_or_not (answer m us terms lent).number
      (λ e. run_adds (read_terms terms lent) (read_metadata m) (read_updates us) _ _ _ (answer_read m us terms lent e) v)
      (λ n. unchanged_adds m (answer m us terms lent) (answer_refused m us terms lent n) v)

  -- metadata that is apart is answered by metadata that is apart
  pub answer_apart_stays : is_apart (read_metadata m) ≡ true → is_apart (read_metadata (answer m us terms lent).metadata) ≡ true
  answer_apart_stays h =
      accepted_or_not (answer m us terms lent).number
      (λ e. apart_stays (read_terms terms lent) (read_metadata m) (read_updates us) _ _ _ (answer_read m us terms lent e) h)
      (λ n. rw (answer_refused m us terms lent n).metadata h)

  -- and so is metadata of which `row_ranges::rows_apart` is true, well formed with blank unused places: an accepted answer is, and a refused one is the start
  pub answer_rows_apart_stays : is_formed_and_apart m ≡ true → is_formed_and_apart (answer m us terms lent).metadata ≡ true
  answer_rows_apart_stays h =
      accepted_or_not (answer m us terms lent).number
      (λ e. let f : Formed (answer m us terms lent).metadata = answer_formed m us terms lent e in
      both (both f.tidy f.formed) (answer_apart_stays (and_right (is_tidy_metadata m && metadata_formed (read_metadata m)) (is_apart (read_metadata m)) h)))
      (λ n. rw (answer_refused m us terms lent n).metadata h)
