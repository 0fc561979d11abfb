-- The number 1 of an answer is that of its start: it is given exactly where the start is not well formed, and by no update and no close.
use Prim.Native.Nat.{ℕ}
use native.Mathlib.Omega.{arith}
use mathlib.Core.Path.{◌≡◌}
use mathlib.Core.Bool.{Bool, true, false, not, ◌&&◌}
use mathlib.Core.List.{List, [], ◌∷◌}
use lib.Dec.{eqb, leb}
use borrow.Author.Tests.{eqb-false}
use borrow.Table.Steps.{cases}
use Rattle.records.specs.declared.metadata.TableMetadata.{TableMetadata}
use Rattle.records.specs.declared.update.UpdateList.{UpdateList}
use Rattle.records.specs.declared.run.RunTerms.{RunTerms}
use Rattle.rules.specs.Words.{first_of}
use Rattle.rules.specs.Replies.{accepted, start_not_formed, list_too_long, tolerance_outside, office_unknown}
use Rattle.rules.specs.Capacities.{list_room}
use Rattle.rules.specs.Window.{is_outside}
use Rattle.rules.specs.Offices.{is_office}
use Rattle.rules.specs.Register.{Metadata, Update, Terms, Outcome}
use Rattle.rules.specs.Register.Outcome.{Refused, Accepted}
use Rattle.rules.specs.Close.{close_checks}
use Rattle.rules.specs.Run.{Ran, run_from, started, close, closing_log, close_ran, list_sum, start_formed, start_checks, run}
use Rattle.rules.specs.Run.Ran.{Stopped, Reached}
use Rattle.rules.specs.Blanks.{is_tidy_metadata}
use Rattle.rules.specs.Layout.{read_metadata}
use Rattle.rules.specs.Kinds.{read_updates}
use Rattle.rules.specs.Answer.{Lent, read_terms, laid_outcome, answer}
use Rattle.rules.proofs.Checks.{by_test, and_left, and_right}
use Rattle.rules.proofs.Answer.Places.{OfUpdates, close_numbered, update_from_3, close_from_20, updates_numbered}

-- a refusal has another number than 1
abbrev NotOne : Outcome → Type 0
NotOne (Refused number place) = number ≡ start_not_formed → ⊥
NotOne (Accepted m log expired) = Unit {0}

close_not_one : (terms : Terms) (us : List Update) (r : Ran) → OfUpdates r → NotOne (close_ran terms us r)
unfolding close
close_not_one terms us (Stopped number at) h = λ z. omega (arith, update_from_3 number h, z)
close_not_one terms us (Reached st) h =
    let n : ℕ = first_of (close_checks terms (closing_log terms st) st.metadata) in
    by_test NotOne (eqb n accepted) (λ e. tt)
    (λ e z. omega (arith, close_from_20 n (close_numbered terms (closing_log terms st) st.metadata (eqb-false n accepted e)), z))

-- a run from a well-formed start
run_not_one : (terms : Terms) (m : Metadata) (us : List Update) → start_formed terms m ≡ true → NotOne (run terms m us)
unfolding run start_checks
run_not_one terms m us f =
    rw f
    (by_test NotOne (eqb (later (not (leb (list_sum us) list_room)) (is_outside terms.tolerance) (not (is_office terms.office))) accepted)
    (λ e. close_not_one terms us (run_from terms us 0 (started m)) (updates_numbered terms us 0 (started m)))
    (λ e. later_not_one (not (leb (list_sum us) list_room)) (is_outside terms.tolerance) (not (is_office terms.office))))
  where
    later : Bool → Bool → Bool → ℕ
    later long outside unknown = first_of ((long, list_too_long) ∷ (outside, tolerance_outside) ∷ (unknown, office_unknown) ∷ [])

    later_not_one : (long outside unknown : Bool) → later long outside unknown ≡ start_not_formed → ⊥
    later_not_one true outside unknown z = omega (arith, z)
    later_not_one false true unknown z = omega (arith, z)
    later_not_one false false true z = omega (arith, z)
    later_not_one false false false z = omega (arith, z)

module _ (m : TableMetadata) (us : UpdateList) (terms : RunTerms) (lent : Lent) where
  -- the metadata is tidy and well formed, and the current file's name is not too long
  abbrev pub is_formed_start : Bool
  is_formed_start = is_tidy_metadata m && start_formed (read_terms terms lent) (read_metadata m)

  pub not_formed_one : is_formed_start ≡ false → (answer m us terms lent).number ≡ start_not_formed
  unfolding answer laid_outcome run start_checks
  not_formed_one e =
      cases (is_tidy_metadata m)
      (λ t. let f : start_formed (read_terms terms lent) (read_metadata m) ≡ false = rw t at e in rw (t, f))
      (λ f. rw f)

  pub formed_not_one : is_formed_start ≡ true → (answer m us terms lent).number ≡ start_not_formed → ⊥
  unfolding answer laid_outcome
  formed_not_one e =
      let t : is_tidy_metadata m ≡ true = and_left (is_tidy_metadata m) (start_formed (read_terms terms lent) (read_metadata m)) e in
      let f : start_formed (read_terms terms lent) (read_metadata m) ≡ true = and_right (is_tidy_metadata m) (start_formed (read_terms terms lent) (read_metadata m)) e in
      rw t (laid_not_one (run (read_terms terms lent) (read_metadata m) (read_updates us)) (run_not_one (read_terms terms lent) (read_metadata m) (read_updates us) f))
    where
      laid_not_one : (o : Outcome) → NotOne o → (laid_outcome m o).number ≡ start_not_formed → ⊥
      laid_not_one (Refused number place) h = h
      laid_not_one (Accepted m' log expired) h = λ z. let k : ◌≡◌ {A = ℕ} accepted start_not_formed = z in omega arith
