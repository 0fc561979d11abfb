-- The start of a run: its number, and what the answer is where it is 0 and where it is not.
use Prim.Native.Nat.{ℕ, ◌≤◌, ◌<◌}
use native.Mathlib.Omega.{arith}
use mathlib.Core.Path.{◌≡◌, refl}
use mathlib.Core.Bool.{Bool, true, false, cond, not, ◌&&◌}
use lib.Dec.{eqb, leb}
use lib.ListN.{length}
use borrow.Author.Tests.{leb-true, le-leb, lt-leb, ne_eqb, not-false}
use Rattle.records.specs.declared.metadata.TableMetadata.{TableMetadata}
use Rattle.records.specs.declared.update.UpdateList.{UpdateList}
use Rattle.records.specs.declared.run.RunTerms.{RunTerms}
use Rattle.rules.specs.Words.{if_some}
use Rattle.rules.specs.Replies.{accepted, start_not_formed}
use Rattle.rules.specs.Capacities.{list_room}
use Rattle.rules.specs.Window.{is_outside}
use Rattle.rules.specs.Offices.{is_office}
use Rattle.rules.specs.Register.{Outcome}
use Rattle.rules.specs.Register.Outcome.{Refused}
use Rattle.rules.specs.WellFormed.{metadata_formed, file_name_formed}
use Rattle.rules.specs.Run.{list_sum, run_from, started, close_ran, start_checks, run}
use Rattle.rules.specs.Blanks.{is_tidy_metadata}
use Rattle.rules.specs.Layout.{given, counted, read_text, read_metadata}
use Rattle.rules.specs.Kinds.{read_updates}
use Rattle.rules.specs.Answer.{Lent, read_terms, laid_outcome, answer}
use Rattle.rules.proofs.Checks.{only_then, both, and_left, and_right, passed}
use Rattle.rules.proofs.Sound.Accepted.{run_started}
use Rattle.rules.proofs.Slots.Relaid.{length_counted}
use Rattle.records.specs.Blanks.{no_update}
use Rattle.start.specs.Start.{none_lent, start_number}
use Rattle.start.proofs.Reading.{weighs}

module _ (m : TableMetadata) (us : UpdateList) (terms : RunTerms) where
  -- the name of the current file is not too long
  abbrev file_fits : Bool
  file_fits = if_some file_name_formed (given terms.has_file (read_text terms.file))

  pub record Starts : Type 0 where
    pub tidy : is_tidy_metadata m ≡ true
    pub formed : metadata_formed (read_metadata m) ≡ true
    pub file : if_some file_name_formed (given terms.has_file (read_text terms.file)) ≡ true
    pub sum : list_sum (read_updates us) ≤ 64
    pub tolerated : is_outside terms.tolerance_ms.0 ≡ false
    pub known : is_office terms.office ≡ true

  pub starts : start_number m us terms ≡ 0 → Starts
  unfolding start_number start_checks
  starts e =
      let k = only_then (is_tidy_metadata m) (λ (z : start_not_formed ≡ 0). omega arith) e in
      let p = passed (start_checks (read_terms terms none_lent) (read_metadata m) (read_updates us)) refl k.1 in
      let f = not-false (metadata_formed (read_metadata m) && file_fits) p.0 in
      record {
        tidy = k.0;
        formed = and_left (metadata_formed (read_metadata m)) file_fits f;
        file = and_right (metadata_formed (read_metadata m)) file_fits f;
        sum = leb-true (list_sum (read_updates us)) list_room (not-false (leb (list_sum (read_updates us)) list_room) p.1.0);
        tolerated = p.1.1.0;
        known = not-false (is_office terms.office) p.1.1.1.0;
      }

  -- a run that starts is the run of its updates and the close
  pub started_answer : (lent : Lent) → Starts → answer m us terms lent ≡ laid_outcome m (close_ran (read_terms terms lent) (read_updates us) (run_from (read_terms terms lent) (read_updates us) 0 (started (read_metadata m))))
  unfolding answer
  started_answer lent s = rw (s.tidy, run_started (read_terms terms lent) (read_metadata m) (read_updates us) (both s.formed s.file) s.sum s.tolerated s.known)

  pub refused_start : (lent : Lent) (n : ℕ) → start_number m us terms ≡ n → (n ≡ 0 → ⊥) → laid_outcome m (Refused n 0) ≡ answer m us terms lent
  unfolding start_number answer run start_checks
  refused_start lent n e z = go (is_tidy_metadata m) _ _ e
    where
      go : (tidy : Bool) (k : ℕ) (o : Outcome) → cond tidy k start_not_formed ≡ n → laid_outcome m (Refused n 0) ≡ laid_outcome m (cond tidy (cond (eqb k accepted) o (Refused k 0)) (Refused start_not_formed 0))
      go true k o e = rw (e, ne_eqb n 0 z)
      go false k o e = rw (← e)

-- ---- the sum

pub sum_counts : (us : UpdateList) → us.count ≤ list_sum (read_updates us)
unfolding list_sum read_updates
sum_counts us = omega (arith, weighs (counted no_update us.items us.count), length_counted no_update us.items us.count)

-- ---- the tests of the start

and_false : (a : Bool) → (a && false) ≡ false
and_false true = refl
and_false false = refl

module _ (m : TableMetadata) (us : UpdateList) (terms : RunTerms) where
  pub file_fits_lem : (terms.has_file ≡ true → terms.file.len ≤ 96) → if_some file_name_formed (given terms.has_file (read_text terms.file)) ≡ true
  file_fits_lem h = go terms.has_file h
    where
      go : (b : Bool) → (b ≡ true → terms.file.len ≤ 96) → if_some file_name_formed (given b (read_text terms.file)) ≡ true
      go true h = le-leb (length (read_text terms.file)) 96 (omega (arith, h refl, length_counted 0 terms.file.bytes terms.file.len))
      go false h = refl

  pub file_short : if_some file_name_formed (given terms.has_file (read_text terms.file)) ≡ true → terms.has_file ≡ true → terms.file.len ≤ 96
  file_short e q = omega (arith, leb-true (length (read_text terms.file)) 96 (rw q at e), length_counted 0 terms.file.bytes terms.file.len)

  -- 1, where one of the three tests fails
  one : (tidy formed fits : Bool) (k : ℕ) → (tidy && formed && fits) ≡ false → 1 ≡ cond tidy (cond (not (formed && fits)) start_not_formed k) start_not_formed
  one true formed fits k e = rw e
  one false formed fits k e = refl

  pub not_formed_lem : is_tidy_metadata m && metadata_formed (read_metadata m) ≡ false → 1 ≡ start_number m us terms
  unfolding start_number start_checks
  not_formed_lem e = one (is_tidy_metadata m) (metadata_formed (read_metadata m)) _ _ (rw e)

  pub file_long : terms.has_file ≡ true → 96 < terms.file.len → 1 ≡ start_number m us terms
  unfolding start_number start_checks
  file_long e h =
      let l : leb (length (read_text terms.file)) 96 ≡ false = lt-leb (length (read_text terms.file)) 96 (omega (arith, length_counted 0 terms.file.bytes terms.file.len)) in
      one (is_tidy_metadata m) (metadata_formed (read_metadata m)) _ _ (rw (e, l) (and_false (is_tidy_metadata m && metadata_formed (read_metadata m))))

  module _ (f : is_tidy_metadata m && metadata_formed (read_metadata m) ≡ true) (h : terms.has_file ≡ true → terms.file.len ≤ 96) where
    formed : (metadata_formed (read_metadata m) && if_some file_name_formed (given terms.has_file (read_text terms.file))) ≡ true
    formed = both (and_right (is_tidy_metadata m) (metadata_formed (read_metadata m)) f) (file_fits_lem h)

    tidy : is_tidy_metadata m ≡ true
    tidy = and_left (is_tidy_metadata m) (metadata_formed (read_metadata m)) f

    pub too_many : 64 < list_sum (read_updates us) → 2 ≡ start_number m us terms
    unfolding start_number start_checks
    too_many s = rw (tidy, formed, lt-leb (list_sum (read_updates us)) 64 s)

    module _ (s : list_sum (read_updates us) ≤ 64) where
      pub untolerated : is_outside terms.tolerance_ms.0 ≡ true → 26 ≡ start_number m us terms
      unfolding start_number start_checks
      untolerated o = rw (tidy, formed, le-leb (list_sum (read_updates us)) 64 s, o)

      module _ (o : is_outside terms.tolerance_ms.0 ≡ false) where
        pub unknown : is_office terms.office ≡ false → 39 ≡ start_number m us terms
        unfolding start_number start_checks
        unknown k = rw (tidy, formed, le-leb (list_sum (read_updates us)) 64 s, o, k)

        pub starts_0 : is_office terms.office ≡ true → 0 ≡ start_number m us terms
        unfolding start_number start_checks
        starts_0 k = rw (tidy, formed, le-leb (list_sum (read_updates us)) 64 s, o, k)
