-- One office alone: with office 1 and every ref its own nothing is the other's in any state of a run, so the run is what it was before there were two offices.
use Prim.Native.Nat.{ℕ, suc}
use mathlib.Core.Path.{◌≡◌, refl, sym, ap, ◌∙◌}
use mathlib.Core.Bool.{Bool, true, false, ◌||◌}
use mathlib.Core.List.{List, [], ◌∷◌}
use mathlib.Core.Option.{Option, none, some}
use lib.Dec.{eqb}
use borrow.Author.Tests.{eqb-true, not-false}
use borrow.Table.Steps.{cases}
use Rattle.rules.specs.Words.{if_some, some_with, all, any, first_of}
use Rattle.rules.specs.Replies.{accepted}
use Rattle.rules.specs.Offices.{first_office}
use Rattle.rules.specs.Register.{NamedRef, FileEntry, Metadata, Update, Terms, State}
use Rattle.rules.specs.Register.Outcome.{Accepted}
use Rattle.rules.specs.Register.Update.{AssignUuid, UpgradeFormatVersion, SetLocation, AddSnapshot, SetBranchSnapshot, RemoveSnapshots, SetRef, RemoveRef, AddSchema, SetCurrentSchema, RemoveSchemas, AddSortOrder, SetDefaultSortOrder, SetStatistics, RemoveStatistics, AddPartitionSpec, SetDefaultPartitionSpec, RemovePartitionSpecs, NotFormed}
use Rattle.rules.specs.WellFormed.{file_name_formed, metadata_formed}
use Rattle.rules.specs.SnapshotUpdates.{held_snapshots}
use Rattle.rules.specs.RefUpdates.{has_name, ref_named}
use Rattle.rules.specs.Others.{is_second, is_others_ref, others_refs, is_needed, is_others}
use Rattle.rules.specs.Updates.{update_number, effect}
use Rattle.rules.specs.Run.{Ran, run_from, started, close_ran, start_formed, start_checks, run}
use Rattle.rules.specs.Run.Ran.{Stopped, Reached}
use Rattle.rules.specs.OneOffice.{number_alone, run_from_alone, close_ran_alone, start_checks_alone, run_alone}
use Rattle.rules.proofs.Checks.{both, and_left, neither, passed}
use Rattle.rules.proofs.Tables.{all_head, all_tail, all_first, any_none}
use Rattle.rules.proofs.Replay.Lists.{any_kept}
use Rattle.rules.proofs.Sound.Metadata.{Sound, formed_sound}
use Rattle.rules.proofs.Sound.Updates.{accepted_own, effect_sound}
use Rattle.rules.proofs.Offices.Refs.{step_others_refs, office_refs_stay}

-- ---- every ref is the office's own

module _ (office : ℕ) where
  abbrev is_own : NamedRef → Bool
  is_own r = eqb r.owner office

  -- then the other has none, and the other way round
  own_none : (l : List NamedRef) → all is_own l ≡ true → others_refs office l ≡ []
  own_none [] h = refl
  own_none (r ∷ l) h = rw (all_head is_own r l h) (own_none l (all_tail is_own r l h))

  none_own : (l : List NamedRef) → others_refs office l ≡ [] → all is_own l ≡ true
  none_own [] e = refl
  none_own (r ∷ l) e =
      cases (is_own r)
      (λ t. both t (none_own l (rw t at e)))
      (λ f. let q : r ∷ others_refs office l ≡ [] = rw f at e in cc)

  -- no name is the other's
  own_named : (name : List ℕ) (l : List NamedRef) → all is_own l ≡ true → some_with (is_others_ref office) (ref_named name l) ≡ false
  own_named name l h = go (ref_named name l) (all_first is_own (has_name name) l h)
    where
      go : (o : Option NamedRef) → if_some is_own o ≡ true → some_with (is_others_ref office) o ≡ false
      go none e = refl
      go (some r) e = rw e

-- so no update is the other's
not_others : (office : ℕ) (u : Update) (m : Metadata) → is_second office ≡ false → all (is_own office) m.refs ≡ true → is_others office u m ≡ false
unfolding is_others
not_others office (AssignUuid uuid) m s h = s
not_others office (UpgradeFormatVersion v) m s h = s
not_others office (SetLocation location) m s h = s
not_others office (AddSnapshot x) m s h = refl
not_others office (SetBranchSnapshot name x) m s h = rw s (own_named office name m.refs h)
not_others office (RemoveSnapshots ids) m s h = any_none (is_needed office m) (λ id. rw (own_none office m.refs h, s)) (held_snapshots ids m.snapshots)
not_others office (SetRef name r) m s h = rw s (own_named office name m.refs h)
not_others office (RemoveRef name) m s h = rw s (own_named office name m.refs h)
not_others office (AddSchema o) m s h = s
not_others office (SetCurrentSchema id) m s h = s
not_others office (RemoveSchemas ids) m s h = s
not_others office (AddSortOrder o) m s h = s
not_others office (SetDefaultSortOrder id) m s h = s
not_others office (SetStatistics which f) m s h = refl
not_others office (RemoveStatistics which id) m s h = refl
not_others office (AddPartitionSpec o) m s h = s
not_others office (SetDefaultPartitionSpec id) m s h = s
not_others office (RemovePartitionSpecs ids) m s h = s
not_others office (NotFormed counts) m s h = refl

-- ---- whether any update can be the other's, asked of the refs

-- no ref is the other's: each is the office's own
none_others_own : (office : ℕ) (l : List NamedRef) → any (is_others_ref office) l ≡ false → all (is_own office) l ≡ true
none_others_own office [] e = refl
none_others_own office (r ∷ l) e =
    let n = neither (is_others_ref office r) (any (is_others_ref office) l) e in
    both (not-false (is_own office r) n.0) (none_others_own office l n.1)

-- where it is not the second office's run and no ref is the other's, no update is
pub alone_not_others : (office : ℕ) (u : Update) (m : Metadata) → (is_second office || any (is_others_ref office) m.refs) ≡ false → is_others office u m ≡ false
alone_not_others office u m e =
    let n = neither (is_second office) (any (is_others_ref office) m.refs) e in
    not_others office u m n.0 (none_others_own office m.refs n.1)

-- an accepted update leaves that question its answer
pub shared_stays : (terms : Terms) (u : Update) (st : State) → Sound st.metadata → update_number terms u st ≡ accepted
    → (is_second terms.office || any (is_others_ref terms.office) (effect terms u st).metadata.refs) ≡ (is_second terms.office || any (is_others_ref terms.office) st.metadata.refs)
shared_stays terms u st k e = ap (λ (t : Bool). is_second terms.office || t) (sym (any_kept p p (effect terms u st).metadata.refs (λ x f. f)) ∙ ap (any p) (step_others_refs terms u st k (accepted_own terms u st e)) ∙ any_kept p p st.metadata.refs (λ x f. f))
  where
    p : NamedRef → Bool
    p = is_others_ref terms.office

-- ---- the run of office 1

module _ (terms : Terms) (one : terms.office ≡ first_office) where
  first's : is_second terms.office ≡ false
  first's = rw one

  -- without 35 an update has the number that it had
  number_alone_lem : (u : Update) (st : State) → all (is_own terms.office) st.metadata.refs ≡ true → update_number terms u st ≡ number_alone terms u st
  unfolding update_number number_alone
  number_alone_lem u st h = rw (not_others terms.office u st.metadata first's h)

  -- and every ref stays the office's own
  step_alone : (u : Update) (st : State) → Sound st.metadata → update_number terms u st ≡ accepted → all (is_own terms.office) st.metadata.refs ≡ true → all (is_own terms.office) (effect terms u st).metadata.refs ≡ true
  step_alone u st k e h = none_own terms.office (effect terms u st).metadata.refs (step_others_refs terms u st k (accepted_own terms u st e) ∙ own_none terms.office st.metadata.refs h)

  from_alone : (us : List Update) (place : ℕ) (st : State) → Sound st.metadata → all (is_own terms.office) st.metadata.refs ≡ true → run_from terms us place st ≡ run_from_alone terms us place st
  unfolding run_from run_from_alone
  from_alone [] place st k h = refl
  from_alone (u ∷ us) place st k h =
      let n : update_number terms u st ≡ number_alone terms u st = number_alone_lem u st h in
      cases (eqb (update_number terms u st) accepted)
      (λ t. let e : update_number terms u st ≡ accepted = eqb-true (update_number terms u st) accepted t in
      rw (← n, t) (from_alone us (suc place) (effect terms u st) (effect_sound terms u st (rw one) e k) (step_alone u st k e h)))
      (λ f. rw (← n, f))

  close_alone : (us : List Update) (r : Ran) → close_ran terms us r ≡ close_ran_alone terms us r
  close_alone us (Stopped number at) = refl
  close_alone us (Reached st) = rw first's

  start_alone : (m : Metadata) (us : List Update) → first_of (start_checks terms m us) ≡ first_of (start_checks_alone terms m us)
  unfolding start_checks start_checks_alone
  start_alone m us = rw one

  pub one_office_as_before : (m : Metadata) (us : List Update) → all (λ (r : NamedRef). eqb r.owner first_office) m.refs ≡ true → run terms m us ≡ run_alone terms m us
  unfolding run start_checks run_alone
  one_office_as_before m us h =
      let number : ℕ = first_of (start_checks terms m us) in
      cases (eqb number accepted)
      (λ t. let p = passed (start_checks terms m us) refl (eqb-true number accepted t) in
      let f : metadata_formed m ≡ true = and_left (metadata_formed m) (if_some file_name_formed terms.file) (not-false (start_formed terms m) p.0) in
      rw (← (start_alone m us), t) (ap (close_ran terms us) (from_alone us 0 (started m) (formed_sound m f) (rw one h)) ∙ close_alone us (run_from_alone terms us 0 (started m))))
      (λ f. rw (← (start_alone m us), f))

  -- and every ref stays office 1's
  pub one_office_stays : (m : Metadata) (us : List Update) (m' : Metadata) (log : List Update) (expired : List FileEntry) → all (λ (r : NamedRef). eqb r.owner first_office) m.refs ≡ true → run terms m us ≡ Accepted m' log expired
      → all (λ (r : NamedRef). eqb r.owner first_office) m'.refs ≡ true
  one_office_stays m us m' log expired h e = none_own first_office m'.refs ((rw one at (office_refs_stay terms m us m' log expired e)) ∙ own_none first_office m.refs h)
