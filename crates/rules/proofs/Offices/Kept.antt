-- What is kept for the first office: a run of the second leaves version, uuid, location, schemas, orders and specs as they are, and is refused neither with 21 nor with 22.
use Prim.Native.Nat.{ℕ}
use mathlib.Core.Path.{◌≡◌, refl, sym, ap, ◌∙◌, subst}
use mathlib.Core.Bool.{Bool, true, false, not, ◌&&◌, ◌||◌, false≢true, true≢false}
use mathlib.Core.List.{List, [], ◌∷◌}
use lib.Dec.{eqb}
use lib.ListN.{length}
use borrow.Author.Tests.{eqb-true, not-true, not-false}
use borrow.Table.Steps.{cases}
use Rattle.rules.specs.Words.{if_some, all, first_of, Check}
use Rattle.rules.specs.Replies.{accepted, log_ends_elsewhere, main_disagrees}
use Rattle.rules.specs.Capacities.{ref_room}
use Rattle.rules.specs.Names.{is_main}
use Rattle.rules.specs.Offices.{first_office, second_office, is_office}
use Rattle.rules.specs.Register.{NamedRef, FileEntry, Metadata, Update, Terms, State, Outcome}
use Rattle.rules.specs.Register.Outcome.{Refused, Accepted}
use Rattle.rules.specs.WellFormed.{name_formed, file_name_formed, reference_formed, owner_formed, ref_formed, ref_below, refs_formed, main_ref, main_snapshot, main_agrees, metadata_formed}
use Rattle.rules.specs.ChangeLog.{logs_main, logs_removal}
use Rattle.rules.specs.Others.{is_second, is_others_ref, others_refs}
use Rattle.rules.specs.Close.{intermediates, ends_elsewhere, close_checks}
use Rattle.rules.specs.Run.{Ran, run_from, started, close, closing_log, close_ran, start_formed, start_checks, run}
use Rattle.rules.specs.Run.Ran.{Stopped, Reached}
use Rattle.rules.proofs.Checks.{by_test, and_left, and_right, by_either, parts, passed}
use Rattle.rules.proofs.Tables.{all_head, all_tail, first_among, table_parts_lem}
use Rattle.rules.proofs.Sound.Metadata.{Sound, formed_sound, formed_agrees}
use Rattle.rules.proofs.Answer.Places.{may_be_of_update, OfUpdates, updates_numbered}
use Rattle.rules.proofs.Offices.Refs.{KeptSound, run_kept_sound}
use Rattle.rules.proofs.Offices.Second.{FirstOffices, first_offices, run_leaves, closes_without_log, accepted_leaves}

-- ---- what stays

-- version, uuid, location, last column id, last partition id, schemas, orders, specs, and which of them are current or default
pub record Kept (m m' : Metadata) : Type 0 where
  pub version : m'.fields.version ≡ m.fields.version
  pub uuid : m'.fields.uuid ≡ m.fields.uuid
  pub location : m'.fields.location ≡ m.fields.location
  pub last_column : m'.fields.last_column ≡ m.fields.last_column
  pub current_schema : m'.fields.current_schema ≡ m.fields.current_schema
  pub default_order : m'.fields.default_order ≡ m.fields.default_order
  pub default_spec : m'.fields.default_spec ≡ m.fields.default_spec
  pub last_partition : m'.fields.last_partition ≡ m.fields.last_partition
  pub schemas : m'.schemas ≡ m.schemas
  pub orders : m'.orders ≡ m.orders
  pub specs : m'.specs ≡ m.specs

-- what the second office leaves has all of it
pub kept_left : {m m' : Metadata} → first_offices m' ≡ first_offices m → Kept m m'
kept_left k =
    record {
      version = ap (λ (f : FirstOffices). f.version) k;
      uuid = ap (λ (f : FirstOffices). f.uuid) k;
      location = ap (λ (f : FirstOffices). f.location) k;
      last_column = ap (λ (f : FirstOffices). f.last_column) k;
      current_schema = ap (λ (f : FirstOffices). f.current_schema) k;
      default_order = ap (λ (f : FirstOffices). f.default_order) k;
      default_spec = ap (λ (f : FirstOffices). f.default_spec) k;
      last_partition = ap (λ (f : FirstOffices). f.last_partition) k;
      schemas = ap (λ (f : FirstOffices). f.schemas) k;
      orders = ap (λ (f : FirstOffices). f.orders) k;
      specs = ap (λ (f : FirstOffices). f.specs) k;
    }

pub office_kept : (terms : Terms) (m : Metadata) (us : List Update) (m' : Metadata) (log : List Update) (expired : List FileEntry) → is_second terms.office ≡ true → run terms m us ≡ Accepted m' log expired → Kept m m'
office_kept terms m us m' log expired s e = kept_left (accepted_leaves terms m us m' log expired s e)

-- ---- 21 and 22

-- `main` is the first office's
main_others : (office : ℕ) (m : Metadata) → is_second office ≡ true → Sound m → main_ref (others_refs office m.refs) ≡ main_ref m.refs
unfolding refs_formed
main_others office m s k = first_among (λ (r : NamedRef). is_main r.name) (is_others_ref office) ref_formed its m.refs (table_parts_lem ref_room ref_formed ref_below m.refs k.refs).1
  where
    its : (r : NamedRef) → ref_formed r ≡ true → is_main r.name ≡ true → is_others_ref office r ≡ true
    its r f e =
        let o : office ≡ second_office = eqb-true office second_office s in
        let w : owner_formed r ≡ true = (parts (name_formed r.name) (reference_formed r.reference ∷ owner_formed r ∷ []) f).1.1.0 in
        by_either (eqb r.owner first_office) (eqb r.owner second_office && not (is_main r.name))
        (λ p. rw (o, eqb-true r.owner first_office p))
        (λ p. absurd (true≢false (sym e ∙ not-true (is_main r.name) (and_right (eqb r.owner second_office) (not (is_main r.name)) p))))
        w

-- where the current snapshot and `main` are those of metadata in which they agree, they agree
agrees_alike : (m m' : Metadata) → m'.fields.current ≡ m.fields.current → main_ref m'.refs ≡ main_ref m.refs → main_agrees m ≡ true → main_agrees m' ≡ true
unfolding main_agrees
agrees_alike m m' c r h = rw (c, main_snapshot, r) h

-- before the close of a run of the second office they agree as they did at the start
agrees_on : (terms : Terms) (us : List Update) (m : Metadata) (st : State) → is_office terms.office ≡ true → is_second terms.office ≡ true → metadata_formed m ≡ true → run_from terms us 0 (started m) ≡ Reached st → main_agrees st.metadata ≡ true
agrees_on terms us m st o s f e =
    let k : Sound m = formed_sound m f in
    let p : KeptSound terms.office m st = run_kept_sound terms us m st o k e in
    agrees_alike m st.metadata
    (ap (λ (x : FirstOffices). x.current) (run_leaves terms us m st s e))
    (sym (main_others terms.office st.metadata s p.sound) ∙ ap main_ref p.others ∙ main_others terms.office m s k)
    (formed_agrees m f)

-- the two numbers of the close that speak of the snapshot log and of `main`
abbrev is_of_history : ℕ → Bool
is_of_history number = eqb number log_ends_elsewhere || eqb number main_disagrees

-- checks of which none with such a number fails do not answer with one
first_spares : (cs : List Check) → all (λ (c : Check). not (is_of_history c.1) || not c.0) cs ≡ true → is_of_history (first_of cs) ≡ false
first_spares [] h = refl
first_spares (c ∷ cs) h =
    let spared : Check → Bool = λ x. not (is_of_history x.1) || not x.0 in
    cases c.0
    (λ t. rw t (by_either (not (is_of_history c.1)) (not c.0) (not-true (is_of_history c.1)) (λ f. absurd (true≢false (sym t ∙ not-true c.0 f))) (all_head spared c cs h)))
    (λ f. rw f (first_spares cs (all_tail spared c cs h)))

-- no number of an update is one
update_spares : (number : ℕ) → may_be_of_update number ≡ true → is_of_history number ≡ false
update_spares number h =
    cases (is_of_history number)
    (by_either (eqb number log_ends_elsewhere) (eqb number main_disagrees)
    (λ q. absurd (false≢true (rw (eqb-true number log_ends_elsewhere q) at h)))
    (λ q. absurd (false≢true (rw (eqb-true number main_disagrees q) at h))))
    (λ f. f)

-- a refusal has neither of the two numbers
abbrev Spares : Outcome → Type 0
Spares (Refused number place) = is_of_history number ≡ false
Spares (Accepted m log expired) = Unit {0}

close_spares : (terms : Terms) (place : ℕ) (st : State) → is_second terms.office ≡ true → main_agrees st.metadata ≡ true → Spares (close terms place (closing_log terms st) st)
unfolding close close_checks ends_elsewhere intermediates logs_main logs_removal
close_spares terms place st s h =
    rw (closes_without_log terms st s)
    (by_test Spares (eqb (first_of (close_checks terms [] st.metadata)) accepted) (λ e. tt) (λ e. first_spares (close_checks terms [] st.metadata) (rw h)))

module _ (terms : Terms) (m : Metadata) (us : List Update) (s : is_second terms.office ≡ true) where
  run_spares : Spares (run terms m us)
  unfolding run start_checks
  run_spares =
      let n : ℕ = first_of (start_checks terms m us) in
      by_test Spares (eqb n accepted)
      (λ e. let p = passed (start_checks terms m us) refl (eqb-true n accepted e) in
      let f : metadata_formed m ≡ true = and_left (metadata_formed m) (if_some file_name_formed terms.file) (not-false (start_formed terms m) p.0) in
      closing (not-false (is_office terms.office) p.1.1.1.0) f (run_from terms us 0 (started m)) refl (updates_numbered terms us 0 (started m)))
      (λ e. first_spares (start_checks terms m us) refl)
    where
      closing : is_office terms.office ≡ true → metadata_formed m ≡ true → (r : Ran) → run_from terms us 0 (started m) ≡ r → OfUpdates r → Spares (close_ran terms us r)
      closing o f (Stopped number at) e h = update_spares number h
      closing o f (Reached st) e h = close_spares terms (length us) st s (agrees_on terms us m st o s f e)

  -- the second office is refused neither with 21 nor with 22
  pub office_no_log_refusal : (number place : ℕ) → run terms m us ≡ Refused number place → (number ≡ log_ends_elsewhere → ⊥) × (number ≡ main_disagrees → ⊥)
  office_no_log_refusal number place e =
      let h : is_of_history number ≡ false = subst Spares e run_spares in
      (λ q. true≢false (rw q at h), λ q. true≢false (rw q at h))
