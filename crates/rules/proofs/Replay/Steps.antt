-- What it means that entries of a log replay a step, and that replays can be joined: the entries of two steps, one after the other.
use Prim.Native.Nat.{ℕ, suc, ◌+◌, ◌≤◌}
use mathlib.Core.Path.{◌≡◌, refl, sym, ap, ◌∙◌}
use mathlib.Core.Bool.{true, false}
use mathlib.Core.List.{List, [], ◌∷◌, ◌++◌, append-nil, append_assoc}
use native.Mathlib.Omega.{arith}
use lib.Dec.{eqb}
use borrow.Author.Tests.{eq-eqb}
use Rattle.rules.specs.Words.{all, first_of}
use Rattle.rules.specs.Register.{Update, Terms, State}
use Rattle.rules.specs.Register.Update.{AssignUuid, UpgradeFormatVersion, SetLocation, AddSnapshot, SetBranchSnapshot, RemoveSnapshots, SetRef, RemoveRef, AddSchema, SetCurrentSchema, RemoveSchemas, AddSortOrder, SetDefaultSortOrder, SetStatistics, RemoveStatistics, AddPartitionSpec, SetDefaultPartitionSpec, RemovePartitionSpecs, NotFormed}
use Rattle.rules.specs.WellFormed.{update_formed}
use Rattle.rules.specs.SingleUpdates.{upgrade_format_version_checks}
use Rattle.rules.specs.SnapshotUpdates.{add_snapshot_checks, add_snapshot}
use Rattle.rules.specs.RefUpdates.{set_ref_checks, set_branch_snapshot_checks}
use Rattle.rules.specs.SchemaUpdates.{add_schema_checks, set_current_schema_checks, remove_schemas_checks}
use Rattle.rules.specs.OrderUpdates.{add_sort_order_checks, set_default_sort_order_checks}
use Rattle.rules.specs.StatisticsUpdates.{set_statistics_checks}
use Rattle.rules.specs.SpecUpdates.{add_partition_spec_checks, set_default_partition_spec_checks, remove_partition_specs_checks}
use Rattle.rules.specs.Others.{is_others}
use Rattle.rules.specs.Updates.{offers_formed, checks, update_number, effect}
use Rattle.rules.specs.Run.{weight, list_sum, Ran, run_from}
use Rattle.rules.specs.Run.Ran.{Reached}
use Rattle.rules.specs.Replay.{strip}
use Rattle.rules.proofs.Checks.{only_then, both}
use Rattle.rules.proofs.Tables.{all_append}
use Rattle.rules.proofs.Sound.Updates.{accepted_form}
use Rattle.rules.proofs.Sound.Run.{not_reached, same_state}
use Rattle.rules.proofs.Replay.Lists.{total_append}
use Rattle.rules.proofs.Replay.Log.{SameAdditions, strip_append, go_on_alike}

-- ---- a state with another log

abbrev pub with_log : List Update → State → State
with_log l st = record { metadata = st.metadata; own = st.own; added = st.added; log = l }

checks_alike : (terms : Terms) (u : Update) (l : List Update) (st : State) → checks terms u (with_log l st) ≡ checks terms u st
unfolding checks upgrade_format_version_checks add_snapshot_checks add_snapshot set_ref_checks set_branch_snapshot_checks add_schema_checks set_current_schema_checks remove_schemas_checks add_sort_order_checks set_default_sort_order_checks set_statistics_checks add_partition_spec_checks set_default_partition_spec_checks remove_partition_specs_checks
checks_alike terms (AssignUuid uuid) l st = refl
checks_alike terms (UpgradeFormatVersion v) l st = refl
checks_alike terms (SetLocation location) l st = refl
checks_alike terms (AddSnapshot s) l st = refl
checks_alike terms (SetBranchSnapshot name s) l st = refl
checks_alike terms (RemoveSnapshots ids) l st = refl
checks_alike terms (SetRef name r) l st = refl
checks_alike terms (RemoveRef name) l st = refl
checks_alike terms (AddSchema s) l st = refl
checks_alike terms (SetCurrentSchema id) l st = refl
checks_alike terms (RemoveSchemas ids) l st = refl
checks_alike terms (AddSortOrder o) l st = refl
checks_alike terms (SetDefaultSortOrder id) l st = refl
checks_alike terms (SetStatistics which f) l st = refl
checks_alike terms (RemoveStatistics which id) l st = refl
checks_alike terms (AddPartitionSpec o) l st = refl
checks_alike terms (SetDefaultPartitionSpec id) l st = refl
checks_alike terms (RemovePartitionSpecs ids) l st = refl
checks_alike terms (NotFormed counts) l st = refl

-- no check reads the log
number_alike : (terms : Terms) (u : Update) (l : List Update) (st : State) → update_number terms u (with_log l st) ≡ update_number terms u st
unfolding update_number
number_alike terms u l st = rw (checks_alike terms u l st)

-- ---- an accepted update

pub accepted_if : (terms : Terms) (u : Update) (st : State) → update_formed u ≡ true → offers_formed terms u ≡ true → is_others terms.office u st.metadata ≡ false → first_of (checks terms u st) ≡ 0
    → update_number terms u st ≡ 0
unfolding update_number
accepted_if terms u st f o n e = rw (f, o, n) e

run_one : (terms : Terms) (u : Update) (place : ℕ) (st : State) → update_number terms u st ≡ 0 → run_from terms (u ∷ []) place st ≡ Reached (effect terms u st)
unfolding run_from
run_one terms u place st e = rw (eq-eqb (update_number terms u st) 0 e)

-- a run goes on where another has come to
run_on : (terms : Terms) (xs ys : List Update) (place : ℕ) (a b c : State)
    → run_from terms xs place a ≡ Reached b
    → ((q : ℕ) → run_from terms ys q b ≡ Reached c)
    → run_from terms (xs ++ ys) place a ≡ Reached c
unfolding run_from
run_on terms [] ys place a b c e k = rw (same_state a b e) (k place)
run_on terms (x ∷ xs) ys place a b c e k =
    let t = only_then (eqb (update_number terms x a) 0) (not_reached (update_number terms x a) place b) e in
    rw t.0 (run_on terms xs ys (suc place) (effect terms x a) b c t.1 k)

-- ---- a step from st to st' is replayed by the entries that it logs

-- they count no more than the step, are well formed, and run from st, with any log that adds the same snapshots, they lead to st' and are logged stripped
pub record Replays (terms : Terms) (room : ℕ) (st st' : State) : Type 0 where
  pub entries : List Update
  pub logged : st'.log ≡ st.log ++ entries
  pub light : list_sum entries ≤ room
  pub formed : all update_formed entries ≡ true
  pub again : (place : ℕ) (l : List Update) → SameAdditions l st.log → run_from terms entries place (with_log l st) ≡ Reached (with_log (l ++ strip entries) st')

-- a step that changes and logs nothing
pub nothing : (terms : Terms) (room : ℕ) (st : State) → Replays terms room st st
unfolding run_from list_sum strip
nothing terms room st = record {
  entries = [];
  logged = sym (append-nil st.log);
  light = omega arith;
  formed = refl;
  again = λ place l h. ap (λ (k : List Update). Reached (with_log k st)) (sym (append-nil l));
}

-- a step that logs one entry
pub once : (terms : Terms) (u : Update) (st st' : State) → weight u ≡ 1 → update_number terms u st ≡ 0 → st'.log ≡ st.log ++ (u ∷ [])
    → ((l : List Update) → SameAdditions l st.log → effect terms u (with_log l st) ≡ with_log (l ++ strip (u ∷ [])) st')
    → Replays terms 1 st st'
unfolding list_sum
once terms u st st' w e h k = record {
  entries = u ∷ [];
  logged = h;
  light = omega arith;
  formed = both (accepted_form terms u st e) refl;
  again = λ place l s. run_one terms u place (with_log l st) (number_alike terms u l st ∙ e) ∙ ap {B = Ran} Reached (k l s);
}

sum_append : (xs ys : List Update) → list_sum (xs ++ ys) ≡ list_sum xs + list_sum ys
unfolding list_sum
sum_append xs ys = total_append weight xs ys

-- two steps, one after the other
module _ (terms : Terms) (m n : ℕ) (a b c : State) (r : Replays terms m a b) (s : Replays terms n b c) where
  -- the second step's entries run on from where the first's have led
  second_again : (l : List Update) → SameAdditions l a.log → (place : ℕ) → run_from terms s.entries place (with_log (l ++ strip r.entries) b) ≡ Reached (with_log (l ++ strip (r.entries ++ s.entries)) c)
  second_again l h place =
      rw (strip_append r.entries s.entries, ← append_assoc l (strip r.entries) (strip s.entries))
      (s.again place (l ++ strip r.entries) (rw r.logged (go_on_alike l a.log r.entries h)))

  pub followed : Replays terms (m + n) a c
  followed = record {
    entries = r.entries ++ s.entries;
    logged = s.logged ∙ ap (λ (l : List Update). l ++ s.entries) r.logged ∙ append_assoc a.log r.entries s.entries;
    light = omega (arith, sum_append r.entries s.entries, r.light, s.light);
    formed = all_append update_formed r.entries s.entries r.formed s.formed;
    again = λ place l h. run_on terms r.entries s.entries place (with_log l a) (with_log (l ++ strip r.entries) b) (with_log (l ++ strip (r.entries ++ s.entries)) c) (r.again place l h) (second_again l h);
  }
