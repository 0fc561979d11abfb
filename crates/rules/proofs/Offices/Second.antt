-- What the second office leaves: an update that it may make changes neither the history nor what is kept for the first office.
use Prim.Native.Nat.{ℕ}
use mathlib.Core.Path.{◌≡◌, refl, sym, ap, ◌∙◌}
use mathlib.Core.Bool.{true, false, ◌&&◌, true≢false}
use mathlib.Core.List.{List, []}
use mathlib.Core.Option.{Option}
use lib.IntN.{ℤ}
use Rattle.rules.specs.Words.{is_some, some_with, is_empty}
use Rattle.rules.specs.Names.{is_main}
use Rattle.rules.specs.Register.{LogEntry, Reference, Schema, SortOrder, PartitionSpec, FileEntry, Metadata, Update, Terms, State}
use Rattle.rules.specs.Register.Outcome.{Accepted}
use Rattle.rules.specs.Register.Update.{AssignUuid, UpgradeFormatVersion, SetLocation, AddSnapshot, SetBranchSnapshot, RemoveSnapshots, SetRef, RemoveRef, AddSchema, SetCurrentSchema, RemoveSchemas, AddSortOrder, SetDefaultSortOrder, SetStatistics, RemoveStatistics, AddPartitionSpec, SetDefaultPartitionSpec, RemovePartitionSpecs, NotFormed}
use Rattle.rules.specs.Register.StatisticsTable.{Statistics, PartitionStatistics}
use Rattle.rules.specs.ChangeLog.{logs_main, logs_removal}
use Rattle.rules.specs.SnapshotUpdates.{add_snapshot, held_snapshots, remove_snapshots}
use Rattle.rules.specs.RefUpdates.{ref_named, is_held_ref, set_ref, committed, set_branch_snapshot, remove_ref}
use Rattle.rules.specs.StatisticsUpdates.{has_file_of, set_statistics, remove_statistics}
use Rattle.rules.specs.Others.{is_second, is_others_ref, names_others, is_others}
use Rattle.rules.specs.Updates.{effect}
use Rattle.rules.specs.Close.{intermediates, closed}
use Rattle.rules.specs.Run.{run_from, started, closing_log, run}
use Rattle.rules.specs.Run.Ran.{Reached}
use Rattle.rules.proofs.Checks.{by_test, neither}
use Rattle.rules.proofs.Sound.Updates.{accepted_own}
use Rattle.rules.proofs.Sound.Accepted.{Ends, run_accepted}
use Rattle.rules.proofs.Sound.Run.{run_keeps}

-- all of metadata that is the first office's to change
pub record FirstOffices : Type 0 where
  pub snapshot_log : List LogEntry
  pub current : Option ℤ
  pub version : ℕ
  pub uuid : List ℕ
  pub location : List ℕ
  pub last_column : ℤ
  pub current_schema : ℤ
  pub default_order : ℤ
  pub default_spec : ℤ
  pub last_partition : ℤ
  pub schemas : List Schema
  pub orders : List SortOrder
  pub specs : List PartitionSpec

abbrev pub first_offices : Metadata → FirstOffices
first_offices m = record {
  snapshot_log = m.snapshot_log;
  current = m.fields.current;
  version = m.fields.version;
  uuid = m.fields.uuid;
  location = m.fields.location;
  last_column = m.fields.last_column;
  current_schema = m.fields.current_schema;
  default_order = m.fields.default_order;
  default_spec = m.fields.default_spec;
  last_partition = m.fields.last_partition;
  schemas = m.schemas;
  orders = m.orders;
  specs = m.specs;
}

-- a state has what another has of it
abbrev Leaves : State → State → Type 0
Leaves st st' = first_offices st'.metadata ≡ first_offices st.metadata

-- ---- one update

module _ (office : ℕ) (second : is_second office ≡ true) where
  -- what is the first office's by kind alone is not accepted of the second
  kept_for_first_lem : {P : Type 0} → is_second office ≡ false → P
  kept_for_first_lem n = absurd (true≢false (sym second ∙ n))

  -- it names no `main`
  no_main : (name : List ℕ) (m : Metadata) → names_others office name m ≡ false → is_main name ≡ false
  no_main name m n = rw second at (neither (is_second office && is_main name) (some_with (is_others_ref office) (ref_named name m.refs)) n).0

-- a ref that is not `main`
set_ref_leaves : (terms : Terms) (name : List ℕ) (r : Reference) (st : State) → is_main name ≡ false → Leaves st (set_ref terms name r st)
unfolding set_ref
set_ref_leaves terms name r st h = by_test (Leaves st) (is_held_ref name r st.metadata.refs) (λ e. refl) (λ e. rw h)

remove_ref_leaves : (name : List ℕ) (st : State) → is_main name ≡ false → Leaves st (remove_ref name st)
unfolding remove_ref
remove_ref_leaves name st h = rw h (by_test (Leaves st) (is_some (ref_named name st.metadata.refs)) (λ e. refl) (λ e. refl))

pub second_leaves : (terms : Terms) (u : Update) (st : State) → is_second terms.office ≡ true → is_others terms.office u st.metadata ≡ false → Leaves st (effect terms u st)
unfolding effect is_others add_snapshot set_branch_snapshot remove_snapshots set_statistics remove_statistics
second_leaves terms (AssignUuid uuid) st s n = kept_for_first_lem terms.office s n
second_leaves terms (UpgradeFormatVersion v) st s n = kept_for_first_lem terms.office s n
second_leaves terms (SetLocation location) st s n = kept_for_first_lem terms.office s n
second_leaves terms (AddSnapshot x) st s n = refl
second_leaves terms (SetBranchSnapshot name x) st s n = set_ref_leaves terms name (committed name x.id st.metadata.refs) (add_snapshot x st) (no_main terms.office s name st.metadata n)
second_leaves terms (RemoveSnapshots ids) st s n = by_test (Leaves st) (is_empty (held_snapshots ids st.metadata.snapshots)) (λ e. refl) (λ e. refl)
second_leaves terms (SetRef name r) st s n = set_ref_leaves terms name r st (no_main terms.office s name st.metadata n)
second_leaves terms (RemoveRef name) st s n = remove_ref_leaves name st (no_main terms.office s name st.metadata n)
second_leaves terms (AddSchema o) st s n = kept_for_first_lem terms.office s n
second_leaves terms (SetCurrentSchema id) st s n = kept_for_first_lem terms.office s n
second_leaves terms (RemoveSchemas ids) st s n = kept_for_first_lem terms.office s n
second_leaves terms (AddSortOrder o) st s n = kept_for_first_lem terms.office s n
second_leaves terms (SetDefaultSortOrder id) st s n = kept_for_first_lem terms.office s n
second_leaves terms (SetStatistics Statistics f) st s n = refl
second_leaves terms (SetStatistics PartitionStatistics f) st s n = refl
second_leaves terms (RemoveStatistics Statistics id) st s n = by_test (Leaves st) (has_file_of st.metadata.statistics id) (λ e. refl) (λ e. refl)
second_leaves terms (RemoveStatistics PartitionStatistics id) st s n = by_test (Leaves st) (has_file_of st.metadata.partition_statistics id) (λ e. refl) (λ e. refl)
second_leaves terms (AddPartitionSpec o) st s n = kept_for_first_lem terms.office s n
second_leaves terms (SetDefaultPartitionSpec id) st s n = kept_for_first_lem terms.office s n
second_leaves terms (RemovePartitionSpecs ids) st s n = kept_for_first_lem terms.office s n
second_leaves terms (NotFormed counts) st s n = refl

-- ---- the run

pub run_leaves : (terms : Terms) (us : List Update) (m : Metadata) (st : State) → is_second terms.office ≡ true → run_from terms us 0 (started m) ≡ Reached st → first_offices st.metadata ≡ first_offices m
run_leaves terms us m st s e =
    run_keeps terms (λ (x : State). first_offices x.metadata ≡ first_offices m)
    (λ u x n p. second_leaves terms u x s (accepted_own terms u x n) ∙ p)
    us 0 (started m) st e refl

-- its close reads no log
pub closes_without_log : (terms : Terms) (st : State) → is_second terms.office ≡ true → closing_log terms st ≡ []
closes_without_log terms st s = rw s

-- which leaves the history as it is
closed_leaves : (terms : Terms) (st : State) → first_offices (closed terms [] st) ≡ first_offices st.metadata
unfolding closed intermediates logs_main logs_removal
closed_leaves terms st = refl

pub accepted_leaves : (terms : Terms) (m : Metadata) (us : List Update) (m' : Metadata) (log : List Update) (expired : List FileEntry) → is_second terms.office ≡ true → run terms m us ≡ Accepted m' log expired
    → first_offices m' ≡ first_offices m
accepted_leaves terms m us m' log expired s e =
    let k : Ends terms m' log expired m us = run_accepted terms m' log expired m us e in
    ap first_offices (sym k.closes.metadata)
    ∙ ap (λ (l : List Update). first_offices (closed terms l k.end)) (closes_without_log terms k.end s)
    ∙ closed_leaves terms k.end
    ∙ run_leaves terms us m k.end s k.reached
