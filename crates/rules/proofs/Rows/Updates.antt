-- What an update does to row ids: at version 3 an addition or a branch commit adds its snapshot with a range that begins at or after next row id,
-- and every other update leaves version, next row id and the snapshots that the log adds as they are.
use Prim.Native.Nat.{ℕ, ◌≤◌}
use native.Mathlib.Omega.{arith}
use mathlib.Core.Path.{◌≡◌, refl}
use mathlib.Core.Bool.{true, false, not, true≢false}
use mathlib.Core.List.{List, [], ◌∷◌, ◌++◌, append-nil}
use mathlib.Core.Option.{Option, none, some}
use lib.Dec.{eqb, leb}
use lib.IntN.{ℤ}
use borrow.Author.Tests.{ltb-false, leb-true, eqb-false, eq-eqb}
use Rattle.records.specs.declared.counters.RowId.{RowId}
use Rattle.rules.specs.Words.{eq_z, is_some, some_with, is_empty, collect, same_bytes, first_of, Check}
use Rattle.rules.specs.Replies.{commit_on_tag}
use Rattle.rules.specs.Capacities.{largest_unsigned}
use Rattle.rules.specs.RowIds.{is_behind, overflows}
use Rattle.rules.specs.Names.{is_main, trimmed}
use Rattle.rules.specs.Register.{RowRange, Snapshot, Reference, Schema, SchemaOffer, SortOrder, PartitionSpec, SpecOffer, StatisticsFile, StatisticsTable, Update, Terms, State, logged}
use Rattle.rules.specs.Register.Update.{AssignUuid, UpgradeFormatVersion, SetLocation, AddSnapshot, SetBranchSnapshot, RemoveSnapshots, SetRef, RemoveRef, AddSchema, SetCurrentSchema, RemoveSchemas, AddSortOrder, SetDefaultSortOrder, SetStatistics, RemoveStatistics, AddPartitionSpec, SetDefaultPartitionSpec, RemovePartitionSpecs, NotFormed}
use Rattle.rules.specs.WellFormed.{version_formed, update_formed}
use Rattle.rules.specs.SingleUpdates.{assign_uuid, upgrade_format_version_checks, upgrade_format_version, set_location}
use Rattle.rules.specs.SnapshotUpdates.{is_version3, add_snapshot_checks, add_snapshot, held_snapshots, without_snapshots, remove_snapshots}
use Rattle.rules.specs.RefUpdates.{ref_named, is_held_ref, put_ref, set_ref_checks, set_ref, committed, is_tag, set_branch_snapshot_checks, set_branch_snapshot, remove_ref}
use Rattle.rules.specs.Offers.{offered_schema, offered_spec}
use Rattle.rules.specs.SchemaUpdates.{reused_schema, add_schema, chosen, set_current_schema, remove_schemas}
use Rattle.rules.specs.OrderUpdates.{reused_order, add_sort_order, set_default_sort_order}
use Rattle.rules.specs.Register.StatisticsTable.{Statistics, PartitionStatistics}
use Rattle.rules.specs.StatisticsUpdates.{has_file_of, set_statistics, remove_statistics}
use Rattle.rules.specs.SpecUpdates.{reusing, reused_spec, spec_added, add_partition_spec, set_default_partition_spec, held_specs, remove_partition_specs}
use Rattle.rules.specs.Updates.{checks, update_number, effect}
use Rattle.rules.specs.ChangeLog.{new_snapshot}
use Rattle.rules.specs.Rows.{new_snapshots, end_of}
use Rattle.rules.proofs.Checks.{by_test, by_option, and_right, passed, passed_before, passed_after}
use Rattle.rules.proofs.Sound.Snapshots.{add_snapshot_numbered}
use Rattle.rules.proofs.Sound.Updates.{accepted_form, accepted_checks}
use Rattle.rules.proofs.Replay.Lists.{collect_append}

-- what row ids depend on in a state
pub record View : Type 0 where
  pub version : ℕ
  pub next_row : RowId
  pub held : List Snapshot
  pub added : List Snapshot

abbrev pub view : State → View
view st = record { version = st.metadata.fields.version; next_row = st.metadata.fields.next_row; held = st.metadata.snapshots; added = new_snapshots st.log }

-- ---- what is logged

pub new_none : new_snapshots [] ≡ []
unfolding new_snapshots
new_none = refl

pub new_append : (xs ys : List Update) → new_snapshots (xs ++ ys) ≡ new_snapshots xs ++ new_snapshots ys
unfolding new_snapshots
new_append xs ys = collect_append new_snapshot xs ys

none_new : (u : Update) → new_snapshot u ≡ none → new_snapshots (u ∷ []) ≡ []
unfolding new_snapshots
none_new u e = rw (e, collect)

-- a state has the view of another
abbrev pub Keeps : State → State → Type 0
Keeps st st' = view st' ≡ view st

-- an entry that adds no snapshot
logged_keeps : (st : State) (u : Update) → new_snapshot u ≡ none → Keeps st (logged u st)
logged_keeps st u e = rw (new_append st.log (u ∷ []), none_new u e, append-nil (new_snapshots st.log))

-- ---- the updates that leave all of it as it is

module _ (st : State) where
  pub assign_uuid_keeps : (uuid : List ℕ) → Keeps st (assign_uuid uuid st)
  unfolding assign_uuid
  assign_uuid_keeps uuid = by_test (Keeps st) (same_bytes uuid st.metadata.fields.uuid) (λ e. refl) (λ e. logged_keeps st _ refl)

  -- 4: a version below 3 is refused, and there is none above
  pub upgrade_format_version_keeps : (v : ℕ) → version_formed v ≡ true → first_of (upgrade_format_version_checks v st) ≡ 0 → st.metadata.fields.version ≡ 3 → Keeps st (upgrade_format_version v st)
  unfolding upgrade_format_version upgrade_format_version_checks
  upgrade_format_version_keeps v f e v3 =
      let low : st.metadata.fields.version ≤ v = ltb-false v st.metadata.fields.version (passed (upgrade_format_version_checks v st) refl e).0 in
      let high : v ≤ 3 = leb-true v 3 (and_right (leb 1 v) (leb v 3) f) in
      by_test (Keeps st) (eqb v st.metadata.fields.version) (λ q. refl) (λ q. absurd (eqb-false v st.metadata.fields.version q (omega arith)))

  pub set_location_keeps : (l : List ℕ) → Keeps st (set_location l st)
  unfolding set_location
  set_location_keeps l = by_test (Keeps st) (same_bytes (trimmed l) st.metadata.fields.location) (λ e. refl) (λ e. logged_keeps st _ refl)

  pub set_ref_keeps : (terms : Terms) (name : List ℕ) (r : Reference) → Keeps st (set_ref terms name r st)
  unfolding set_ref
  set_ref_keeps terms name r =
      by_test (Keeps st) (is_held_ref name r st.metadata.refs)
      (λ e. refl)
      (λ e. by_test (λ (x : State). Keeps st (logged (SetRef name r) (put_ref terms.office name r x))) (is_main name) (λ f. logged_keeps st (SetRef name r) refl) (λ f. logged_keeps st (SetRef name r) refl))

  pub remove_ref_keeps : (name : List ℕ) → Keeps st (remove_ref name st)
  unfolding remove_ref
  remove_ref_keeps name =
      by_test (Keeps st) (is_main name)
      (λ e. logged_keeps st (RemoveRef name) refl)
      (λ e. by_test (Keeps st) (is_some (ref_named name st.metadata.refs)) (λ f. logged_keeps st (RemoveRef name) refl) (λ f. refl))

  pub add_schema_keeps : (o : SchemaOffer) (s : Schema) → Keeps st (add_schema o s st)
  unfolding add_schema
  add_schema_keeps o s =
      by_option (Keeps st) (reused_schema s st.metadata.schemas)
      (λ n. logged_keeps st _ refl)
      (λ id n. by_test (Keeps st) (some_with (eq_z id) st.added.schema) (λ e. refl) (λ e. logged_keeps st (AddSchema o) refl))

  pub set_current_schema_keeps : (id : ℤ) → Keeps st (set_current_schema id st)
  unfolding set_current_schema
  set_current_schema_keeps id = by_test (Keeps st) (eq_z (chosen id st.added.schema) st.metadata.fields.current_schema) (λ e. refl) (λ e. logged_keeps st _ refl)

  pub remove_schemas_keeps : (ids : List ℤ) → Keeps st (remove_schemas ids st)
  unfolding remove_schemas
  remove_schemas_keeps ids = by_test (Keeps st) (is_empty ids) (λ e. refl) (λ e. logged_keeps st _ refl)

  pub add_sort_order_keeps : (o : SortOrder) → Keeps st (add_sort_order o st)
  unfolding add_sort_order
  add_sort_order_keeps o =
      by_option (Keeps st) (reused_order o st.metadata.orders)
      (λ n. logged_keeps st _ refl)
      (λ id n. by_test (Keeps st) (some_with (eq_z id) st.added.order) (λ e. refl) (λ e. logged_keeps st _ refl))

  pub set_default_sort_order_keeps : (id : ℤ) → Keeps st (set_default_sort_order id st)
  unfolding set_default_sort_order
  set_default_sort_order_keeps id = by_test (Keeps st) (eq_z (chosen id st.added.order) st.metadata.fields.default_order) (λ e. refl) (λ e. logged_keeps st _ refl)

  pub set_statistics_keeps : (which : StatisticsTable) (f : StatisticsFile) → Keeps st (set_statistics which f st)
  unfolding set_statistics
  set_statistics_keeps Statistics f = logged_keeps st _ refl
  set_statistics_keeps PartitionStatistics f = logged_keeps st _ refl

  pub remove_statistics_keeps : (which : StatisticsTable) (id : ℤ) → Keeps st (remove_statistics which id st)
  unfolding remove_statistics
  remove_statistics_keeps Statistics id = by_test (Keeps st) (has_file_of st.metadata.statistics id) (λ e. logged_keeps st _ refl) (λ e. refl)
  remove_statistics_keeps PartitionStatistics id = by_test (Keeps st) (has_file_of st.metadata.partition_statistics id) (λ e. logged_keeps st _ refl) (λ e. refl)

  pub add_partition_spec_keeps : (o : SpecOffer) (s : PartitionSpec) → Keeps st (add_partition_spec o s st)
  unfolding spec_added add_partition_spec
  add_partition_spec_keeps o s =
      by_option (Keeps st) (reused_spec (reusing st.metadata.specs s) st.metadata.specs)
      (λ n. logged_keeps st _ refl)
      (λ id n. by_test (Keeps st) (some_with (eq_z id) st.added.spec) (λ e. refl) (λ e. logged_keeps st _ refl))

  pub set_default_partition_spec_keeps : (id : ℤ) → Keeps st (set_default_partition_spec id st)
  unfolding set_default_partition_spec
  set_default_partition_spec_keeps id = by_test (Keeps st) (eq_z (chosen id st.added.spec) st.metadata.fields.default_spec) (λ e. refl) (λ e. logged_keeps st _ refl)

  pub remove_partition_specs_keeps : (ids : List ℤ) → Keeps st (remove_partition_specs ids st)
  unfolding remove_partition_specs
  remove_partition_specs_keeps ids = by_test (Keeps st) (is_empty (held_specs ids st.metadata.specs)) (λ e. refl) (λ e. logged_keeps st _ refl)

-- a removal takes snapshots from the table and leaves the rest of it
pub remove_snapshots_keeps : (ids : List ℤ) (st : State) → Keeps (without_snapshots ids st) (remove_snapshots ids st)
unfolding remove_snapshots
remove_snapshots_keeps ids st =
    let rest : State = without_snapshots ids st in
    by_test (Keeps rest) (is_empty (held_snapshots ids st.metadata.snapshots)) (λ e. refl) (λ e. logged_keeps rest _ refl)

-- ---- an addition at version 3

-- its snapshot has a range (else 10), which begins at or after next row id (else 9) and ends by 2^64 - 1 (else 11)
pub record Ranged (s : Snapshot) (next : ℕ) : Type 0 where
  pub range : RowRange
  pub has : s.rows ≡ some range
  pub begins : next ≤ range.first.0
  pub ends : end_of range ≤ largest_unsigned

pub add_ranged : (tolerance : ℤ) (s : Snapshot) (st : State) → st.metadata.fields.version ≡ 3 → first_of (add_snapshot_checks tolerance s st) ≡ 0 → Ranged s st.metadata.fields.next_row.0
unfolding add_snapshot_checks
add_ranged tolerance s st v e =
    let k = (passed (add_snapshot_checks tolerance s st) (add_snapshot_numbered tolerance s st) e).1.1.1.1 in
    let t : is_version3 st.metadata.fields ≡ true = eq-eqb st.metadata.fields.version 3 v in
    by_rows s.rows refl (rw t at k.0) (rw t at k.1.0) (rw t at k.1.1.0)
  where
    by_rows : (o : Option RowRange) → s.rows ≡ o → not (is_some o) ≡ false → some_with (λ (r : RowRange). is_behind st.metadata.fields.next_row r.first) o ≡ false
        → some_with (λ (r : RowRange). overflows r.first r.added) o ≡ false → Ranged s st.metadata.fields.next_row.0
    by_rows none q a b c = absurd (true≢false a)
    by_rows (some r) q a b c = record { range = r; has = q; begins = ltb-false r.first.0 st.metadata.fields.next_row.0 b; ends = ltb-false largest_unsigned (end_of r) c }

-- and next row id becomes its end
pub add_reaches : (s : Snapshot) (st : State) (r : RowRange) → st.metadata.fields.version ≡ 3 → s.rows ≡ some r → (add_snapshot s st).metadata.fields.next_row.0 ≡ end_of r
unfolding add_snapshot
add_reaches s st r v e = rw (e, eq-eqb st.metadata.fields.version 3 v)

-- ---- any accepted update at version 3

-- from st to st' all is left, or snapshots are removed, or one is added: these are the new ones
pub data Step (st st' : State) : List Snapshot → Type 0 where
  leaves : Keeps st st' → Step st st' []
  removes : (ids : List ℤ) → Keeps (without_snapshots ids st) st' → Step st st' []
  adds : (tolerance : ℤ) (s : Snapshot) → first_of (add_snapshot_checks tolerance s st) ≡ 0 → Keeps (add_snapshot s st) st' → Step st st' (s ∷ [])

-- the checks of a branch commit are those of the addition, and more
pub commit_adds : (tolerance : ℤ) (name : List ℕ) (s : Snapshot) (st : State) → first_of (set_branch_snapshot_checks tolerance name s st) ≡ 0 → first_of (add_snapshot_checks tolerance s st) ≡ 0
unfolding set_branch_snapshot_checks
commit_adds tolerance name s st e =
    let more : List Check = set_ref_checks name (committed name s.id st.metadata.refs) (add_snapshot s st) in
    passed_before (add_snapshot_checks tolerance s st) more (passed_after ((is_tag name st.metadata.refs, commit_on_tag) ∷ []) (add_snapshot_checks tolerance s st ++ more) refl e)

checked_step : (terms : Terms) (u : Update) (st : State) → update_formed u ≡ true → first_of (checks terms u st) ≡ 0 → st.metadata.fields.version ≡ 3 → Step st (effect terms u st) (new_snapshots (u ∷ []))
unfolding update_formed checks effect new_snapshots set_branch_snapshot
checked_step terms (AssignUuid uuid) st f e v = leaves (assign_uuid_keeps st uuid)
checked_step terms (UpgradeFormatVersion w) st f e v = leaves (upgrade_format_version_keeps st w f e v)
checked_step terms (SetLocation l) st f e v = leaves (set_location_keeps st l)
checked_step terms (AddSnapshot s) st f e v = adds terms.tolerance s e refl
checked_step terms (SetBranchSnapshot name s) st f e v = adds terms.tolerance s (commit_adds terms.tolerance name s st e) (set_ref_keeps (add_snapshot s st) terms name (committed name s.id st.metadata.refs))
checked_step terms (RemoveSnapshots ids) st f e v = removes ids (remove_snapshots_keeps ids st)
checked_step terms (SetRef name r) st f e v = leaves (set_ref_keeps st terms name r)
checked_step terms (RemoveRef name) st f e v = leaves (remove_ref_keeps st name)
checked_step terms (AddSchema o) st f e v = leaves (add_schema_keeps st o (offered_schema terms.offers o))
checked_step terms (SetCurrentSchema id) st f e v = leaves (set_current_schema_keeps st id)
checked_step terms (RemoveSchemas ids) st f e v = leaves (remove_schemas_keeps st ids)
checked_step terms (AddSortOrder o) st f e v = leaves (add_sort_order_keeps st o)
checked_step terms (SetDefaultSortOrder id) st f e v = leaves (set_default_sort_order_keeps st id)
checked_step terms (SetStatistics which x) st f e v = leaves (set_statistics_keeps st which x)
checked_step terms (RemoveStatistics which id) st f e v = leaves (remove_statistics_keeps st which id)
checked_step terms (AddPartitionSpec o) st f e v = leaves (add_partition_spec_keeps st o (offered_spec terms.offers o))
checked_step terms (SetDefaultPartitionSpec id) st f e v = leaves (set_default_partition_spec_keeps st id)
checked_step terms (RemovePartitionSpecs ids) st f e v = leaves (remove_partition_specs_keeps st ids)
checked_step terms (NotFormed counts) st f e v = leaves refl

pub effect_step : (terms : Terms) (u : Update) (st : State) → update_number terms u st ≡ 0 → st.metadata.fields.version ≡ 3 → Step st (effect terms u st) (new_snapshots (u ∷ []))
effect_step terms u st e v = checked_step terms u st (accepted_form terms u st e) (accepted_checks terms u st e) v
