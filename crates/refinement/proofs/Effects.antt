-- What an update leaves as it was: the metadata log and the last update whatever it is, and beside its own table all others.
use Prim.Native.Nat.{ℕ, ◌+◌, ◌≤◌}
use native.Mathlib.Omega.{arith}
use mathlib.Core.Path.{◌≡◌, refl, sym, subst, ◌∙◌}
use mathlib.Core.Bool.{false, true≢false}
use mathlib.Core.List.{List, [], ◌∷◌, ◌++◌}
use mathlib.Core.Option.{none}
use lib.Dec.{eqb}
use lib.ListN.{length, length-append}
use Rattle.rules.specs.Words.{eq_z, some_with, is_empty, same_bytes, is_some}
use Rattle.rules.specs.Names.{trimmed, is_main}
use Rattle.rules.specs.Register.{Reference, Snapshot, StatisticsFile, StatisticsTable, Metadata, Update, Terms, State, with_fields, with_refs, with_schemas, with_orders, statistics_of, with_statistics, with_specs, logged}
use Rattle.rules.specs.Register.StatisticsTable.{Statistics, PartitionStatistics}
use Rattle.rules.specs.Register.Update.{AssignUuid, UpgradeFormatVersion, SetLocation, AddSnapshot, SetBranchSnapshot, RemoveSnapshots, SetRef, RemoveRef, AddSchema, SetCurrentSchema, RemoveSchemas, AddSortOrder, SetDefaultSortOrder, SetStatistics, RemoveStatistics, AddPartitionSpec, SetDefaultPartitionSpec, RemovePartitionSpecs, NotFormed}
use Rattle.rules.specs.ChangeLog.{addition, main_target, is_snapshot_removal}
use Rattle.rules.specs.SingleUpdates.{assign_uuid, upgrade_format_version, set_location}
use Rattle.rules.specs.SnapshotUpdates.{add_snapshot, remove_snapshots, held_snapshots}
use Rattle.rules.specs.RefUpdates.{set_ref, set_branch_snapshot, remove_ref, is_held_ref, put_ref, ref_named, committed}
use Rattle.rules.specs.Offers.{offered_schema, offered_spec}
use Rattle.rules.specs.SchemaUpdates.{add_schema, set_current_schema, remove_schemas, reused_schema, chosen}
use Rattle.rules.specs.OrderUpdates.{add_sort_order, set_default_sort_order, reused_order}
use Rattle.rules.specs.StatisticsUpdates.{has_file_of, set_statistics, remove_statistics}
use Rattle.rules.specs.SpecUpdates.{reusing, reused_spec, spec_added, add_partition_spec, set_default_partition_spec, held_specs, remove_partition_specs}
use Rattle.rules.specs.Updates.{effect}
use Rattle.rules.specs.Run.{weight}
use Rattle.rules.proofs.Checks.{by_test, by_option}
use Rattle.refinement.proofs.Slots.{last_cancels, no_longer}

-- ---- what no update changes, and how much one logs

pub record Moves (w : ℕ) (st st' : State) : Type 0 where
  pub files : st'.metadata.metadata_log ≡ st.metadata.metadata_log
  pub old : st'.metadata.fields.last_updated ≡ st.metadata.fields.last_updated
  pub light : length st'.log ≤ length st.log + w

still : (w : ℕ) (st : State) → Moves w st st
still w st = record { files = refl; old = refl; light = omega arith }

one : (u : Update) (st st' : State) → st'.metadata.metadata_log ≡ st.metadata.metadata_log → st'.metadata.fields.last_updated ≡ st.metadata.fields.last_updated → st'.log ≡ st.log → Moves 1 st (logged u st')
one u st st' f o l = record { files = f; old = o; light = rw l (omega (arith, length-append st.log (u ∷ []))) }

then : {v w : ℕ} {a b c : State} → Moves v a b → Moves w b c → Moves (v + w) a c
then p q = record { files = q.files ∙ p.files; old = q.old ∙ p.old; light = omega (arith, p.light, q.light) }

pub add_moves : (s : Snapshot) (st : State) → Moves 1 st (add_snapshot s st)
unfolding add_snapshot
add_moves s st = one (AddSnapshot s) st _ refl refl refl

pub set_moves : (terms : Terms) (name : List ℕ) (r : Reference) (st : State) → Moves 1 st (set_ref terms name r st)
unfolding set_ref
set_moves terms name r st =
    by_test (Moves 1 st) (is_held_ref name r st.metadata.refs)
    (λ e. still 1 st)
    (λ e. by_test (λ (x : State). Moves 1 st (logged (SetRef name r) (put_ref terms.office name r x))) (is_main name) (λ f. one (SetRef name r) st _ refl refl refl) (λ f. one (SetRef name r) st _ refl refl refl))

pub moves : (terms : Terms) (u : Update) (st : State) → Moves (weight u) st (effect terms u st)
unfolding effect assign_uuid upgrade_format_version set_location remove_snapshots set_branch_snapshot remove_ref add_schema set_current_schema remove_schemas add_sort_order set_default_sort_order set_statistics remove_statistics spec_added add_partition_spec set_default_partition_spec remove_partition_specs
moves terms (AssignUuid uuid) st = by_test (Moves 1 st) (same_bytes uuid st.metadata.fields.uuid) (λ e. still 1 st) (λ e. one (AssignUuid uuid) st _ refl refl refl)
moves terms (UpgradeFormatVersion v) st = by_test (Moves 1 st) (eqb v st.metadata.fields.version) (λ e. still 1 st) (λ e. one (UpgradeFormatVersion v) st _ refl refl refl)
moves terms (SetLocation l) st = by_test (Moves 1 st) (same_bytes (trimmed l) st.metadata.fields.location) (λ e. still 1 st) (λ e. one (SetLocation (trimmed l)) st _ refl refl refl)
moves terms (AddSnapshot s) st = add_moves s st
moves terms (SetBranchSnapshot name s) st = then (add_moves s st) (set_moves terms name (committed name s.id st.metadata.refs) (add_snapshot s st))
moves terms (RemoveSnapshots ids) st =
    by_test (Moves 1 st) (is_empty (held_snapshots ids st.metadata.snapshots))
    (λ e. record { files = refl; old = refl; light = omega arith })
    (λ e. one (RemoveSnapshots (held_snapshots ids st.metadata.snapshots)) st _ refl refl refl)
moves terms (SetRef name r) st = set_moves terms name r st
moves terms (RemoveRef name) st =
    by_test (Moves 1 st) (is_main name)
    (λ e. one (RemoveRef name) st _ refl refl refl)
    (λ e. by_test (Moves 1 st) (is_some (ref_named name st.metadata.refs)) (λ f. one (RemoveRef name) st _ refl refl refl) (λ f. still 1 st))
moves terms (AddSchema o) st =
    by_option (Moves 1 st) (reused_schema (offered_schema terms.offers o) st.metadata.schemas)
    (λ e. one (AddSchema _) st _ refl refl refl)
    (λ id e. by_test (Moves 1 st) (some_with (eq_z id) st.added.schema) (λ f. still 1 st) (λ f. one (AddSchema o) st _ refl refl refl))
moves terms (SetCurrentSchema id) st = by_test (Moves 1 st) (eq_z (chosen id st.added.schema) st.metadata.fields.current_schema) (λ e. still 1 st) (λ e. one (SetCurrentSchema _) st _ refl refl refl)
moves terms (RemoveSchemas ids) st = by_test (Moves 1 st) (is_empty ids) (λ e. still 1 st) (λ e. one (RemoveSchemas _) st _ refl refl refl)
moves terms (AddSortOrder o) st =
    by_option (Moves 1 st) (reused_order o st.metadata.orders)
    (λ e. one (AddSortOrder _) st _ refl refl refl)
    (λ id e. by_test (Moves 1 st) (some_with (eq_z id) st.added.order) (λ f. still 1 st) (λ f. one (AddSortOrder _) st _ refl refl refl))
moves terms (SetDefaultSortOrder id) st = by_test (Moves 1 st) (eq_z (chosen id st.added.order) st.metadata.fields.default_order) (λ e. still 1 st) (λ e. one (SetDefaultSortOrder _) st _ refl refl refl)
moves terms (SetStatistics Statistics f) st = one (SetStatistics Statistics f) st _ refl refl refl
moves terms (SetStatistics PartitionStatistics f) st = one (SetStatistics PartitionStatistics f) st _ refl refl refl
moves terms (RemoveStatistics Statistics id) st = by_test (Moves 1 st) (has_file_of st.metadata.statistics id) (λ e. one (RemoveStatistics Statistics id) st _ refl refl refl) (λ e. still 1 st)
moves terms (RemoveStatistics PartitionStatistics id) st = by_test (Moves 1 st) (has_file_of st.metadata.partition_statistics id) (λ e. one (RemoveStatistics PartitionStatistics id) st _ refl refl refl) (λ e. still 1 st)
moves terms (AddPartitionSpec o) st =
    by_option (Moves 1 st) (reused_spec (reusing st.metadata.specs (offered_spec terms.offers o)) st.metadata.specs)
    (λ e. one (AddPartitionSpec _) st _ refl refl refl)
    (λ id e. by_test (Moves 1 st) (some_with (eq_z id) st.added.spec) (λ f. still 1 st) (λ f. one (AddPartitionSpec _) st _ refl refl refl))
moves terms (SetDefaultPartitionSpec id) st = by_test (Moves 1 st) (eq_z (chosen id st.added.spec) st.metadata.fields.default_spec) (λ e. still 1 st) (λ e. one (SetDefaultPartitionSpec _) st _ refl refl refl)
moves terms (RemovePartitionSpecs ids) st = by_test (Moves 1 st) (is_empty (held_specs ids st.metadata.specs)) (λ e. still 1 st) (λ e. one (RemovePartitionSpecs _) st _ refl refl refl)
moves terms (NotFormed counts) st = still counts st

-- ---- updates that leave snapshots and refs alone

-- an entry that adds no snapshot, sets no `main` and removes no snapshot
pub record Quiet (u : Update) : Type 0 where
  pub adds : addition u ≡ none
  pub sets : main_target u ≡ none
  pub removes : is_snapshot_removal u ≡ false

-- the number of each table of statistics files
abbrev pub statistics_group : StatisticsTable → ℕ
statistics_group Statistics = 5
statistics_group PartitionStatistics = 6

-- Its family, by what it may change beside the log: 1 single fields; 2 schemas; 3 sort orders; 4 refs, by removing one; 5 and 6 statistics
-- files; 7 partition specs; 0 snapshots, or refs by setting one. Choosing a schema, an order or a spec changes a single field, and is of their family.
abbrev pub group : Update → ℕ
group (AssignUuid uuid) = 1
group (UpgradeFormatVersion v) = 1
group (SetLocation l) = 1
group (AddSnapshot s) = 0
group (SetBranchSnapshot name s) = 0
group (RemoveSnapshots ids) = 0
group (SetRef name r) = 0
group (RemoveRef name) = 4
group (AddSchema s) = 2
group (SetCurrentSchema id) = 2
group (RemoveSchemas ids) = 2
group (AddSortOrder o) = 3
group (SetDefaultSortOrder id) = 3
group (SetStatistics which f) = statistics_group which
group (RemoveStatistics which id) = statistics_group which
group (AddPartitionSpec o) = 7
group (SetDefaultPartitionSpec id) = 7
group (RemovePartitionSpecs ids) = 7
group (NotFormed counts) = 1

-- all but what that number names is the same
pub record Same (g : ℕ) (m m' : Metadata) : Type 0 where
  pub snapshots : m'.snapshots ≡ m.snapshots
  pub refs : eqb g 4 ≡ false → m'.refs ≡ m.refs
  pub log : m'.snapshot_log ≡ m.snapshot_log
  pub schemas : eqb g 2 ≡ false → m'.schemas ≡ m.schemas
  pub orders : eqb g 3 ≡ false → m'.orders ≡ m.orders
  pub statistics : eqb g 5 ≡ false → m'.statistics ≡ m.statistics
  pub partition_statistics : eqb g 6 ≡ false → m'.partition_statistics ≡ m.partition_statistics
  pub specs : eqb g 7 ≡ false → m'.specs ≡ m.specs

-- one table changed, and the single fields
module _ {m m' : Metadata} where
  fields_same : (g : ℕ) → with_fields m'.fields m ≡ m' → Same g m m'
  fields_same g e = rw (← e) (record { snapshots = refl; refs = λ z. refl; log = refl; schemas = λ z. refl; orders = λ z. refl; statistics = λ z. refl; partition_statistics = λ z. refl; specs = λ z. refl })

  schemas_same : with_fields m'.fields (with_schemas m'.schemas m) ≡ m' → Same 2 m m'
  schemas_same e = rw (← e) (record { snapshots = refl; refs = λ z. refl; log = refl; schemas = λ z. absurd (true≢false z); orders = λ z. refl; statistics = λ z. refl; partition_statistics = λ z. refl; specs = λ z. refl })

  orders_same : with_orders m'.orders m ≡ m' → Same 3 m m'
  orders_same e = rw (← e) (record { snapshots = refl; refs = λ z. refl; log = refl; schemas = λ z. refl; orders = λ z. absurd (true≢false z); statistics = λ z. refl; partition_statistics = λ z. refl; specs = λ z. refl })

  specs_same : with_fields m'.fields (with_specs m'.specs m) ≡ m' → Same 7 m m'
  specs_same e = rw (← e) (record { snapshots = refl; refs = λ z. refl; log = refl; schemas = λ z. refl; orders = λ z. refl; statistics = λ z. refl; partition_statistics = λ z. refl; specs = λ z. absurd (true≢false z) })

  refs_same : with_fields m'.fields (with_refs m'.refs m) ≡ m' → Same 4 m m'
  refs_same e = rw (← e) (record { snapshots = refl; refs = λ z. absurd (true≢false z); log = refl; schemas = λ z. refl; orders = λ z. refl; statistics = λ z. refl; partition_statistics = λ z. refl; specs = λ z. refl })

statistics_same : (which : StatisticsTable) (l : List StatisticsFile) (m : Metadata) → Same (statistics_group which) m (with_statistics which l m)
statistics_same Statistics l m = record { snapshots = refl; refs = λ z. refl; log = refl; schemas = λ z. refl; orders = λ z. refl; statistics = λ z. absurd (true≢false z); partition_statistics = λ z. refl; specs = λ z. refl }
statistics_same PartitionStatistics l m = record { snapshots = refl; refs = λ z. refl; log = refl; schemas = λ z. refl; orders = λ z. refl; statistics = λ z. refl; partition_statistics = λ z. absurd (true≢false z); specs = λ z. refl }

pub record Aside (g : ℕ) (st st' : State) : Type 0 where
  pub same : Same g st.metadata st'.metadata
  pub quiet : (v : Update) → st'.log ≡ st.log ++ (v ∷ []) → Quiet v

rest : (g : ℕ) (st : State) → Aside g st st
rest g st = record { same = fields_same g refl; quiet = λ v e. absurd (no_longer st.log v e) }

-- a step that logs such an entry
logs_quiet : {g : ℕ} (u : Update) (st : State) {st' : State} → Same g st.metadata st'.metadata → st'.log ≡ st.log ++ (u ∷ []) → Quiet u → Aside g st st'
logs_quiet u st s l q = record { same = s; quiet = λ v e. subst Quiet (last_cancels st.log u v (sym l ∙ e)) q }

pub aside : (terms : Terms) (u : Update) (st : State) → (group u ≡ 0 → ⊥) → Aside (group u) st (effect terms u st)
unfolding effect assign_uuid upgrade_format_version set_location remove_ref add_schema set_current_schema remove_schemas add_sort_order set_default_sort_order set_statistics remove_statistics spec_added add_partition_spec set_default_partition_spec remove_partition_specs
aside terms (AssignUuid uuid) st n = by_test (Aside 1 st) (same_bytes uuid st.metadata.fields.uuid) (λ e. rest 1 st) (λ e. logs_quiet (AssignUuid uuid) st (fields_same 1 refl) refl (record { adds = refl; sets = refl; removes = refl }))
aside terms (UpgradeFormatVersion v) st n = by_test (Aside 1 st) (eqb v st.metadata.fields.version) (λ e. rest 1 st) (λ e. logs_quiet (UpgradeFormatVersion v) st (fields_same 1 refl) refl (record { adds = refl; sets = refl; removes = refl }))
aside terms (SetLocation l) st n = by_test (Aside 1 st) (same_bytes (trimmed l) st.metadata.fields.location) (λ e. rest 1 st) (λ e. logs_quiet (SetLocation (trimmed l)) st (fields_same 1 refl) refl (record { adds = refl; sets = refl; removes = refl }))
aside terms (AddSnapshot s) st n = absurd (n refl)
aside terms (SetBranchSnapshot name s) st n = absurd (n refl)
aside terms (RemoveSnapshots ids) st n = absurd (n refl)
aside terms (SetRef name r) st n = absurd (n refl)
aside terms (RemoveRef name) st n =
    by_test (Aside 4 st) (is_main name)
    (λ e. logs_quiet (RemoveRef name) st (refs_same refl) refl (record { adds = refl; sets = refl; removes = refl }))
    (λ e. by_test (Aside 4 st) (is_some (ref_named name st.metadata.refs)) (λ f. logs_quiet (RemoveRef name) st (refs_same refl) refl (record { adds = refl; sets = refl; removes = refl })) (λ f. rest 4 st))
aside terms (AddSchema o) st n =
    by_option (Aside 2 st) (reused_schema (offered_schema terms.offers o) st.metadata.schemas)
    (λ e. logs_quiet (AddSchema _) st (schemas_same refl) refl (record { adds = refl; sets = refl; removes = refl }))
    (λ id e. by_test (Aside 2 st) (some_with (eq_z id) st.added.schema) (λ f. rest 2 st) (λ f. logs_quiet (AddSchema o) st (fields_same 2 refl) refl (record { adds = refl; sets = refl; removes = refl })))
aside terms (SetCurrentSchema id) st n = by_test (Aside 2 st) (eq_z (chosen id st.added.schema) st.metadata.fields.current_schema) (λ e. rest 2 st) (λ e. logs_quiet (SetCurrentSchema _) st (fields_same 2 refl) refl (record { adds = refl; sets = refl; removes = refl }))
aside terms (RemoveSchemas ids) st n = by_test (Aside 2 st) (is_empty ids) (λ e. rest 2 st) (λ e. logs_quiet (RemoveSchemas _) st (schemas_same refl) refl (record { adds = refl; sets = refl; removes = refl }))
aside terms (AddSortOrder o) st n =
    by_option (Aside 3 st) (reused_order o st.metadata.orders)
    (λ e. logs_quiet (AddSortOrder _) st (orders_same refl) refl (record { adds = refl; sets = refl; removes = refl }))
    (λ id e. by_test (Aside 3 st) (some_with (eq_z id) st.added.order) (λ f. rest 3 st) (λ f. logs_quiet (AddSortOrder _) st (fields_same 3 refl) refl (record { adds = refl; sets = refl; removes = refl })))
aside terms (SetDefaultSortOrder id) st n = by_test (Aside 3 st) (eq_z (chosen id st.added.order) st.metadata.fields.default_order) (λ e. rest 3 st) (λ e. logs_quiet (SetDefaultSortOrder _) st (fields_same 3 refl) refl (record { adds = refl; sets = refl; removes = refl }))
aside terms (SetStatistics which f) st n = logs_quiet (SetStatistics which f) st (statistics_same which _ st.metadata) refl (record { adds = refl; sets = refl; removes = refl })
aside terms (RemoveStatistics which id) st n = by_test (Aside (statistics_group which) st) (has_file_of (statistics_of which st.metadata) id) (λ e. logs_quiet (RemoveStatistics which id) st (statistics_same which _ st.metadata) refl (record { adds = refl; sets = refl; removes = refl })) (λ e. rest (statistics_group which) st)
aside terms (AddPartitionSpec o) st n =
    by_option (Aside 7 st) (reused_spec (reusing st.metadata.specs (offered_spec terms.offers o)) st.metadata.specs)
    (λ e. logs_quiet (AddPartitionSpec _) st (specs_same refl) refl (record { adds = refl; sets = refl; removes = refl }))
    (λ id e. by_test (Aside 7 st) (some_with (eq_z id) st.added.spec) (λ f. rest 7 st) (λ f. logs_quiet (AddPartitionSpec _) st (fields_same 7 refl) refl (record { adds = refl; sets = refl; removes = refl })))
aside terms (SetDefaultPartitionSpec id) st n = by_test (Aside 7 st) (eq_z (chosen id st.added.spec) st.metadata.fields.default_spec) (λ e. rest 7 st) (λ e. logs_quiet (SetDefaultPartitionSpec _) st (fields_same 7 refl) refl (record { adds = refl; sets = refl; removes = refl }))
aside terms (RemovePartitionSpecs ids) st n = by_test (Aside 7 st) (is_empty (held_specs ids st.metadata.specs)) (λ e. rest 7 st) (λ e. logs_quiet (RemovePartitionSpecs _) st (specs_same refl) refl (record { adds = refl; sets = refl; removes = refl }))
aside terms (NotFormed counts) st n = rest 1 st
