-- What an update does to the held specs and to last partition id: one that adds a new spec puts it in with its fresh ids and raises last partition id to them,
-- a removal takes specs away, and every other leaves both as they are.
use Prim.Native.Nat.{ℕ}
use mathlib.Core.Path.{◌≡◌, refl}
use mathlib.Core.Bool.{not}
use mathlib.Core.List.{List, []}
use mathlib.Core.Option.{Option, none, some}
use lib.Dec.{eqb}
use lib.IntN.{ℤ, suc_ℤ}
use Rattle.rules.specs.Words.{eq_z, larger, is_some, some_with, keep, is_empty, same_bytes, is_in, highest, put}
use Rattle.rules.specs.Names.{is_main, trimmed}
use Rattle.rules.specs.Register.{Reference, Schema, SchemaOffer, SortOrder, PartitionSpec, SpecOffer, Update, Terms, State}
use Rattle.rules.specs.Register.Update.{AssignUuid, UpgradeFormatVersion, SetLocation, AddSnapshot, SetBranchSnapshot, RemoveSnapshots, SetRef, RemoveRef, AddSchema, SetCurrentSchema, RemoveSchemas, AddSortOrder, SetDefaultSortOrder, SetStatistics, RemoveStatistics, AddPartitionSpec, SetDefaultPartitionSpec, RemovePartitionSpecs, NotFormed}
use Rattle.rules.specs.Register.StatisticsTable.{Statistics, PartitionStatistics}
use Rattle.rules.specs.Partitions.{spec_ids}
use Rattle.rules.specs.WellFormed.{spec_below}
use Rattle.rules.specs.SingleUpdates.{assign_uuid, upgrade_format_version, set_location}
use Rattle.rules.specs.SnapshotUpdates.{add_snapshot, held_snapshots, remove_snapshots}
use Rattle.rules.specs.RefUpdates.{ref_named, is_held_ref, put_ref, set_ref, committed, set_branch_snapshot, remove_ref}
use Rattle.rules.specs.Offers.{offered_schema, offered_spec}
use Rattle.rules.specs.SchemaUpdates.{reused_schema, add_schema, chosen, set_current_schema, remove_schemas}
use Rattle.rules.specs.OrderUpdates.{reused_order, add_sort_order, set_default_sort_order}
use Rattle.rules.specs.StatisticsUpdates.{has_file_of, set_statistics, remove_statistics}
use Rattle.rules.specs.SpecUpdates.{reusing, reused_spec, fresh_of, completed, spec_named, reuse_spec, reaches, new_spec, spec_added, add_partition_spec, set_default_partition_spec, held_specs, remove_partition_specs}
use Rattle.rules.specs.Updates.{effect}
use Rattle.rules.specs.FieldIds.{fresh_added, fresh_by}
use Rattle.rules.proofs.Checks.{by_test, by_option}

-- what field ids depend on in a state
pub record SpecView : Type 0 where
  pub specs : List PartitionSpec
  pub last : ℤ

abbrev pub spec_view : State → SpecView
spec_view st = record { specs = st.metadata.specs; last = st.metadata.fields.last_partition }

abbrev pub KeepsSpecs : State → State → Type 0
KeepsSpecs st st' = spec_view st' ≡ spec_view st

-- from st to st' all is left, or specs are removed, or one is added: these are its fresh ids
pub data SpecStep (st st' : State) : List ℤ → Type 0 where
  leaves : KeepsSpecs st st' → SpecStep st st' []
  removes : (ids : List ℤ) → spec_view st' ≡ record { specs = keep (λ (s : PartitionSpec). not (is_in ids s.id)) st.metadata.specs; last = st.metadata.fields.last_partition } → SpecStep st st' []
  adds : (s : PartitionSpec)
      → spec_view st' ≡ record { specs = put spec_below (completed st.metadata.fields.last_partition s) st.metadata.specs; last = larger st.metadata.fields.last_partition (reaches (completed st.metadata.fields.last_partition s)) }
      → SpecStep st st' (fresh_of st.metadata.fields.last_partition s)

-- a spec with its given and reused ids
spec_added_step : (o : SpecOffer) (s : PartitionSpec) (st : State) → SpecStep st (spec_added o s st) (fresh_added s st.metadata)
unfolding spec_added
spec_added_step o s st = go (reused_spec s st.metadata.specs)
  where
    new : PartitionSpec
    new = spec_named (suc_ℤ (highest (spec_ids st.metadata.specs))) s

    reuse : (id : ℤ) → SpecStep st (reuse_spec o (spec_named id s) st) []
    reuse id = by_test (λ (x : State). SpecStep st x []) (some_with (eq_z id) st.added.spec) (λ q. leaves refl) (λ q. leaves refl)

    go : (f : Option ℤ) → SpecStep st (elim f [ none ↦ new_spec o new st | some id ↦ reuse_spec o (spec_named id s) st ]) (elim f [ none ↦ fresh_of st.metadata.fields.last_partition s | some id ↦ [] ])
    go none = adds new refl
    go (some id) = reuse id

-- ---- the updates that leave all of it as it is

module _ (st : State) where
  leaves_set_ref : (terms : Terms) (name : List ℕ) (r : Reference) → KeepsSpecs st (set_ref terms name r st)
  unfolding set_ref
  leaves_set_ref terms name r =
      by_test (KeepsSpecs st) (is_held_ref name r st.metadata.refs)
      (λ e. refl)
      (λ e. by_test (λ (x : State). KeepsSpecs st (put_ref terms.office name r x)) (is_main name) (λ f. refl) (λ f. refl))

  leaves_remove_ref : (name : List ℕ) → KeepsSpecs st (remove_ref name st)
  unfolding remove_ref
  leaves_remove_ref name = by_test (KeepsSpecs st) (is_main name) (λ e. refl) (λ e. by_test (KeepsSpecs st) (is_some (ref_named name st.metadata.refs)) (λ f. refl) (λ f. refl))

  leaves_schema : (o : SchemaOffer) (s : Schema) → KeepsSpecs st (add_schema o s st)
  unfolding add_schema
  leaves_schema o s = by_option (KeepsSpecs st) (reused_schema s st.metadata.schemas) (λ n. refl) (λ id n. by_test (KeepsSpecs st) (some_with (eq_z id) st.added.schema) (λ e. refl) (λ e. refl))

  leaves_order : (o : SortOrder) → KeepsSpecs st (add_sort_order o st)
  unfolding add_sort_order
  leaves_order o = by_option (KeepsSpecs st) (reused_order o st.metadata.orders) (λ n. refl) (λ id n. by_test (KeepsSpecs st) (some_with (eq_z id) st.added.order) (λ e. refl) (λ e. refl))

-- ---- any update

pub effect_specs : (terms : Terms) (u : Update) (st : State) → SpecStep st (effect terms u st) (fresh_by terms u st)
unfolding effect fresh_by assign_uuid upgrade_format_version set_location add_snapshot set_branch_snapshot remove_snapshots set_current_schema remove_schemas set_default_sort_order set_statistics remove_statistics add_partition_spec set_default_partition_spec remove_partition_specs
effect_specs terms (AssignUuid uuid) st = leaves (by_test (KeepsSpecs st) (same_bytes uuid st.metadata.fields.uuid) (λ q. refl) (λ q. refl))
effect_specs terms (UpgradeFormatVersion v) st = leaves (by_test (KeepsSpecs st) (eqb v st.metadata.fields.version) (λ q. refl) (λ q. refl))
effect_specs terms (SetLocation location) st = leaves (by_test (KeepsSpecs st) (same_bytes (trimmed location) st.metadata.fields.location) (λ q. refl) (λ q. refl))
effect_specs terms (AddSnapshot s) st = leaves refl
effect_specs terms (SetBranchSnapshot name s) st = leaves (leaves_set_ref (add_snapshot s st) terms name (committed name s.id st.metadata.refs))
effect_specs terms (RemoveSnapshots ids) st = leaves (by_test (KeepsSpecs st) (is_empty (held_snapshots ids st.metadata.snapshots)) (λ q. refl) (λ q. refl))
effect_specs terms (SetRef name r) st = leaves (leaves_set_ref st terms name r)
effect_specs terms (RemoveRef name) st = leaves (leaves_remove_ref st name)
effect_specs terms (AddSchema o) st = leaves (leaves_schema st o (offered_schema terms.offers o))
effect_specs terms (SetCurrentSchema id) st = leaves (by_test (KeepsSpecs st) (eq_z (chosen id st.added.schema) st.metadata.fields.current_schema) (λ q. refl) (λ q. refl))
effect_specs terms (RemoveSchemas ids) st = leaves (by_test (KeepsSpecs st) (is_empty ids) (λ q. refl) (λ q. refl))
effect_specs terms (AddSortOrder o) st = leaves (leaves_order st o)
effect_specs terms (SetDefaultSortOrder id) st = leaves (by_test (KeepsSpecs st) (eq_z (chosen id st.added.order) st.metadata.fields.default_order) (λ q. refl) (λ q. refl))
effect_specs terms (SetStatistics Statistics f) st = leaves refl
effect_specs terms (SetStatistics PartitionStatistics f) st = leaves refl
effect_specs terms (RemoveStatistics Statistics id) st = leaves (by_test (KeepsSpecs st) (has_file_of st.metadata.statistics id) (λ q. refl) (λ q. refl))
effect_specs terms (RemoveStatistics PartitionStatistics id) st = leaves (by_test (KeepsSpecs st) (has_file_of st.metadata.partition_statistics id) (λ q. refl) (λ q. refl))
effect_specs terms (AddPartitionSpec o) st = spec_added_step o (reusing st.metadata.specs (offered_spec terms.offers o)) st
effect_specs terms (SetDefaultPartitionSpec id) st = leaves (by_test (KeepsSpecs st) (eq_z (chosen id st.added.spec) st.metadata.fields.default_spec) (λ q. refl) (λ q. refl))
effect_specs terms (RemovePartitionSpecs ids) st = by_test (λ (x : State). SpecStep st x []) (is_empty (held_specs ids st.metadata.specs)) (λ q. leaves refl) (λ q. removes ids refl)
effect_specs terms (NotFormed counts) st = leaves refl
