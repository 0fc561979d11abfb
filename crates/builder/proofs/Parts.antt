-- The parts of a tidy update: each is tidy, and so is each record in it.
use Prim.Native.Nat.{ℕ}
use mathlib.Core.Path.{◌≡◌}
use mathlib.Core.Bool.{Bool, true}
use mathlib.Core.List.{List, [], ◌∷◌}
use Rattle.records.specs.declared.update.TableUpdate.{TableUpdate}
use Rattle.rules.specs.Blanks.{is_zero_z, is_tidy_snapshot, is_blank_snapshot, is_tidy_snapshot_ids, is_blank_snapshot_ids, is_tidy_name, is_blank_name, is_tidy_reference, is_blank_reference, is_blank_schema_offer, is_tidy_schema_ids, is_blank_schema_ids, is_tidy_sort_order, is_blank_sort_order, is_tidy_statistics_file, is_blank_statistics_file, is_tidy_spec_offer, is_blank_spec_offer, is_tidy_spec_ids, is_blank_spec_ids}
use Rattle.rules.specs.Kinds.{used_by, fits_kinds, is_tidy_fields_part, is_tidy_snapshots_part, is_tidy_refs_part, is_tidy_schemas_part, is_tidy_sort_orders_part, is_tidy_statistics_part, is_tidy_partition_specs_part, is_tidy_update, snapshot_kinds, snapshot_ids_kinds, ref_name_kinds, reference_kinds, schema_kinds, schema_id_kinds, schema_ids_kinds, sort_order_kinds, statistics_file_kinds, spec_kinds, spec_id_kinds, spec_ids_kinds}
use Rattle.rules.proofs.Checks.{and_left, and_right, parts}

pub record TidyParts (u : TableUpdate) : Type 0 where
  pub fields : is_tidy_fields_part u.kind u.fields ≡ true
  pub snapshots : is_tidy_snapshots_part u.kind u.snapshots ≡ true
  pub refs : is_tidy_refs_part u.kind u.refs ≡ true
  pub schemas : is_tidy_schemas_part u.kind u.schemas ≡ true
  pub orders : is_tidy_sort_orders_part u.kind u.sort_orders ≡ true
  pub statistics : is_tidy_statistics_part u.kind u.statistics ≡ true
  pub specs : is_tidy_partition_specs_part u.kind u.partition_specs ≡ true

pub tidy_parts : (u : TableUpdate) → is_tidy_update u ≡ true → TidyParts u
tidy_parts u e =
    let h = parts (is_tidy_fields_part u.kind u.fields) (is_tidy_snapshots_part u.kind u.snapshots ∷ is_tidy_refs_part u.kind u.refs ∷ is_tidy_schemas_part u.kind u.schemas ∷ is_tidy_sort_orders_part u.kind u.sort_orders ∷ is_tidy_statistics_part u.kind u.statistics ∷ is_tidy_partition_specs_part u.kind u.partition_specs ∷ []) e in
    record { fields = h.0; snapshots = h.1.0; refs = h.1.1.0; schemas = h.1.1.1.0; orders = h.1.1.1.1.0; statistics = h.1.1.1.1.1.0; specs = h.1.1.1.1.1.1.0 }

-- ---- the records

-- a record that fits the kinds is tidy
is_tidy : (kinds : List ℕ) (k : ℕ) (isBlank isTidy : Bool) → fits_kinds kinds k isBlank isTidy ≡ true → isTidy ≡ true
is_tidy kinds k isBlank isTidy e = and_right (used_by kinds k isBlank) isTidy e

module _ (u : TableUpdate) (e : is_tidy_update u ≡ true) where
  pub snapshot_tidy : is_tidy_snapshot u.snapshots.added ≡ true
  unfolding is_tidy_snapshots_part
  snapshot_tidy = is_tidy snapshot_kinds u.kind (is_blank_snapshot u.snapshots.added) (is_tidy_snapshot u.snapshots.added) (and_left (fits_kinds snapshot_kinds u.kind (is_blank_snapshot u.snapshots.added) (is_tidy_snapshot u.snapshots.added)) _ (tidy_parts u e).snapshots)

  pub snapshot_ids_tidy : is_tidy_snapshot_ids u.snapshots.removed ≡ true
  unfolding is_tidy_snapshots_part
  snapshot_ids_tidy = is_tidy snapshot_ids_kinds u.kind (is_blank_snapshot_ids u.snapshots.removed) (is_tidy_snapshot_ids u.snapshots.removed) (and_right (fits_kinds snapshot_kinds u.kind (is_blank_snapshot u.snapshots.added) (is_tidy_snapshot u.snapshots.added)) _ (tidy_parts u e).snapshots)

  pub ref_name_tidy : is_tidy_name u.refs.name ≡ true
  unfolding is_tidy_refs_part
  ref_name_tidy = is_tidy ref_name_kinds u.kind (is_blank_name u.refs.name) (is_tidy_name u.refs.name) (and_left (fits_kinds ref_name_kinds u.kind (is_blank_name u.refs.name) (is_tidy_name u.refs.name)) _ (tidy_parts u e).refs)

  pub reference_tidy : is_tidy_reference u.refs.reference ≡ true
  unfolding is_tidy_refs_part
  reference_tidy = is_tidy reference_kinds u.kind (is_blank_reference u.refs.reference) (is_tidy_reference u.refs.reference) (and_right (fits_kinds ref_name_kinds u.kind (is_blank_name u.refs.name) (is_tidy_name u.refs.name)) _ (tidy_parts u e).refs)

  pub schema_ids_tidy : is_tidy_schema_ids u.schemas.removed ≡ true
  unfolding is_tidy_schemas_part
  schema_ids_tidy = is_tidy schema_ids_kinds u.kind (is_blank_schema_ids u.schemas.removed) (is_tidy_schema_ids u.schemas.removed) (parts (used_by schema_kinds u.kind (is_blank_schema_offer u.schemas.added)) (used_by schema_id_kinds u.kind (is_zero_z u.schemas.chosen.0) ∷ fits_kinds schema_ids_kinds u.kind (is_blank_schema_ids u.schemas.removed) (is_tidy_schema_ids u.schemas.removed) ∷ []) (tidy_parts u e).schemas).1.1.0

  pub order_tidy : is_tidy_sort_order u.sort_orders.added ≡ true
  unfolding is_tidy_sort_orders_part
  order_tidy = is_tidy sort_order_kinds u.kind (is_blank_sort_order u.sort_orders.added) (is_tidy_sort_order u.sort_orders.added) (and_left (fits_kinds sort_order_kinds u.kind (is_blank_sort_order u.sort_orders.added) (is_tidy_sort_order u.sort_orders.added)) _ (tidy_parts u e).orders)

  pub statistics_file_tidy : is_tidy_statistics_file u.statistics.file ≡ true
  unfolding is_tidy_statistics_part
  statistics_file_tidy = is_tidy statistics_file_kinds u.kind (is_blank_statistics_file u.statistics.file) (is_tidy_statistics_file u.statistics.file) (and_left (fits_kinds statistics_file_kinds u.kind (is_blank_statistics_file u.statistics.file) (is_tidy_statistics_file u.statistics.file)) _ (tidy_parts u e).statistics)

  -- the part of partition specs: its offer, and the ids of its removal
  spec_records : (is_tidy_spec_offer u.partition_specs.added ≡ true) × (is_tidy_spec_ids u.partition_specs.removed ≡ true)
  unfolding is_tidy_partition_specs_part
  spec_records =
      let p = u.partition_specs in
      let h = parts (fits_kinds spec_kinds u.kind (is_blank_spec_offer p.added) (is_tidy_spec_offer p.added)) (used_by spec_id_kinds u.kind (is_zero_z p.chosen.0) ∷ fits_kinds spec_ids_kinds u.kind (is_blank_spec_ids p.removed) (is_tidy_spec_ids p.removed) ∷ []) (tidy_parts u e).specs in
      (is_tidy spec_kinds u.kind (is_blank_spec_offer p.added) (is_tidy_spec_offer p.added) h.0, is_tidy spec_ids_kinds u.kind (is_blank_spec_ids p.removed) (is_tidy_spec_ids p.removed) h.1.1.0)

  pub spec_offer_tidy : is_tidy_spec_offer u.partition_specs.added ≡ true
  spec_offer_tidy = spec_records.0

  pub spec_ids_tidy : is_tidy_spec_ids u.partition_specs.removed ≡ true
  spec_ids_tidy = spec_records.1
