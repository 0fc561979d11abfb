-- The parts of metadata in which no fault was found: each is tidy and well formed, and its tables are laid out as the functions on tables ask.
use mathlib.Core.Path.{◌≡◌, refl, ◌∙◌}
use mathlib.Core.Bool.{Bool, true, ◌&&◌, ◌||◌, and-false}
use mathlib.Core.List.{List, [], ◌∷◌, ◌++◌}
use borrow.Author.Tests.{not-false}
use lib.Dec.{leb}
use lib.ListN.{length}
use lib.Signed.{non_neg}
use Rattle.records.specs.declared.reference.Refs.{Refs}
use Rattle.records.specs.declared.metadata.TableMetadata.{TableMetadata}
use Rattle.rules.specs.Words.{all, ascending, first_of, Check}
use Rattle.rules.specs.Capacities.{snapshot_room, ref_room, snapshot_log_room, metadata_log_room, schema_room, sort_order_room, spec_room, statistics_room}
use Rattle.rules.specs.Register as plain
use Rattle.rules.specs.WellFormed.{version_formed, name_formed, location_formed, file_name_formed, snapshot_formed, reference_formed, owner_formed, ref_formed, schema_formed, order_formed, spec_formed, statistics_file_formed, snapshot_below, ref_below, schema_below, order_below, spec_below, statistics_below, snapshots_formed, refs_formed, snapshot_log_formed, metadata_log_formed, schemas_formed, orders_formed, specs_formed, statistics_formed, fields_formed}
use Rattle.rules.specs.Blanks.{is_zero_z, is_tidy_text, is_tidy_snapshots, is_tidy_refs, is_tidy_snapshot_log, is_tidy_metadata_log, is_tidy_schemas, is_tidy_sort_orders, is_tidy_partition_specs, is_tidy_statistics, is_tidy_fields}
use Rattle.rules.specs.Layout.{read_text, read_snapshots, read_refs, read_snapshot_log, read_metadata_log, read_schemas, read_sort_orders, read_partition_specs, read_statistics, read_fields}
use Rattle.rules.proofs.Checks.{both, and_left, and_right, parts, numbered, Passed, passed, passed_before, passed_after, first_after}
use Rattle.rules.proofs.Tables.{all_then}
use Rattle.tables.specs.Laid.{LaidRefs, LaidSchemas, LaidOrders, LaidSpecs}
use Rattle.formed.proofs.Laid.{laid_formed_refs, laid_schemas_lem, laid_orders, laid_specs}
use Rattle.faults.specs.Faults.{field_faults, snapshot_faults, ref_faults, snapshot_log_faults, metadata_log_faults, schema_faults, order_faults, spec_faults, statistics_faults, part_faults, agreement_faults, metadata_faults}
use Rattle.faults.proofs.Picked.{log_fine, table_fine, log_faultless, table_faultless}

-- tidy, and well formed
abbrev Fine : Bool → Bool → Type 0
Fine tidy formed = (tidy ≡ true) × (formed ≡ true)

-- each part by itself
pub record FineParts (m : TableMetadata) : Type 0 where
  pub fields : Fine (is_tidy_fields m.fields) (fields_formed (read_fields m.fields))
  pub snapshots : Fine (is_tidy_snapshots m.snapshots) (snapshots_formed (read_snapshots m.snapshots))
  pub refs : Fine (is_tidy_refs m.refs) (refs_formed (read_refs m.refs))
  pub snapshot_log : Fine (is_tidy_snapshot_log m.snapshot_log) (snapshot_log_formed (read_snapshot_log m.snapshot_log))
  pub metadata_log : Fine (is_tidy_metadata_log m.metadata_log) (metadata_log_formed (read_metadata_log m.metadata_log))
  pub schemas : Fine (is_tidy_schemas m.schemas) (schemas_formed (read_schemas m.schemas))
  pub orders : Fine (is_tidy_sort_orders m.sort_orders) (orders_formed (read_sort_orders m.sort_orders))
  pub statistics : Fine (is_tidy_statistics m.statistics) (statistics_formed (read_statistics m.statistics))
  pub partition_statistics : Fine (is_tidy_statistics m.partition_statistics) (statistics_formed (read_statistics m.partition_statistics))
  pub specs : Fine (is_tidy_partition_specs m.partition_specs) (specs_formed (read_partition_specs m.partition_specs))

-- ---- the single fields

fields_fine : (m : TableMetadata) → Passed (field_faults m.fields) → Fine (is_tidy_fields m.fields) (fields_formed (read_fields m.fields))
unfolding field_faults is_tidy_fields fields_formed
fields_fine m k =
    let f = m.fields in
    let l : (is_tidy_text f.location && location_formed (read_text f.location)) ≡ true = not-false _ k.1.0 in (
      both (and_left (is_tidy_text f.location) _ l) (not-false (f.has_current || is_zero_z f.current_snapshot_id.0) k.1.1.1.0),
      both (both (both (not-false (version_formed f.format_version) k.0) (and_right (is_tidy_text f.location) _ l)) (not-false (non_neg f.last_sequence_number.0) k.1.1.0)) (not-false (non_neg f.last_partition_id.0) k.1.1.1.1.0),
    )

fields_faultless : (m : TableMetadata) → Fine (is_tidy_fields m.fields) (fields_formed (read_fields m.fields)) → first_of (field_faults m.fields) ≡ 0
unfolding field_faults is_tidy_fields fields_formed
fields_faultless m k =
    let f = m.fields in
    let p = parts (version_formed f.format_version) (location_formed (read_text f.location) ∷ non_neg f.last_sequence_number.0 ∷ non_neg f.last_partition_id.0 ∷ []) k.1 in
    rw (p.0, and_left (is_tidy_text f.location) (f.has_current || is_zero_z f.current_snapshot_id.0) k.0, p.1.0, p.1.1.0, and_right (is_tidy_text f.location) (f.has_current || is_zero_z f.current_snapshot_id.0) k.0, p.1.1.1.0)

-- ---- refs

-- the owner of a well-formed ref is well formed
refs_faultless : (t : Refs) → Fine (is_tidy_refs t) (refs_formed (read_refs t)) → first_of (ref_faults t) ≡ 0
unfolding ref_faults refs_formed
refs_faultless t k =
    let l = read_refs t in
    let f = parts (leb (length l) ref_room) (all ref_formed l ∷ ascending ref_below l ∷ []) k.1 in
    let o : all owner_formed l ≡ true = all_then ref_formed owner_formed (λ r e. and_right (name_formed r.name && reference_formed r.reference) (owner_formed r) e) l f.1.0 in
    rw (o, and-false (leb (length l) ref_room)) (table_faultless 9 ref_room (is_tidy_refs t) ref_formed l ref_below k)

-- ---- all parts

-- no number is 0
pub parts_numbered : (m : TableMetadata) → numbered (part_faults m) ≡ true
unfolding part_faults field_faults snapshot_faults ref_faults snapshot_log_faults metadata_log_faults schema_faults order_faults spec_faults statistics_faults
parts_numbered m = refl

pub all_numbered : (m : TableMetadata) → numbered (metadata_faults m) ≡ true
unfolding metadata_faults part_faults field_faults snapshot_faults ref_faults snapshot_log_faults metadata_log_faults schema_faults order_faults spec_faults statistics_faults agreement_faults
all_numbered m = refl

module _ (m : TableMetadata) where
  -- the tests from a part on
  abbrev pub from_specs : List Check
  from_specs = spec_faults m.partition_specs

  abbrev pub from_partition : List Check
  from_partition = statistics_faults 25 m.partition_statistics ++ from_specs

  abbrev pub from_statistics : List Check
  from_statistics = statistics_faults 22 m.statistics ++ from_partition

  abbrev pub from_orders : List Check
  from_orders = order_faults m.sort_orders ++ from_statistics

  abbrev pub from_schemas : List Check
  from_schemas = schema_faults m.schemas ++ from_orders

  abbrev pub from_metadata_log : List Check
  from_metadata_log = metadata_log_faults m.metadata_log ++ from_schemas

  abbrev pub from_snapshot_log : List Check
  from_snapshot_log = snapshot_log_faults m.snapshot_log ++ from_metadata_log

  abbrev pub from_refs : List Check
  from_refs = ref_faults m.refs ++ from_snapshot_log

  abbrev pub from_snapshots : List Check
  from_snapshots = snapshot_faults m.snapshots ++ from_refs

  pub fine_parts : first_of (part_faults m) ≡ 0 → FineParts m
  unfolding part_faults field_faults snapshot_faults ref_faults snapshot_log_faults metadata_log_faults schema_faults order_faults spec_faults statistics_faults snapshots_formed refs_formed snapshot_log_formed metadata_log_formed schemas_formed orders_formed specs_formed statistics_formed
  fine_parts e =
      let e1 = passed_after (field_faults m.fields) from_snapshots refl e in
      let e2 = passed_after (snapshot_faults m.snapshots) from_refs refl e1 in
      let e3 = passed_after (ref_faults m.refs) from_snapshot_log refl e2 in
      let e4 = passed_after (snapshot_log_faults m.snapshot_log) from_metadata_log refl e3 in
      let e5 = passed_after (metadata_log_faults m.metadata_log) from_schemas refl e4 in
      let e6 = passed_after (schema_faults m.schemas) from_orders refl e5 in
      let e7 = passed_after (order_faults m.sort_orders) from_statistics refl e6 in
      let e8 = passed_after (statistics_faults 22 m.statistics) from_partition refl e7 in
      let e9 = passed_after (statistics_faults 25 m.partition_statistics) from_specs refl e8 in
      record {
        fields = fields_fine m (passed (field_faults m.fields) refl (passed_before (field_faults m.fields) from_snapshots e));
        snapshots = table_fine 6 snapshot_room (is_tidy_snapshots m.snapshots) snapshot_formed (read_snapshots m.snapshots) snapshot_below (passed (snapshot_faults m.snapshots) refl (passed_before (snapshot_faults m.snapshots) from_refs e1));
        refs = table_fine 9 ref_room (is_tidy_refs m.refs) ref_formed (read_refs m.refs) ref_below (passed (ref_faults m.refs) refl (passed_before (ref_faults m.refs) from_snapshot_log e2)).1;
        snapshot_log = log_fine 12 snapshot_log_room (is_tidy_snapshot_log m.snapshot_log) (λ (x : plain.LogEntry). non_neg x.snapshot) (read_snapshot_log m.snapshot_log) (passed (snapshot_log_faults m.snapshot_log) refl (passed_before (snapshot_log_faults m.snapshot_log) from_metadata_log e3));
        metadata_log = log_fine 14 metadata_log_room (is_tidy_metadata_log m.metadata_log) (λ (x : plain.FileEntry). file_name_formed x.file) (read_metadata_log m.metadata_log) (passed (metadata_log_faults m.metadata_log) refl (passed_before (metadata_log_faults m.metadata_log) from_schemas e4));
        schemas = table_fine 16 schema_room (is_tidy_schemas m.schemas) schema_formed (read_schemas m.schemas) schema_below (passed (schema_faults m.schemas) refl (passed_before (schema_faults m.schemas) from_orders e5));
        orders = table_fine 19 sort_order_room (is_tidy_sort_orders m.sort_orders) order_formed (read_sort_orders m.sort_orders) order_below (passed (order_faults m.sort_orders) refl (passed_before (order_faults m.sort_orders) from_statistics e6));
        statistics = table_fine 22 statistics_room (is_tidy_statistics m.statistics) statistics_file_formed (read_statistics m.statistics) statistics_below (passed (statistics_faults 22 m.statistics) refl (passed_before (statistics_faults 22 m.statistics) from_partition e7));
        partition_statistics = table_fine 25 statistics_room (is_tidy_statistics m.partition_statistics) statistics_file_formed (read_statistics m.partition_statistics) statistics_below (passed (statistics_faults 25 m.partition_statistics) refl (passed_before (statistics_faults 25 m.partition_statistics) from_specs e8));
        specs = table_fine 28 spec_room (is_tidy_partition_specs m.partition_specs) spec_formed (read_partition_specs m.partition_specs) spec_below (passed (spec_faults m.partition_specs) refl e9);
      }

  pub faultless_parts : FineParts m → first_of (part_faults m) ≡ 0
  unfolding part_faults field_faults snapshot_faults ref_faults snapshot_log_faults metadata_log_faults schema_faults order_faults spec_faults statistics_faults snapshots_formed refs_formed snapshot_log_formed metadata_log_formed schemas_formed orders_formed specs_formed statistics_formed
  faultless_parts k =
      first_after (field_faults m.fields) from_snapshots refl (fields_faultless m k.fields)
      ∙ first_after (snapshot_faults m.snapshots) from_refs refl (table_faultless 6 snapshot_room (is_tidy_snapshots m.snapshots) snapshot_formed (read_snapshots m.snapshots) snapshot_below k.snapshots)
      ∙ first_after (ref_faults m.refs) from_snapshot_log refl (refs_faultless m.refs k.refs)
      ∙ first_after (snapshot_log_faults m.snapshot_log) from_metadata_log refl (log_faultless 12 snapshot_log_room (is_tidy_snapshot_log m.snapshot_log) (λ (x : plain.LogEntry). non_neg x.snapshot) (read_snapshot_log m.snapshot_log) k.snapshot_log)
      ∙ first_after (metadata_log_faults m.metadata_log) from_schemas refl (log_faultless 14 metadata_log_room (is_tidy_metadata_log m.metadata_log) (λ (x : plain.FileEntry). file_name_formed x.file) (read_metadata_log m.metadata_log) k.metadata_log)
      ∙ first_after (schema_faults m.schemas) from_orders refl (table_faultless 16 schema_room (is_tidy_schemas m.schemas) schema_formed (read_schemas m.schemas) schema_below k.schemas)
      ∙ first_after (order_faults m.sort_orders) from_statistics refl (table_faultless 19 sort_order_room (is_tidy_sort_orders m.sort_orders) order_formed (read_sort_orders m.sort_orders) order_below k.orders)
      ∙ first_after (statistics_faults 22 m.statistics) from_partition refl (table_faultless 22 statistics_room (is_tidy_statistics m.statistics) statistics_file_formed (read_statistics m.statistics) statistics_below k.statistics)
      ∙ first_after (statistics_faults 25 m.partition_statistics) from_specs refl (table_faultless 25 statistics_room (is_tidy_statistics m.partition_statistics) statistics_file_formed (read_statistics m.partition_statistics) statistics_below k.partition_statistics)
      ∙ table_faultless 28 spec_room (is_tidy_partition_specs m.partition_specs) spec_formed (read_partition_specs m.partition_specs) spec_below k.specs

-- ---- the tables as the functions on tables ask them

module _ {m : TableMetadata} (k : FineParts m) where
  pub refs_laid : LaidRefs m.refs
  refs_laid = laid_formed_refs m.refs k.refs.0 k.refs.1

  pub schemas_laid : LaidSchemas m.schemas
  schemas_laid = laid_schemas_lem m.schemas k.schemas.0 k.schemas.1

  pub orders_laid : LaidOrders m.sort_orders
  orders_laid = laid_orders m.sort_orders k.orders.0 k.orders.1

  pub specs_laid : LaidSpecs m.partition_specs
  specs_laid = laid_specs m.partition_specs k.specs.0 k.specs.1
