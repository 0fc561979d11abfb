-- A tidy update is a blank one of its kind with the records that its kind uses, and so is each of its parts.
use Prim.Native.Nat.{ℕ}
use mathlib.Core.Path.{◌≡◌, refl, sym, ap, ◌∙◌}
use mathlib.Core.Bool.{Bool, true, false, cond, ◌||◌}
use mathlib.Core.List.{List, [], ◌∷◌}
use lib.Dec.{eqb}
use Rattle.records.specs.Blanks.{no_fields_part, no_snapshots_part, no_refs_part, no_schemas_part, no_sort_orders_part, no_statistics_part, no_partition_specs_part}
use Rattle.records.specs.declared.part.FieldsPart.{FieldsPart}
use Rattle.records.specs.declared.part.SnapshotsPart.{SnapshotsPart}
use Rattle.records.specs.declared.part.SchemasPart.{SchemasPart}
use Rattle.records.specs.declared.part.SortOrdersPart.{SortOrdersPart}
use Rattle.records.specs.declared.part.StatisticsPart.{StatisticsPart}
use Rattle.records.specs.declared.part.PartitionSpecsPart.{PartitionSpecsPart}
use Rattle.records.specs.declared.part.RefsPart.{RefsPart}
use Rattle.records.specs.declared.update.TableUpdate.{TableUpdate}
use Rattle.rules.specs.Words.{any}
use Rattle.rules.specs.WellFormed.{update_formed}
use Rattle.rules.specs.Blanks.{is_zero, is_zero_z, is_blank_uuid, is_tidy_text, is_blank_text, is_tidy_snapshot, is_blank_snapshot, is_tidy_snapshot_ids, is_blank_snapshot_ids, is_tidy_name, is_blank_name, is_tidy_reference, is_blank_reference, is_blank_schema_offer, is_tidy_schema_ids, is_blank_schema_ids, is_tidy_sort_order, is_blank_sort_order, is_tidy_statistics_file, is_blank_statistics_file, is_tidy_spec_offer, is_blank_spec_offer, is_tidy_spec_ids, is_blank_spec_ids}
use Rattle.rules.specs.Kinds.{used_by, fits_kinds, is_tidy_fields_part, is_tidy_snapshots_part, is_tidy_refs_part, is_tidy_schemas_part, is_tidy_sort_orders_part, is_tidy_statistics_part, is_tidy_partition_specs_part, is_tidy_update, read_kind, read_update, uuid_kinds, version_kinds, location_kinds, snapshot_kinds, snapshot_ids_kinds, ref_name_kinds, reference_kinds, schema_kinds, schema_id_kinds, schema_ids_kinds, sort_order_kinds, sort_order_id_kinds, statistics_file_kinds, statistics_id_kinds, spec_kinds, spec_id_kinds, spec_ids_kinds}
use Rattle.rules.proofs.Checks.{and_left, parts}
use Rattle.rules.proofs.Slots.Relaid.{zero, zero_z, blank_uuid, blank_text_lem, blank_ref_name, blank_snapshot, blank_snapshot_ids, blank_reference, blank_schema_offer, blank_schema_ids, blank_sort_order, blank_statistics_file, blank_spec_offer, blank_spec_ids}
use Rattle.builder.proofs.Parts.{tidy_parts}

-- ---- by the kind

module _ {A : Type 0} (kinds : List ℕ) where
  -- a record that the kind uses, or its blank
  abbrev used : ℕ → A → A → A
  used kind x blank = cond (any (eqb kind) kinds) x blank

  used_is : (kind : ℕ) (isBlank : Bool) {x blank : A} → (isBlank ≡ true → x ≡ blank) → used_by kinds kind isBlank ≡ true → x ≡ used kind x blank
  used_is kind isBlank {x} {blank} f e = go (any (eqb kind) kinds) e
    where
      go : (b : Bool) → (b || isBlank) ≡ true → x ≡ cond b x blank
      go true e = refl
      go false e = f e

  fits_is : (kind : ℕ) (isBlank isTidy : Bool) {x blank : A} → (isBlank ≡ true → x ≡ blank) → fits_kinds kinds kind isBlank isTidy ≡ true → x ≡ used kind x blank
  fits_is kind isBlank isTidy f e = used_is kind isBlank f (and_left (used_by kinds kind isBlank) isTidy e)

-- ---- the parts: the records that a kind uses, and the others blank

abbrev fields_by : ℕ → FieldsPart → FieldsPart
fields_by k p = record { uuid = used uuid_kinds k p.uuid no_fields_part.uuid; format_version = used version_kinds k p.format_version no_fields_part.format_version; location = used location_kinds k p.location no_fields_part.location }

own_fields : (k : ℕ) (p : FieldsPart) → is_tidy_fields_part k p ≡ true → p ≡ fields_by k p
unfolding is_tidy_fields_part no_fields_part
own_fields k p e =
    let h = parts (used_by uuid_kinds k (is_blank_uuid p.uuid)) (used_by version_kinds k (is_zero p.format_version) ∷ fits_kinds location_kinds k (is_blank_text p.location) (is_tidy_text p.location) ∷ []) e in
    λ i. record {
      uuid = used_is uuid_kinds k (is_blank_uuid p.uuid) (blank_uuid p.uuid) h.0 i;
      format_version = used_is version_kinds k (is_zero p.format_version) (zero p.format_version) h.1.0 i;
      location = fits_is location_kinds k (is_blank_text p.location) (is_tidy_text p.location) (blank_text_lem p.location) h.1.1.0 i;
    }

abbrev snapshots_by : ℕ → SnapshotsPart → SnapshotsPart
snapshots_by k p = record { added = used snapshot_kinds k p.added no_snapshots_part.added; removed = used snapshot_ids_kinds k p.removed no_snapshots_part.removed }

own_snapshots : (k : ℕ) (p : SnapshotsPart) → is_tidy_snapshots_part k p ≡ true → p ≡ snapshots_by k p
unfolding is_tidy_snapshots_part no_snapshots_part
own_snapshots k p e =
    let h = parts (fits_kinds snapshot_kinds k (is_blank_snapshot p.added) (is_tidy_snapshot p.added)) (fits_kinds snapshot_ids_kinds k (is_blank_snapshot_ids p.removed) (is_tidy_snapshot_ids p.removed) ∷ []) e in
    λ i. record {
      added = fits_is snapshot_kinds k (is_blank_snapshot p.added) (is_tidy_snapshot p.added) (blank_snapshot p.added) h.0 i;
      removed = fits_is snapshot_ids_kinds k (is_blank_snapshot_ids p.removed) (is_tidy_snapshot_ids p.removed) (blank_snapshot_ids p.removed) h.1.0 i;
    }

abbrev refs_by : ℕ → RefsPart → RefsPart
refs_by k p = record { name = used ref_name_kinds k p.name no_refs_part.name; reference = used reference_kinds k p.reference no_refs_part.reference }

own_refs_lem : (k : ℕ) (p : RefsPart) → is_tidy_refs_part k p ≡ true → p ≡ refs_by k p
unfolding is_tidy_refs_part
own_refs_lem k p e =
    let h = parts (fits_kinds ref_name_kinds k (is_blank_name p.name) (is_tidy_name p.name)) (fits_kinds reference_kinds k (is_blank_reference p.reference) (is_tidy_reference p.reference) ∷ []) e in
    λ i. record {
      name = fits_is ref_name_kinds k (is_blank_name p.name) (is_tidy_name p.name) (blank_ref_name p.name) h.0 i;
      reference = fits_is reference_kinds k (is_blank_reference p.reference) (is_tidy_reference p.reference) (blank_reference p.reference) h.1.0 i;
    }

abbrev schemas_by : ℕ → SchemasPart → SchemasPart
schemas_by k p = record { added = used schema_kinds k p.added no_schemas_part.added; chosen = used schema_id_kinds k p.chosen no_schemas_part.chosen; removed = used schema_ids_kinds k p.removed no_schemas_part.removed }

own_schemas : (k : ℕ) (p : SchemasPart) → is_tidy_schemas_part k p ≡ true → p ≡ schemas_by k p
unfolding is_tidy_schemas_part no_schemas_part
own_schemas k p e =
    let h = parts (used_by schema_kinds k (is_blank_schema_offer p.added)) (used_by schema_id_kinds k (is_zero_z p.chosen.0) ∷ fits_kinds schema_ids_kinds k (is_blank_schema_ids p.removed) (is_tidy_schema_ids p.removed) ∷ []) e in
    λ i. record {
      added = used_is schema_kinds k (is_blank_schema_offer p.added) (blank_schema_offer p.added) h.0 i;
      chosen = used_is schema_id_kinds k (is_zero_z p.chosen.0) (λ z. λ j. record { 0 = zero_z p.chosen.0 z j }) h.1.0 i;
      removed = fits_is schema_ids_kinds k (is_blank_schema_ids p.removed) (is_tidy_schema_ids p.removed) (blank_schema_ids p.removed) h.1.1.0 i;
    }

abbrev orders_by : ℕ → SortOrdersPart → SortOrdersPart
orders_by k p = record { added = used sort_order_kinds k p.added no_sort_orders_part.added; chosen = used sort_order_id_kinds k p.chosen no_sort_orders_part.chosen }

own_orders : (k : ℕ) (p : SortOrdersPart) → is_tidy_sort_orders_part k p ≡ true → p ≡ orders_by k p
unfolding is_tidy_sort_orders_part no_sort_orders_part
own_orders k p e =
    let h = parts (fits_kinds sort_order_kinds k (is_blank_sort_order p.added) (is_tidy_sort_order p.added)) (used_by sort_order_id_kinds k (is_zero_z p.chosen.0) ∷ []) e in
    λ i. record {
      added = fits_is sort_order_kinds k (is_blank_sort_order p.added) (is_tidy_sort_order p.added) (blank_sort_order p.added) h.0 i;
      chosen = used_is sort_order_id_kinds k (is_zero_z p.chosen.0) (λ z. λ j. record { 0 = zero_z p.chosen.0 z j }) h.1.0 i;
    }

abbrev statistics_by : ℕ → StatisticsPart → StatisticsPart
statistics_by k p = record { file = used statistics_file_kinds k p.file no_statistics_part.file; removed = used statistics_id_kinds k p.removed no_statistics_part.removed }

own_statistics : (k : ℕ) (p : StatisticsPart) → is_tidy_statistics_part k p ≡ true → p ≡ statistics_by k p
unfolding is_tidy_statistics_part no_statistics_part
own_statistics k p e =
    let h = parts (fits_kinds statistics_file_kinds k (is_blank_statistics_file p.file) (is_tidy_statistics_file p.file)) (used_by statistics_id_kinds k (is_zero_z p.removed.0) ∷ []) e in
    λ i. record {
      file = fits_is statistics_file_kinds k (is_blank_statistics_file p.file) (is_tidy_statistics_file p.file) (blank_statistics_file p.file) h.0 i;
      removed = used_is statistics_id_kinds k (is_zero_z p.removed.0) (λ z. λ j. record { 0 = zero_z p.removed.0 z j }) h.1.0 i;
    }

abbrev specs_by : ℕ → PartitionSpecsPart → PartitionSpecsPart
specs_by k p = record { added = used spec_kinds k p.added no_partition_specs_part.added; chosen = used spec_id_kinds k p.chosen no_partition_specs_part.chosen; removed = used spec_ids_kinds k p.removed no_partition_specs_part.removed }

own_specs : (k : ℕ) (p : PartitionSpecsPart) → is_tidy_partition_specs_part k p ≡ true → p ≡ specs_by k p
unfolding is_tidy_partition_specs_part no_partition_specs_part
own_specs k p e =
    let h = parts (fits_kinds spec_kinds k (is_blank_spec_offer p.added) (is_tidy_spec_offer p.added)) (used_by spec_id_kinds k (is_zero_z p.chosen.0) ∷ fits_kinds spec_ids_kinds k (is_blank_spec_ids p.removed) (is_tidy_spec_ids p.removed) ∷ []) e in
    λ i. record {
      added = fits_is spec_kinds k (is_blank_spec_offer p.added) (is_tidy_spec_offer p.added) (blank_spec_offer p.added) h.0 i;
      chosen = used_is spec_id_kinds k (is_zero_z p.chosen.0) (λ z. λ j. record { 0 = zero_z p.chosen.0 z j }) h.1.0 i;
      removed = fits_is spec_ids_kinds k (is_blank_spec_ids p.removed) (is_tidy_spec_ids p.removed) (blank_spec_ids p.removed) h.1.1.0 i;
    }

-- ---- the update

abbrev pub by_kind : ℕ → TableUpdate → TableUpdate
by_kind k u = record { kind = k; fields = fields_by k u.fields; snapshots = snapshots_by k u.snapshots; refs = refs_by k u.refs; schemas = schemas_by k u.schemas; sort_orders = orders_by k u.sort_orders; statistics = statistics_by k u.statistics; partition_specs = specs_by k u.partition_specs }

own_kind : (u : TableUpdate) → is_tidy_update u ≡ true → u ≡ by_kind u.kind u
own_kind u e =
    let h = tidy_parts u e in
    λ i. record {
      kind = u.kind;
      fields = own_fields u.kind u.fields h.fields i;
      snapshots = own_snapshots u.kind u.snapshots h.snapshots i;
      refs = own_refs_lem u.kind u.refs h.refs i;
      schemas = own_schemas u.kind u.schemas h.schemas i;
      sort_orders = own_orders u.kind u.sort_orders h.orders i;
      statistics = own_statistics u.kind u.statistics h.statistics i;
      partition_specs = own_specs u.kind u.partition_specs h.specs i;
    }

-- a tidy update of a kind
module _ (u : TableUpdate) (e : is_tidy_update u ≡ true) (k : ℕ) (q : u.kind ≡ k) where
  pub of_kind_lem : u ≡ by_kind k u
  of_kind_lem = own_kind u e ∙ ap (λ (x : ℕ). by_kind x u) q

  pub read_kind_lem : read_update u ≡ read_kind (by_kind k u)
  unfolding read_update
  read_kind_lem = rw e (ap (λ (x : TableUpdate). read_kind x) of_kind_lem)

  pub formed_kind : update_formed (read_kind u) ≡ true → update_formed (read_kind (by_kind k u)) ≡ true
  formed_kind f = ap (λ (x : TableUpdate). update_formed (read_kind x)) (sym of_kind_lem) ∙ f
