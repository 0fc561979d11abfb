-- The update that is made, part by part, and where its offer stands.
use Rattle.std.specs.Prelude.{ℕ, ◌*◌, cond, List, [], ◌∷◌, eqb}
use Rattle.records.specs.Blanks.{no_fields_part, no_snapshots_part, no_refs_part, no_schemas_part, no_sort_orders_part, no_statistics_part, no_partition_specs_part}
use Rattle.records.specs.declared.part.FieldsPart.{FieldsPart}
use Rattle.records.specs.declared.part.SnapshotsPart.{SnapshotsPart}
use Rattle.records.specs.declared.part.RefsPart.{RefsPart}
use Rattle.records.specs.declared.part.SchemasPart.{SchemasPart}
use Rattle.records.specs.declared.part.SortOrdersPart.{SortOrdersPart}
use Rattle.records.specs.declared.part.PartitionSpecsPart.{PartitionSpecsPart}
use Rattle.records.specs.declared.update.TableUpdate.{TableUpdate}
use Rattle.rules.specs.Words.{any}
use Rattle.rules.specs.Layout.{laid_text, laid_name, laid_snapshot, laid_snapshot_ids, laid_reference, laid_schema_offer, laid_schema_ids, laid_sort_order, laid_spec_offer, laid_spec_ids}
use Rattle.rules.specs.Kinds.{with_uuid, with_format_version, with_location, with_snapshot, with_snapshot_ids, with_ref_name, with_schema_offer, with_schema_id, with_schema_ids, with_sort_order, with_sort_order_id, with_spec_offer, with_spec_id, with_spec_ids, assign_uuid_kind, upgrade_format_version_kind, set_location_kind, add_snapshot_kind, remove_snapshots_kind, set_ref_kind, remove_ref_kind, add_schema_kind, set_current_schema_kind, remove_schemas_kind, add_sort_order_kind, set_default_sort_order_kind, add_partition_spec_kind, set_default_partition_spec_kind, remove_partition_specs_kind}
use Rattle.json_store.specs.Places.{uuid_at, location_at, ref_name_at, fields_at, partitions_at}
use Rattle.json_store.specs.Numbers.{number_at, narrow_at, byte_at, count_at}
use Rattle.json_store.specs.Puts.{part}
use Rattle.json_store.specs.Made.{text_in, snapshot_in, snapshot_ids_in, reference_in, schema_offer_in, schema_ids_in, sort_order_in, spec_offer_in, spec_ids_in}

-- the kinds of which an update is made; 0 is none
abbrev pub made_kinds : List ℕ
made_kinds = 1 ∷ 2 ∷ 3 ∷ 4 ∷ 6 ∷ 7 ∷ 8 ∷ 9 ∷ 10 ∷ 11 ∷ 12 ∷ 13 ∷ 18 ∷ 19 ∷ 20 ∷ []

unfoldable pub made_kind : ℕ → ℕ
made_kind kind = cond (any (eqb kind) made_kinds) kind 0

unfoldable pub fields_part_in : ℕ → List ℕ → List ℕ → FieldsPart
fields_part_in kind numbers texts =
    cond (eqb kind assign_uuid_kind) (with_uuid (part uuid_at 16 texts) no_fields_part)
    (cond (eqb kind upgrade_format_version_kind) (with_format_version (byte_at numbers 5) no_fields_part)
    (cond (eqb kind set_location_kind) (with_location (laid_text (text_in 96 location_at texts)) no_fields_part)
    no_fields_part))

unfoldable pub snapshots_part_in : ℕ → List ℕ → List ℕ → SnapshotsPart
snapshots_part_in kind slots numbers =
    cond (eqb kind add_snapshot_kind) (with_snapshot (laid_snapshot (snapshot_in slots numbers)) no_snapshots_part)
    (cond (eqb kind remove_snapshots_kind) (with_snapshot_ids (laid_snapshot_ids (snapshot_ids_in numbers)) no_snapshots_part)
    no_snapshots_part)

unfoldable pub refs_part_in : ℕ → List ℕ → List ℕ → List ℕ → RefsPart
refs_part_in kind slots numbers texts =
    cond (eqb kind set_ref_kind) (record { name = laid_name (text_in 32 ref_name_at texts); reference = laid_reference (reference_in slots numbers) })
    (cond (eqb kind remove_ref_kind) (with_ref_name (laid_name (text_in 32 ref_name_at texts)) no_refs_part)
    no_refs_part)

unfoldable pub schemas_part_in : ℕ → ℕ → List ℕ → List ℕ → SchemasPart
schemas_part_in kind place slots numbers =
    cond (eqb kind add_schema_kind) (with_schema_offer (laid_schema_offer (schema_offer_in slots numbers place)) no_schemas_part)
    (cond (eqb kind set_current_schema_kind) (with_schema_id (record { 0 = narrow_at numbers 17 }) no_schemas_part)
    (cond (eqb kind remove_schemas_kind) (with_schema_ids (laid_schema_ids (schema_ids_in numbers)) no_schemas_part)
    no_schemas_part))

unfoldable pub sort_orders_part_in : ℕ → List ℕ → SortOrdersPart
sort_orders_part_in kind numbers =
    cond (eqb kind add_sort_order_kind) (with_sort_order (laid_sort_order (sort_order_in numbers)) no_sort_orders_part)
    (cond (eqb kind set_default_sort_order_kind) (with_sort_order_id (record { 0 = number_at numbers 20 }) no_sort_orders_part)
    no_sort_orders_part)

unfoldable pub specs_part_in : ℕ → ℕ → List ℕ → List ℕ → PartitionSpecsPart
specs_part_in kind place slots numbers =
    cond (eqb kind add_partition_spec_kind) (with_spec_offer (laid_spec_offer (spec_offer_in slots numbers place)) no_partition_specs_part)
    (cond (eqb kind set_default_partition_spec_kind) (with_spec_id (record { 0 = narrow_at numbers 22 }) no_partition_specs_part)
    (cond (eqb kind remove_partition_specs_kind) (with_spec_ids (laid_spec_ids (spec_ids_in numbers)) no_partition_specs_part)
    no_partition_specs_part))

abbrev pub in_parts : ℕ → ℕ → List ℕ → List ℕ → List ℕ → TableUpdate
in_parts kind place slots numbers texts =
    record {
      kind = made_kind kind;
      fields = fields_part_in kind numbers texts;
      snapshots = snapshots_part_in kind slots numbers;
      refs = refs_part_in kind slots numbers texts;
      schemas = schemas_part_in kind place slots numbers;
      sort_orders = sort_orders_part_in kind numbers;
      statistics = no_statistics_part;
      partition_specs = specs_part_in kind place slots numbers;
    }

-- ---- where its offer stands among the texts, and how long it is

unfoldable pub offer_at : ℕ → ℕ
offer_at kind = cond (eqb kind add_schema_kind) fields_at partitions_at

unfoldable pub offer_length : ℕ → List ℕ → ℕ
offer_length kind numbers = cond (eqb kind add_schema_kind) (count_at 32 numbers 38 * 38) (cond (eqb kind add_partition_spec_kind) (count_at 8 numbers 52 * 42) 0)
