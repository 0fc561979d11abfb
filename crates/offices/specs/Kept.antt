-- The updates that are kept for the first office, by their kinds.
use Rattle.std.specs.Prelude.{ℕ, Bool, ◌&&◌, ◌||◌, leb}
use Rattle.rules.specs.Kinds.{assign_uuid_kind, set_location_kind, add_schema_kind, set_default_sort_order_kind, add_partition_spec_kind, remove_partition_specs_kind}

-- uuid, version and location; schemas and sort orders; partition specs
abbrev pub is_kept : ℕ → Bool
is_kept kind =
    (leb assign_uuid_kind kind && leb kind set_location_kind)
    || (leb add_schema_kind kind && leb kind set_default_sort_order_kind)
    || (leb add_partition_spec_kind kind && leb kind remove_partition_specs_kind)
