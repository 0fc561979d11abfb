-- The parts of metadata in the order of the case format, and the first that differs.
use Rattle.std.specs.Prelude.{Bool, ◌&&◌, List, [], ◌∷◌, ◌++◌, eqb, ℤ}
use Rattle.std.specs.Bool.{beq}
use Rattle.rules.specs.Words.{eq_z, same_bytes}
use Rattle.records.specs.declared.metadata.SingleFields.{SingleFields}
use Rattle.records.specs.declared.metadata.TableMetadata.{TableMetadata}
use Rattle.equality.specs.Same.{same_text, same_snapshot, same_ref, same_log_entry, same_file_entry, same_schema, same_sort_order, same_statistics_file, same_partition_spec}
use Rattle.compare.specs.declared.difference.Difference.{Difference}
use Rattle.compare.specs.First.{Part, field, table, first}

-- a flag, and the number behind it
abbrev pub same_flagged : Bool × ℤ → Bool × ℤ → Bool
same_flagged x y = beq x.0 y.0 && eq_z x.1 y.1

-- the fields in front of the tables
abbrev pub field_parts : SingleFields → SingleFields → List Part
field_parts a b =
    field eqb a.format_version b.format_version
    ∷ field same_bytes a.table_uuid b.table_uuid
    ∷ field same_text a.location b.location
    ∷ field eq_z a.last_updated_ms.0 b.last_updated_ms.0
    ∷ field eq_z a.last_sequence_number.0 b.last_sequence_number.0
    ∷ field eqb a.next_row_id.0 b.next_row_id.0
    ∷ field eq_z a.last_column_id.0 b.last_column_id.0
    ∷ field same_flagged (a.has_current, a.current_snapshot_id.0) (b.has_current, b.current_snapshot_id.0)
    ∷ []

-- the tables, and the fields that stand behind them
abbrev pub table_parts : TableMetadata → TableMetadata → List Part
table_parts a b =
    table same_snapshot a.snapshots.items b.snapshots.items a.snapshots.count b.snapshots.count
    ∷ table same_ref a.refs.items b.refs.items a.refs.count b.refs.count
    ∷ table same_log_entry a.snapshot_log.items b.snapshot_log.items a.snapshot_log.count b.snapshot_log.count
    ∷ table same_file_entry a.metadata_log.items b.metadata_log.items a.metadata_log.count b.metadata_log.count
    ∷ table same_schema a.schemas.items b.schemas.items a.schemas.count b.schemas.count
    ∷ field eq_z a.fields.current_schema_id.0 b.fields.current_schema_id.0
    ∷ table same_sort_order a.sort_orders.items b.sort_orders.items a.sort_orders.count b.sort_orders.count
    ∷ field eq_z a.fields.default_sort_order_id.0 b.fields.default_sort_order_id.0
    ∷ table same_statistics_file a.statistics.items b.statistics.items a.statistics.count b.statistics.count
    ∷ table same_statistics_file a.partition_statistics.items b.partition_statistics.items a.partition_statistics.count b.partition_statistics.count
    ∷ table same_partition_spec a.partition_specs.items b.partition_specs.items a.partition_specs.count b.partition_specs.count
    ∷ field eq_z a.fields.default_spec_id.0 b.fields.default_spec_id.0
    ∷ field eq_z a.fields.last_partition_id.0 b.fields.last_partition_id.0
    ∷ []

unfoldable pub parts : TableMetadata → TableMetadata → List Part
parts a b = field_parts a.fields b.fields ++ table_parts a b

abbrev pub no_difference : Difference
no_difference = record { part = 0; place = 0 }

unfoldable pub first_difference : TableMetadata → TableMetadata → Difference
first_difference a b = first 1 (parts a b) no_difference
