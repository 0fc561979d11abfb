-- The single fields, one by one.
use Prim.Native.Nat.{ℕ, ◌%◌}
use mathlib.Core.Path.{◌≡◌}
use mathlib.Core.Bool.{Bool, cond}
use mathlib.Core.List.{List}
use lib.Dec.{ltb}
use lib.IntN.{ℤ, pos}
use Rattle.records.specs.declared.counters.SequenceNumber.{SequenceNumber}
use Rattle.records.specs.declared.counters.RowId.{RowId}
use Rattle.records.specs.declared.counters.SchemaId.{SchemaId}
use Rattle.records.specs.declared.counters.SnapshotId.{SnapshotId}
use Rattle.records.specs.declared.counters.SpecId.{SpecId}
use Rattle.records.specs.declared.counters.FieldId.{FieldId}
use Rattle.records.specs.declared.text.Text.{Text}
use Rattle.records.specs.declared.metadata.SingleFields.{SingleFields}
use Rattle.rules.specs.Words.{is_some, or_else}
use Rattle.rules.specs.Layout.{laid_text, laid_fields}
use Rattle.file_rule.specs.Import.{largest_id}
use Rattle.file_records.specs.Decoded.{natural_at, or_zero_at, maybe_narrow_at, or_zero_narrow_at, text_at, uuid_at, current_in, current_schema_in, default_spec_in, specs_in, fields_in}

module _ (file cells : List ℕ) (version : ℕ) where
  pub fields_laid : {uuid : List ℕ} {location : Text} {updated column order : ℤ} {sequence : SequenceNumber} {row : RowId} {given : Bool} {id : SnapshotId} {schema : SchemaId} {spec : SpecId} {partition : FieldId} → uuid ≡ uuid_at file cells 2 → location ≡ laid_text (text_at file cells 96 4) → updated ≡ or_zero_at file cells 8 → sequence.0 ≡ cond (ltb 1 version) (or_zero_at file cells 6) (pos 0) → row.0 ≡ cond (ltb 2 version) (natural_at cells 9045) 0 → column ≡ or_zero_narrow_at file cells 10 → given ≡ is_some (current_in file cells) → id.0 ≡ or_else (current_in file cells) (pos 0) → schema.0 ≡ current_schema_in file cells version → order ≡ or_zero_at file cells 8464 → spec.0 ≡ default_spec_in file cells version → partition.0 ≡ or_else (maybe_narrow_at file cells 5592) (largest_id (specs_in file cells version)) → ◌≡◌ {A = SingleFields} (record { format_version = version % 256; table_uuid = uuid; location = location; last_updated_ms = record { 0 = updated }; last_sequence_number = sequence; next_row_id = row; last_column_id = record { 0 = column }; has_current = given; current_snapshot_id = id; current_schema_id = schema; default_sort_order_id = record { 0 = order }; default_spec_id = spec; last_partition_id = partition }) (laid_fields (fields_in file cells version))
  unfolding laid_fields fields_in
  fields_laid a b d e f g h o i j k l =
      λ t.
      record {
        format_version = version % 256;
        table_uuid = a t;
        location = b t;
        last_updated_ms = record { 0 = d t };
        last_sequence_number = record { 0 = e t };
        next_row_id = record { 0 = f t };
        last_column_id = record { 0 = g t };
        has_current = h t;
        current_snapshot_id = record { 0 = o t };
        current_schema_id = record { 0 = i t };
        default_sort_order_id = record { 0 = j t };
        default_spec_id = record { 0 = k t };
        last_partition_id = record { 0 = l t };
      }
