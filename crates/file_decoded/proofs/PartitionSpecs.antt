-- A partition spec and its fields from their cells are those that their members say.
use Prim.Native.Nat.{ℕ, ◌+◌}
use native.Mathlib.Nat.{add-zero}
use mathlib.Core.Path.{◌≡◌, refl, ap}
use mathlib.Core.Bool.{true}
use mathlib.Core.List.{List}
use Rattle.rules.specs.Capacities.{name_room, text_room, partition_field_room}
use Rattle.json_rule.specs.Letters.{bytes}
use Rattle.json_rule.specs.Tree.{Members}
use Rattle.json_rule.specs.Members.{number_by, text_by, items_by}
use Rattle.json_rule.specs.Records.{natural_of, transform_of, buckets_of, partition_field_of}
use Rattle.json_rule.specs.Shapes.{ATransform}
use Rattle.json_members.specs.Transforms.{transform_in}
use Rattle.file_rule.specs.Tables.{Several, OfKind, HeldSpec, HeldPartitionField}
use Rattle.file_rule.specs.Import.{with_position, spec_fields_of, spec_of}
use Rattle.file_cells.specs.Wants.{shape_of, row_at}
use Rattle.file_cells.specs.Cells.{size_of, offset_at}
use Rattle.file_records.specs.Decoded.{maybe_narrow_at, text_at, partition_field_at, spec_fields_at, spec_at}
use Rattle.file_decoded.proofs.Reading.{is_known, HeldRecord, Reading}
use Rattle.file_decoded.proofs.Scalars.{single, transform_read}
use Rattle.file_decoded.proofs.Inner.{inner, number32, text}
use Rattle.file_decoded.proofs.Lists.{items_named, list_read}
use Rattle.file_decoded.proofs.Required.{always_there}

module _ (version : ℕ) (bs cells : List ℕ) (v : is_known version ≡ true) (base : ℕ) (ms : Members) (h : HeldRecord version bs cells HeldPartitionField base ms) where
  source_same : maybe_narrow_at bs cells base ≡ number_by "source-id" ms
  unfolding offset_at size_of
  source_same = number32 version bs cells v h (bytes "source-id") 42 base refl (inner version bs cells v h refl 0 _ refl refl base (add-zero base))

  field_id_same : maybe_narrow_at bs cells (base + 2) ≡ number_by "field-id" ms
  unfolding offset_at size_of
  field_id_same = number32 version bs cells v h (bytes "field-id") 43 (base + 2) refl (inner version bs cells v h refl 1 _ refl refl (base + 2) refl)

  name_same : text_at bs cells name_room (base + 4) ≡ text_by "name" ms
  unfolding offset_at size_of
  name_same = text version bs cells v h (bytes "name") 44 (base + 4) refl name_room (inner version bs cells v h refl 2 _ refl refl (base + 4) refl)

  transform_same : transform_in (text_at bs cells text_room (base + 6)) ≡ record { kind = transform_of (text_by "transform" ms); buckets = natural_of (buckets_of (text_by "transform" ms)) }
  unfolding offset_at size_of transform_in
  transform_same =
      let q =
      transform_read version bs cells (bytes "transform") (base + 6) ms (always_there version bs cells h 3 _ refl refl)
      (single version bs cells ATransform (bytes "transform") 45 (base + 6) ms refl refl (inner version bs cells v h refl 3 _ refl refl (base + 6) refl)) in
      rw (q.0, q.1)

  pub partition_field_same : partition_field_at bs cells base ≡ partition_field_of ms
  unfolding partition_field_at
  partition_field_same = rw (source_same, field_id_same, name_same, transform_same)

module _ (version : ℕ) (bs cells : List ℕ) (v : is_known version ≡ true) where
  -- a list of fields, each with an id
  pub spec_fields_same : (name : List ℕ) (spot list : ℕ) (ms : Members) → shape_of spot ≡ Several partition_field_room (OfKind HeldPartitionField) → Reading version bs cells (Several partition_field_room (OfKind HeldPartitionField)) name spot list ms
      → spec_fields_at bs cells list ≡ spec_fields_of (items_named name ms)
  unfolding spec_fields_at
  spec_fields_same name spot list ms s r =
      ap (with_position 0) (list_read version bs cells HeldPartitionField (λ at. partition_field_at bs cells at) partition_field_of (λ at others g. partition_field_same version bs cells v at others g) partition_field_room name spot list ms s r).0

module _ (version : ℕ) (bs cells : List ℕ) (v : is_known version ≡ true) (base : ℕ) (ms : Members) (h : HeldRecord version bs cells HeldSpec base ms) where
  spec_id_same : maybe_narrow_at bs cells base ≡ number_by "spec-id" ms
  unfolding offset_at size_of
  spec_id_same = number32 version bs cells v h (bytes "spec-id") 40 base refl (inner version bs cells v h refl 0 _ refl refl base (add-zero base))

  fields_same : spec_fields_at bs cells (base + 2) ≡ spec_fields_of (items_by "fields" ms)
  unfolding offset_at size_of shape_of row_at
  fields_same = spec_fields_same version bs cells v (bytes "fields") 41 (base + 2) ms refl (inner version bs cells v h refl 1 _ refl refl (base + 2) refl)

  pub spec_same : spec_at bs cells base ≡ spec_of ms
  unfolding spec_at
  spec_same = rw (spec_id_same, fields_same)
