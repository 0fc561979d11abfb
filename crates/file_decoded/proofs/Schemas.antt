-- A schema and its fields from their cells are those that their members say.
use Prim.Native.Nat.{ℕ, ◌+◌}
use native.Mathlib.Nat.{add-zero}
use mathlib.Core.Path.{◌≡◌, refl}
use mathlib.Core.Bool.{true}
use mathlib.Core.List.{List, [], ◌∷◌}
use Rattle.rules.specs.Capacities.{name_room, text_room, schema_field_room}
use Rattle.json_rule.specs.Letters.{bytes}
use Rattle.json_rule.specs.Tree.{Members}
use Rattle.json_rule.specs.Members.{number_by, text_by, items_by}
use Rattle.json_rule.specs.Records.{records_of, field_of, schema_of}
use Rattle.file_rule.specs.Tables.{HeldSchema, HeldField}
use Rattle.file_cells.specs.Wants.{shape_of, row_at}
use Rattle.json_store.specs.Made.{each}
use Rattle.file_cells.specs.Cells.{size_of, offset_at}
use Rattle.file_records.specs.Decoded.{maybe_narrow_at, text_at, is_word_at, count_at, item_at, field_at, schema_at}
use Rattle.file_decoded.proofs.Reading.{is_known, HeldRecord}
use Rattle.file_decoded.proofs.Inner.{inner, number32, text, word}
use Rattle.file_decoded.proofs.Lists.{list_read}

module _ (version : ℕ) (bs cells : List ℕ) (v : is_known version ≡ true) (base : ℕ) (ms : Members) (h : HeldRecord version bs cells HeldField base ms) where
  id_same : maybe_narrow_at bs cells base ≡ number_by "id" ms
  unfolding offset_at size_of
  id_same = number32 version bs cells v h (bytes "id") 36 base refl (inner version bs cells v h refl 0 _ refl refl base (add-zero base))

  name_same : text_at bs cells name_room (base + 2) ≡ text_by "name" ms
  unfolding offset_at size_of
  name_same = text version bs cells v h (bytes "name") 37 (base + 2) refl name_room (inner version bs cells v h refl 1 _ refl refl (base + 2) refl)

  type_same : text_at bs cells text_room (base + 6) ≡ text_by "type" ms
  unfolding offset_at size_of
  type_same = word version bs cells v h (bytes "type") 39 (base + 6) refl (bytes "long" ∷ bytes "timestamp" ∷ []) refl (inner version bs cells v h refl 3 _ refl refl (base + 6) refl)

  pub field_same : field_at bs cells base ≡ field_of ms
  unfolding field_at is_word_at
  field_same = rw (id_same, type_same, name_same)

module _ (version : ℕ) (bs cells : List ℕ) (v : is_known version ≡ true) (base : ℕ) (ms : Members) (h : HeldRecord version bs cells HeldSchema base ms) where
  schema_id_same : maybe_narrow_at bs cells (base + 259) ≡ number_by "schema-id" ms
  unfolding offset_at size_of
  schema_id_same = number32 version bs cells v h (bytes "schema-id") 35 (base + 259) refl (inner version bs cells v h refl 2 _ refl refl (base + 259) refl)

  fields_same : each (λ i. field_at bs cells (item_at 8 (base + 2) i)) (count_at cells schema_field_room (base + 2)) ≡ records_of field_of (items_by "fields" ms)
  unfolding offset_at size_of shape_of row_at
  fields_same =
      (list_read version bs cells HeldField (λ at. field_at bs cells at) field_of (λ at others g. field_same version bs cells v at others g) schema_field_room (bytes "fields") 34 (base + 2) ms refl
      (inner version bs cells v h refl 1 _ refl refl (base + 2) refl)).0

  pub schema_same : schema_at bs cells base ≡ schema_of ms
  unfolding schema_at
  schema_same = rw (schema_id_same, fields_same)
