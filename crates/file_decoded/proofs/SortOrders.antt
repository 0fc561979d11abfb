-- A sort order and its fields from their cells are those that their members say.
use Prim.Native.Nat.{ℕ, ◌+◌}
use native.Mathlib.Nat.{add-zero}
use mathlib.Core.Path.{◌≡◌, refl}
use mathlib.Core.Bool.{true}
use mathlib.Core.List.{List, [], ◌∷◌}
use Rattle.rules.specs.Capacities.{text_room, sort_field_room}
use Rattle.json_rule.specs.Letters.{bytes}
use Rattle.json_rule.specs.Tree.{Members}
use Rattle.json_rule.specs.Members.{number_by, text_by, items_by}
use Rattle.json_rule.specs.Records.{records_of, sort_field_of, order_of}
use Rattle.file_rule.specs.Tables.{HeldOrder, HeldSortField}
use Rattle.file_cells.specs.Wants.{shape_of, row_at}
use Rattle.json_store.specs.Made.{each}
use Rattle.file_cells.specs.Cells.{size_of, offset_at}
use Rattle.file_records.specs.Decoded.{maybe_at, maybe_narrow_at, text_at, is_word_at, count_at, item_at, sort_field_at, order_at}
use Rattle.file_decoded.proofs.Reading.{is_known, HeldRecord}
use Rattle.file_decoded.proofs.Inner.{inner, number64, number32, word}
use Rattle.file_decoded.proofs.Lists.{list_read}

module _ (version : ℕ) (bs cells : List ℕ) (v : is_known version ≡ true) (base : ℕ) (ms : Members) (h : HeldRecord version bs cells HeldSortField base ms) where
  source_same : maybe_narrow_at bs cells (base + 2) ≡ number_by "source-id" ms
  unfolding offset_at size_of
  source_same = number32 version bs cells v h (bytes "source-id") 49 (base + 2) refl (inner version bs cells v h refl 1 _ refl refl (base + 2) refl)

  direction_same : text_at bs cells text_room (base + 4) ≡ text_by "direction" ms
  unfolding offset_at size_of
  direction_same = word version bs cells v h (bytes "direction") 50 (base + 4) refl (bytes "asc" ∷ bytes "desc" ∷ []) refl (inner version bs cells v h refl 2 _ refl refl (base + 4) refl)

  nulls_same : text_at bs cells text_room (base + 6) ≡ text_by "null-order" ms
  unfolding offset_at size_of
  nulls_same = word version bs cells v h (bytes "null-order") 51 (base + 6) refl (bytes "nulls-first" ∷ bytes "nulls-last" ∷ []) refl (inner version bs cells v h refl 3 _ refl refl (base + 6) refl)

  pub sort_field_same : sort_field_at bs cells base ≡ sort_field_of ms
  unfolding sort_field_at is_word_at
  sort_field_same = rw (source_same, direction_same, nulls_same)

module _ (version : ℕ) (bs cells : List ℕ) (v : is_known version ≡ true) (base : ℕ) (ms : Members) (h : HeldRecord version bs cells HeldOrder base ms) where
  order_id_same : maybe_at bs cells base ≡ number_by "order-id" ms
  unfolding offset_at size_of
  order_id_same = number64 version bs cells v h (bytes "order-id") 46 base refl (inner version bs cells v h refl 0 _ refl refl base (add-zero base))

  sort_fields_same : each (λ i. sort_field_at bs cells (item_at 8 (base + 2) i)) (count_at cells sort_field_room (base + 2)) ≡ records_of sort_field_of (items_by "fields" ms)
  unfolding offset_at size_of shape_of row_at
  sort_fields_same =
      (list_read version bs cells HeldSortField (λ at. sort_field_at bs cells at) sort_field_of (λ at others g. sort_field_same version bs cells v at others g) sort_field_room (bytes "fields") 47 (base + 2) ms refl
      (inner version bs cells v h refl 1 _ refl refl (base + 2) refl)).0

  pub order_same : order_at bs cells base ≡ order_of ms
  unfolding order_at
  order_same = rw (order_id_same, sort_fields_same)
