-- The fields of a schema, of a sort order and of a partition spec: laid out one by one, and blanks behind them.
use Prim.Native.Nat.{ℕ, zero, suc, ◌+◌, ◌-◌, ◌*◌, ◌≤◌}
use mathlib.Core.Path.{◌≡◌, refl, ap}
use mathlib.Core.Bool.{true}
use mathlib.Core.List.{List, ◌∷◌, map}
use native.Mathlib.Omega.{arith}
use borrow.Author.Tests.{leb-true}
use borrow.Table.Steps.{cases}
use lib.Dec.{leb}
use lib.IntN.{ℤ, pos}
use lib.ListN.{get_or}
use Rattle.records.specs.Blanks.{no_schema_field, no_sort_field, no_partition_field}
use Rattle.records.specs.declared.counters.SpecId.{SpecId}
use Rattle.records.specs.declared.counters.FieldId.{FieldId}
use Rattle.records.specs.declared.text.Name.{Name}
use Rattle.records.specs.declared.schema.SchemaField.{SchemaField}
use Rattle.records.specs.declared.schema.Schema.{Schema}
use Rattle.records.specs.declared.sort_order.SortField.{SortField}
use Rattle.records.specs.declared.sort_order.SortOrder.{SortOrder}
use Rattle.records.specs.declared.partition.PartitionField.{PartitionField}
use Rattle.records.specs.declared.partition.PartitionSpec.{PartitionSpec}
use Rattle.rules.specs.Words.{or_else}
use Rattle.rules.specs.Register as plain
use Rattle.rules.specs.Layout.{laid_name, laid_schema_field, laid_schema, laid_sort_field, laid_sort_order, laid_partition_field, laid_partition_spec}
use Rattle.json_members.specs.Transforms.{transform_in}
use Rattle.json_store.specs.Made.{counted_up, each}
use Rattle.json_store.proofs.Each.{each_length}
use Rattle.json_store.proofs.Ids.{Left, left_all}
use Rattle.file_rule.specs.Import.{with_position}
use Rattle.file_records.specs.Decoded.{count_at, item_at, maybe_narrow_at, or_zero_at, or_zero_narrow_at, text_at, field_at, schema_at, sort_field_at, order_at, partition_field_at, spec_fields_at}
use Rattle.file_records.specs.Positions.{placed}

pub count_small : (cells : List ℕ) (room list : ℕ) → count_at cells room list ≤ room
unfolding count_at
count_small cells room list = cases (leb (get_or cells list 0 - 1) room) (λ t. rw t (leb-true _ room t)) (λ f. rw f (omega arith))

-- ---- where a field stands

pub in_record : (at i : ℕ) → at + 3 + i * 8 ≡ item_at 8 (at + 2) i
in_record at i = omega arith

pub in_list_lem : (list i : ℕ) → list + 1 + i * 8 ≡ item_at 8 list i
in_list_lem list i = omega arith

-- ---- by position

positions : (f : ℕ → plain.PartitionField) (k n : ℕ) → with_position k (map f (counted_up k n)) ≡ map (λ i. placed i (f i)) (counted_up k n)
positions f k zero = refl
positions f k (suc n) = ap (λ (l : List plain.PartitionField). placed k (f k) ∷ l) (positions f (suc k) n)

module _ (file cells : List ℕ) where
  pub fields_placed : (list : ℕ) → spec_fields_at file cells list ≡ each (λ i. placed i (partition_field_at file cells (item_at 8 list i))) (count_at cells 8 list)
  unfolding spec_fields_at
  fields_placed list = positions (λ i. partition_field_at file cells (item_at 8 list i)) 0 (count_at cells 8 list)

  pub partition_field_laid : (at n : ℕ) {source buckets : ℤ} {id : FieldId} {transform : ℕ} {name : Name} → source ≡ or_zero_narrow_at file cells at → id.0 ≡ or_else (maybe_narrow_at file cells (at + 2)) (pos (1000 + n)) → buckets ≡ pos (transform_in (text_at file cells 96 (at + 6))).buckets → transform ≡ (transform_in (text_at file cells 96 (at + 6))).kind → name ≡ laid_name (text_at file cells 32 (at + 4)) → ◌≡◌ {A = PartitionField} (record { source_id = record { 0 = source }; field_id = record { 0 = id.0 }; buckets = record { 0 = buckets }; transform = transform; has_id = true; name = name }) (laid_partition_field (placed n (partition_field_at file cells at)))
  unfolding laid_partition_field partition_field_at
  partition_field_laid at n a b d t m = rw (a, b, d, t, m)

  -- ---- all of them

  module _ (at n i : ℕ) (done : n ≤ i) where
    pub schema_laid : (items : List SchemaField) (id : ℤ) → n ≡ count_at cells 32 (at + 2) → id ≡ or_zero_narrow_at file cells (at + 259) → Left laid_schema_field (λ k. field_at file cells (item_at 8 (at + 2) k)) 32 no_schema_field n items i → ◌≡◌ {A = Schema} (record { schema_id = record { 0 = id }; items = items; count = n }) (laid_schema (schema_at file cells at))
    unfolding laid_schema schema_at
    schema_laid items id e z x = rw (left_all x done, e, z, each_length (λ k. field_at file cells (item_at 8 (at + 2) k)) (count_at cells 32 (at + 2)))

    pub order_laid : (items : List SortField) (id : ℤ) → n ≡ count_at cells 8 (at + 2) → id ≡ or_zero_at file cells at → Left laid_sort_field (λ k. sort_field_at file cells (item_at 8 (at + 2) k)) 8 no_sort_field n items i → ◌≡◌ {A = SortOrder} (record { order_id = record { 0 = id }; items = items; count = n }) (laid_sort_order (order_at file cells at))
    unfolding laid_sort_order order_at
    order_laid items id e z x = rw (left_all x done, e, z, each_length (λ k. sort_field_at file cells (item_at 8 (at + 2) k)) (count_at cells 8 (at + 2)))

    pub spec_laid : (items : List PartitionField) (id : SpecId) → n ≡ count_at cells 8 at → Left laid_partition_field (λ k. placed k (partition_field_at file cells (item_at 8 at k))) 8 no_partition_field n items i → ◌≡◌ {A = PartitionSpec} (record { spec_id = id; items = items; count = n }) (laid_partition_spec (record { id = id.0; fields = spec_fields_at file cells at }))
    unfolding laid_partition_spec
    spec_laid items id e x = rw (fields_placed at, left_all x done, e, each_length (λ k. placed k (partition_field_at file cells (item_at 8 at k))) (count_at cells 8 at))
