-- A list of numbers as a record: laid out one by one, and blanks behind them.
use Prim.Native.Nat.{ℕ, ◌+◌, ◌≤◌, ◌<◌}
use mathlib.Core.Path.{◌≡◌, sym, ap, ◌∙◌}
use mathlib.Core.List.{List, map}
use native.Mathlib.Omega.{arith}
use lib.IntN.{ℤ}
use lib.ListN.{drop, set, replicate}
use lib.Seq.{sets}
use Rattle.records.specs.Blanks.{no_snapshot_id, no_schema_id, no_spec_id, no_sort_field, no_offered_id}
use Rattle.records.specs.declared.counters.SnapshotId.{SnapshotId}
use Rattle.records.specs.declared.counters.SchemaId.{SchemaId}
use Rattle.records.specs.declared.counters.SpecId.{SpecId}
use Rattle.records.specs.declared.snapshot.SnapshotIds.{SnapshotIds}
use Rattle.records.specs.declared.schema.SchemaIds.{SchemaIds}
use Rattle.records.specs.declared.partition.SpecIds.{SpecIds}
use Rattle.records.specs.declared.partition.OfferedId.{OfferedId}
use Rattle.records.specs.declared.partition.SpecOffer.{SpecOffer}
use Rattle.records.specs.declared.sort_order.SortField.{SortField}
use Rattle.records.specs.declared.sort_order.SortOrder.{SortOrder}
use Rattle.rules.specs.Layout.{pad, laid_snapshot_ids, laid_schema_ids, laid_spec_ids, laid_sort_field, laid_sort_order, laid_offered_id, laid_spec_offer}
use Rattle.json_store.specs.Numbers.{number_at, narrow_at, count_at}
use Rattle.json_store.specs.Made.{each, snapshot_ids_in, schema_ids_in, spec_ids_in, sort_field_in, sort_order_in, partition_id_in, spec_offer_in, or_zero_narrow_at}
use Rattle.json_store.proofs.Each.{each_length, each_more, each_end}

-- what is left to store of so many records, from a place on
pub record Left {A B : Type 0} (g : A → B) (f : ℕ → A) (room : ℕ) (blank : B) (n : ℕ) (l : List B) (i : ℕ) : Type 0 where
  pub most : n ≤ room
  pub below : i ≤ n
  pub stored : sets (replicate room blank) 0 (map g (each f n)) ≡ sets l i (drop i (map g (each f n)))

module _ {A B : Type 0} {g : A → B} {f : ℕ → A} {room : ℕ} {blank : B} {n : ℕ} where
  pub left_start : {l : List B} → n ≤ room → l ≡ replicate room blank → Left g f room blank n l 0
  left_start h e = record { most = h; below = omega arith; stored = ap (λ (r : List B). sets r 0 (map g (each f n))) (sym e) }

  pub left_more : {l : List B} {i : ℕ} {b : B} → Left g f room blank n l i → i < n → b ≡ g (f i) → Left g f room blank n (set l i b) (i + 1)
  left_more {l} {i} {b} x h e = record { most = x.most; below = omega arith; stored = x.stored ∙ each_more g f n l i b blank h e }

  pub left_all : {l : List B} {i : ℕ} → Left g f room blank n l i → n ≤ i → l ≡ pad room blank (map g (each f n))
  left_all {l} {i} x h = each_end g f n room blank l i x.most h x.stored

-- ---- ids

abbrev pub snapshot_id : ℤ → SnapshotId
snapshot_id z = record { 0 = z }

abbrev pub schema_id : ℤ → SchemaId
schema_id z = record { 0 = z }

abbrev pub spec_id : ℤ → SpecId
spec_id z = record { 0 = z }

abbrev pub snapshot_at : List ℕ → ℕ → ℤ
snapshot_at numbers i = number_at numbers (64 + i)

abbrev pub schema_at : List ℕ → ℕ → ℤ
schema_at numbers i = narrow_at numbers (80 + i)

abbrev pub spec_at : List ℕ → ℕ → ℤ
spec_at numbers i = narrow_at numbers (96 + i)

module _ (numbers : List ℕ) (n i : ℕ) (done : n ≤ i) where
  pub snapshot_ids_laid : (items : List SnapshotId) → n ≡ count_at 16 numbers 8 → Left snapshot_id (snapshot_at numbers) 16 no_snapshot_id n items i → ◌≡◌ {A = SnapshotIds} (record { items = items; count = n }) (laid_snapshot_ids (snapshot_ids_in numbers))
  unfolding laid_snapshot_ids snapshot_ids_in
  snapshot_ids_laid items e x = rw (left_all x done, e, each_length (snapshot_at numbers) (count_at 16 numbers 8))

  pub schema_ids_laid : (items : List SchemaId) → n ≡ count_at 16 numbers 18 → Left schema_id (schema_at numbers) 16 no_schema_id n items i → ◌≡◌ {A = SchemaIds} (record { items = items; count = n }) (laid_schema_ids (schema_ids_in numbers))
  unfolding laid_schema_ids schema_ids_in
  schema_ids_laid items e x = rw (left_all x done, e, each_length (schema_at numbers) (count_at 16 numbers 18))

  pub spec_ids_laid : (items : List SpecId) → n ≡ count_at 16 numbers 23 → Left spec_id (spec_at numbers) 16 no_spec_id n items i → ◌≡◌ {A = SpecIds} (record { items = items; count = n }) (laid_spec_ids (spec_ids_in numbers))
  unfolding laid_spec_ids spec_ids_in
  spec_ids_laid items e x = rw (left_all x done, e, each_length (spec_at numbers) (count_at 16 numbers 23))

  -- ---- sort orders and partition specs

  pub sort_order_laid : (items : List SortField) (id : ℤ) → n ≡ count_at 8 numbers 45 → id ≡ number_at numbers 44 → Left laid_sort_field (sort_field_in numbers) 8 no_sort_field n items i → ◌≡◌ {A = SortOrder} (record { order_id = record { 0 = id }; items = items; count = n }) (laid_sort_order (sort_order_in numbers))
  unfolding laid_sort_order sort_order_in
  sort_order_laid items id e z x = rw (left_all x done, e, z, each_length (sort_field_in numbers) (count_at 8 numbers 45))

  pub spec_offer_laid : (slots : List ℕ) (place : ℕ) (items : List OfferedId) (id : ℤ) → n ≡ count_at 8 numbers 52 → id ≡ or_zero_narrow_at slots numbers 51 → Left laid_offered_id (partition_id_in numbers) 8 no_offered_id n items i → ◌≡◌ {A = SpecOffer} (record { spec_id = record { 0 = id }; at = place; count = n; ids = items }) (laid_spec_offer (spec_offer_in slots numbers place))
  unfolding laid_spec_offer spec_offer_in
  spec_offer_laid slots place items id e z x = rw (left_all x done, e, z, each_length (partition_id_in numbers) (count_at 8 numbers 52))
