-- The records that cells say fit: a text is at most as long as its room, and there are no more fields than there is room for.
use Prim.Native.Nat.{ℕ, suc, ◌+◌, ◌-◌}
use mathlib.Core.Path.{◌≡◌, refl, ◌∙◌, ap}
use mathlib.Core.Bool.{Bool, true, cond}
use mathlib.Core.List.{List, [], ◌∷◌, map}
use native.Mathlib.Omega.{arith}
use borrow.Author.Tests.{le-leb}
use lib.Dec.{leb}
use lib.ListN.{length, get_or}
use Rattle.rules.specs.Words.{all}
use Rattle.rules.specs.Capacities.{name_room, text_room, schema_field_room, sort_field_room, partition_field_room}
use Rattle.rules.specs.Register.{PartitionField}
use Rattle.rules.proofs.Checks.{by_test, both, and_left, and_right}
use Rattle.json_store.specs.Made.{counted_up, each}
use Rattle.json_store.proofs.Each.{each_length}
use Rattle.file_rule.specs.Import.{with_position}
use Rattle.file_records.specs.Decoded.{count_at, item_at, text_at, ref_at, file_entry_at, statistics_at, field_at, schema_at, sort_field_at, order_at, partition_field_at, spec_fields_at, spec_at}
use Rattle.file_records.proofs.Said.{text_length}
use Rattle.file_laid.specs.Fits.{ref_fits, file_entry_fits, statistics_fits, field_fits, schema_fits, order_fits, partition_field_fits, spec_fits, Within}

-- ---- lists

clipped : (n room : ℕ) → leb (cond (leb n room) n room) room ≡ true
clipped n room = by_test (λ (k : ℕ). leb k room ≡ true) (leb n room) (λ e. e) (λ e. le-leb room room (omega arith))

module _ (cells : List ℕ) where
  count_fits : (room list : ℕ) → leb (count_at cells room list) room ≡ true
  unfolding count_at
  count_fits room list = clipped (get_or cells list 0 - 1) room

  module _ {A : Type 0} (f : ℕ → A) where
    -- as many as a list has, and there is room for
    pub few_each : (room list : ℕ) → leb (length (each f (count_at cells room list))) room ≡ true
    few_each room list = ap (λ (n : ℕ). leb n room) (each_length f (count_at cells room list)) ∙ count_fits room list

    all_map : (p : A → Bool) → ((i : ℕ) → p (f i) ≡ true) → (l : List ℕ) → all p (map f l) ≡ true
    all_map p h [] = refl
    all_map p h (i ∷ l) = both (h i) (all_map p h l)

    -- where each one fits, wherever it stands
    pub within_each : (room list : ℕ) (fits : A → Bool) → ((i : ℕ) → fits (f i) ≡ true) → Within room fits (each f (count_at cells room list))
    within_each room list fits h = record { few = few_each room list; each = all_map fits h (counted_up 0 (count_at cells room list)) }

-- ---- the fields of a spec keep their names where they get ids

length_position : (n : ℕ) (l : List PartitionField) → length (with_position n l) ≡ length l
length_position n [] = refl
length_position n (f ∷ l) = ap suc (length_position (suc n) l)

all_position : (n : ℕ) (l : List PartitionField) → all partition_field_fits l ≡ true → all partition_field_fits (with_position n l) ≡ true
all_position n [] h = refl
all_position n (f ∷ l) h = both (and_left (partition_field_fits f) (all partition_field_fits l) h) (all_position (suc n) l (and_right (partition_field_fits f) (all partition_field_fits l) h))

-- ---- records

module _ (file cells : List ℕ) where
  pub text_fits : (room at : ℕ) → leb (length (text_at file cells room at)) room ≡ true
  text_fits room at = le-leb (length (text_at file cells room at)) room (text_length file cells at room)

  pub ref_fits_lem : (at : ℕ) → ref_fits (ref_at file cells at) ≡ true
  unfolding ref_at
  ref_fits_lem at = text_fits name_room at

  pub file_entry_fits_lem : (at : ℕ) → file_entry_fits (file_entry_at file cells at) ≡ true
  unfolding file_entry_at
  file_entry_fits_lem at = text_fits text_room at

  pub statistics_fits_lem : (at : ℕ) → statistics_fits (statistics_at file cells at) ≡ true
  unfolding statistics_at
  statistics_fits_lem at = text_fits text_room (at + 2)

  field_fits_lem : (at : ℕ) → field_fits (field_at file cells at) ≡ true
  unfolding field_at
  field_fits_lem at = text_fits name_room (at + 2)

  pub schema_fits_lem : (at : ℕ) → schema_fits (schema_at file cells at) ≡ true
  unfolding schema_at
  schema_fits_lem at =
      let w = within_each cells (λ i. field_at file cells (item_at 8 (at + 2) i)) schema_field_room (at + 2) field_fits (λ i. field_fits_lem (item_at 8 (at + 2) i)) in
      both w.few w.each

  pub order_fits_lem : (at : ℕ) → order_fits (order_at file cells at) ≡ true
  unfolding order_at
  order_fits_lem at = few_each cells (λ i. sort_field_at file cells (item_at 8 (at + 2) i)) sort_field_room (at + 2)

  partition_field_fits_lem : (at : ℕ) → partition_field_fits (partition_field_at file cells at) ≡ true
  unfolding partition_field_at
  partition_field_fits_lem at = text_fits name_room (at + 4)

  pub spec_fields_fit : (list : ℕ) → Within partition_field_room partition_field_fits (spec_fields_at file cells list)
  unfolding spec_fields_at
  spec_fields_fit list =
      let l = each (λ i. partition_field_at file cells (item_at 8 list i)) (count_at cells partition_field_room list) in
      let w = within_each cells (λ i. partition_field_at file cells (item_at 8 list i)) partition_field_room list partition_field_fits (λ i. partition_field_fits_lem (item_at 8 list i)) in
      record { few = ap (λ (n : ℕ). leb n partition_field_room) (length_position 0 l) ∙ w.few; each = all_position 0 l w.each }

  pub spec_fits_lem : (at : ℕ) → spec_fits (spec_at file cells at) ≡ true
  unfolding spec_at
  spec_fits_lem at = let w = spec_fields_fit (at + 2) in both w.few w.each
