-- The fields of an offered partition spec, each with its id, laid out in the slots of a spec.
use Prim.Native.Nat.{ℕ, zero, suc, ◌+◌, ◌≤◌, ◌<◌}
use native.Mathlib.Omega.{arith}
use mathlib.Core.Path.{◌≡◌, refl, sym, ap, ◌∙◌}
use mathlib.Core.Bool.{true, ◌&&◌, and_assoc}
use mathlib.Core.List.{List, [], ◌∷◌, map}
use mathlib.Core.Option.{Option}
use lib.IntN.{ℤ}
use lib.ListN.{length, get_or, set, drop, length-map, get_or-map}
use Rattle.records.specs.Blanks.{no_offered_id, no_partition_field, no_partition_spec}
use Rattle.records.specs.declared.partition.OfferedId.{OfferedId}
use Rattle.records.specs.declared.partition.PartitionField.{PartitionField}
use Rattle.records.specs.declared.partition.PartitionSpec.{PartitionSpec}
use Rattle.records.specs.declared.partition.SpecOffer.{SpecOffer}
use Rattle.rules.specs.Words.{pair_up}
use Rattle.rules.specs.Capacities.{largest_field_id, partition_field_room, partition_bytes}
use Rattle.rules.specs.Register as plain
use Rattle.rules.specs.Offers.{number_at, is_number_at, fits_at, rest_zero_at, is_tidy_partition, partitions_of, offered_partition, offered_spec}
use Rattle.rules.specs.Layout.{pad, laid_partition_field, laid_partition_spec, read_offered_id, read_spec_offer}
use Rattle.formed.proofs.Counted.{read_length, read_at}
use Rattle.rules.proofs.Checks.{and_left, and_right}
use Rattle.offers.proofs.Named.{number_small}
use Rattle.offers.proofs.Filled.{Filled, filled_start, filled_on, filled_all}
use Rattle.offers.proofs.Pieces.{pieces_length}

-- what is asked of its bytes: two numbers and a name
pub tidy_parts : (bs : List ℕ) → is_tidy_partition bs ≡ (is_number_at 0 bs && is_number_at 5 bs && (fits_at 9 bs && rest_zero_at 9 bs))
tidy_parts bs = and_assoc (is_number_at 0 bs && is_number_at 5 bs) (fits_at 9 bs) (rest_zero_at 9 bs)

module _ (bs : List ℕ) (t : is_tidy_partition bs ≡ true) where
  numbers : (is_number_at 0 bs && is_number_at 5 bs) ≡ true
  numbers = and_left (is_number_at 0 bs && is_number_at 5 bs) _ (sym (tidy_parts bs) ∙ t)

  pub source_small : number_at 0 bs ≤ largest_field_id
  source_small = number_small 0 bs (and_left (is_number_at 0 bs) _ numbers)

  pub buckets_small : number_at 5 bs ≤ largest_field_id
  buckets_small = number_small 5 bs (and_right (is_number_at 0 bs) _ numbers)

  pub name_tidy : (fits_at 9 bs && rest_zero_at 9 bs) ≡ true
  name_tidy = and_right (is_number_at 0 bs && is_number_at 5 bs) _ (sym (tidy_parts bs) ∙ t)

-- ---- pairs

module _ {A B C : Type 0} (f : A → B → C) where
  paired_length : (xs : List A) (ys : List B) → length xs ≡ length ys → length (pair_up f xs ys) ≡ length xs
  paired_length [] ys e = refl
  paired_length (x ∷ xs) [] e = absurd (omega arith)
  paired_length (x ∷ xs) (y ∷ ys) e = ap suc (paired_length xs ys (omega arith))

  paired_at : (xs : List A) (ys : List B) (i : ℕ) (a : A) (b : B) → i < length xs → i < length ys → get_or (pair_up f xs ys) i (f a b) ≡ f (get_or xs i a) (get_or ys i b)
  paired_at [] ys i a b h k = absurd (omega arith)
  paired_at (x ∷ xs) [] i a b h k = absurd (omega arith)
  paired_at (x ∷ xs) (y ∷ ys) zero a b h k = refl
  paired_at (x ∷ xs) (y ∷ ys) (suc i) a b h k = paired_at xs ys i a b (omega arith) (omega arith)

-- ---- laid out

abbrev laid_pairs : List (List ℕ) → List (Option ℤ) → List PartitionField
laid_pairs l ids = map laid_partition_field (pair_up offered_partition l ids)

module _ (bs : List ℕ) (o : SpecOffer) where
  abbrev ids : List (Option ℤ)
  ids = (read_spec_offer o).ids

  -- as many ids are read as are counted
  pub ids_counted : length ids ≡ o.count
  ids_counted = read_length read_offered_id no_offered_id o.ids o.count

  abbrev pieces : List (List ℕ)
  pieces = partitions_of o.count (drop o.at bs)

  pub pieces_counted : length pieces ≡ o.count
  pieces_counted = pieces_length partition_bytes o.count (drop o.at bs)

  pairs_length : length (pair_up offered_partition pieces ids) ≡ o.count
  pairs_length = paired_length offered_partition pieces ids (pieces_counted ∙ sym ids_counted) ∙ pieces_counted

  laid_length : length (laid_pairs pieces ids) ≡ o.count
  laid_length = length-map (pair_up offered_partition pieces ids) laid_partition_field ∙ pairs_length

  fields_paired : (offered_spec bs (read_spec_offer o)).fields ≡ pair_up offered_partition pieces ids
  unfolding offered_spec
  fields_paired = ap (λ (n : ℕ). pair_up offered_partition (partitions_of n (drop o.at bs)) ids) ids_counted

  pub partitions_counted : length (offered_spec bs (read_spec_offer o)).fields ≡ o.count
  partitions_counted = ap length fields_paired ∙ pairs_length

  -- the slots of a spec hold the first i of the fields
  abbrev pub FilledPartitions : List PartitionField → ℕ → Type 0
  FilledPartitions items i = Filled partition_field_room no_partition_field (laid_pairs pieces ids) items i

  pub partitions_start : {r : PartitionSpec} → r ≡ no_partition_spec → FilledPartitions r.items 0
  unfolding no_partition_spec
  partitions_start e = filled_start (ap (λ (t : PartitionSpec). t.items) e)

  module _ {items : List PartitionField} {i : ℕ} (f : FilledPartitions items i) where
    -- the next field, from its bytes and its id
    pub partitions_on : (d : OfferedId) {x : PartitionField} {part : List ℕ} → i < o.count → o.count ≤ partition_field_room → length o.ids ≡ partition_field_room
        → part ≡ get_or pieces i [] → x ≡ laid_partition_field (offered_partition part (read_offered_id (get_or o.ids i d))) → FilledPartitions (set items i x) (i + 1)
    partitions_on d b h k w e =
        let r : get_or ids i (read_offered_id d) ≡ read_offered_id (get_or o.ids i d) = read_at read_offered_id no_offered_id o.ids o.count i d b (omega arith) in
        let p : get_or (pair_up offered_partition pieces ids) i (offered_partition [] (read_offered_id d)) ≡ offered_partition (get_or pieces i []) (get_or ids i (read_offered_id d)) =
        paired_at offered_partition pieces ids i [] (read_offered_id d) (omega (arith, pieces_counted)) (omega (arith, ids_counted)) in
        let g = get_or-map laid_partition_field (pair_up offered_partition pieces ids) i (offered_partition [] (read_offered_id d)) ∙ ap laid_partition_field (p ∙ ap (offered_partition (get_or pieces i [])) r) in
        filled_on f (laid_partition_field (offered_partition [] (read_offered_id d))) (omega (arith, laid_length)) (omega (arith, laid_length)) (e ∙ ap (λ (p : List ℕ). laid_partition_field (offered_partition p (read_offered_id (get_or o.ids i d)))) w ∙ sym g)

    pub partitions_end : o.count ≤ i → record { spec_id = o.spec_id; items = items; count = o.count } ≡ laid_partition_spec (offered_spec bs (read_spec_offer o))
    unfolding laid_partition_spec offered_spec
    partitions_end h =
        let p = filled_all f (omega (arith, laid_length)) ∙ ap (λ (l : List plain.PartitionField). pad partition_field_room no_partition_field (map laid_partition_field l)) (sym fields_paired) in
        let q = sym partitions_counted in
        λ j. record { spec_id = o.spec_id; items = p j; count = q j }
