-- The largest of some numbers, from the last to the first.
use Prim.Native.Nat.{ℕ, suc, ◌+◌, ◌-◌, ◌*◌, ◌≤◌, ◌<◌}
use mathlib.Core.Path.{◌≡◌, refl, sym, ap, ◌∙◌}
use mathlib.Core.List.{List, [], ◌∷◌, map}
use native.Mathlib.Omega.{arith}
use lib.IntN.{ℤ, pos}
use lib.ListN.{drop, drop_of_length-le}
use lib.Seq.{drop-cons}
use Rattle.rules.specs.Words.{or_else, larger, highest}
use Rattle.rules.specs.Register as plain
use Rattle.json_store.specs.Made.{each}
use Rattle.json_store.proofs.Each.{each_length, each_at}
use Rattle.file_rule.specs.Import.{largest_id}
use Rattle.file_records.specs.Decoded.{count_at, item_at, maybe_narrow_at, partition_field_at, spec_fields_at, spec_at}
use Rattle.file_records.specs.Positions.{placed}
use Rattle.file_records.proofs.Parts.{fields_placed}
use Rattle.file_records.proofs.Arranged.{each_key}

-- and at least this
abbrev pub top_of : ℤ → List ℤ → ℤ
top_of least [] = least
top_of least (x ∷ xs) = larger x (top_of least xs)

-- of so many, those from i on
pub record Topped (least : ℤ) (F : ℕ → ℤ) (n : ℕ) (z : ℤ) (i : ℕ) : Type 0 where
  pub sofar : i ≤ n
  pub top : z ≡ top_of least (drop i (each F n))

module _ {least : ℤ} {F : ℕ → ℤ} {n : ℕ} where
  pub top_start : {z : ℤ} → z ≡ least → Topped least F n z n
  top_start e = record { sofar = omega arith; top = e ∙ rw (drop_of_length-le (each F n) {i = n} (omega (arith, each_length F n))) }

  pub top_on : {z x y : ℤ} {i : ℕ} → Topped least F n z i → 0 < i → x ≡ F (i - 1) → y ≡ larger x z → Topped least F n y (i - 1)
  top_on {z} {x} {y} {i} t h e g =
      let l : List ℤ = each F n in
      let up : suc (i - 1) ≡ i = omega arith in
      let next : drop (i - 1) l ≡ F (i - 1) ∷ drop i l =
      drop-cons l (i - 1) least (omega (arith, each_length F n, t.sofar))
      ∙ ap (λ (v : ℤ). v ∷ drop (suc (i - 1)) l) (each_at F n (i - 1) least (omega (arith, t.sofar)))
      ∙ ap (λ (k : ℕ). F (i - 1) ∷ drop k l) up in
      record { sofar = omega (arith, t.sofar); top = g ∙ ap (λ (v : ℤ). larger v z) e ∙ ap (larger (F (i - 1))) t.top ∙ sym (ap (top_of least) next) }

  pub top_end : {z : ℤ} {i : ℕ} → Topped least F n z i → i ≤ 0 → z ≡ top_of least (each F n)
  top_end {z} {i} t h = let none : i ≡ 0 = omega arith in t.top ∙ rw none

-- ---- the ids of fields

abbrev pub id_of : plain.PartitionField → ℤ
id_of f = or_else f.id (pos 0)

highest_top : (l : List ℤ) → top_of (pos 0) l ≡ highest l
highest_top [] = refl
highest_top (x ∷ l) = ap (larger x) (highest_top l)

largest_top : (l : List plain.PartitionSpec) → top_of (pos 999) (map (λ (s : plain.PartitionSpec). highest (map id_of s.fields)) l) ≡ largest_id l
largest_top [] = refl
largest_top (s ∷ l) = ap (larger (highest (map id_of s.fields))) (largest_top l)

-- ---- where they stand

pub id_place : (list k : ℕ) → list + 3 + k * 8 ≡ item_at 8 list k + 2
id_place list k = omega arith

pub fields_place : (k : ℕ) → 4520 + k * 67 ≡ item_at 67 4517 k + 2
fields_place k = omega arith

-- ---- of a list, and of the table

module _ (file cells : List ℕ) where
  -- of the field at a position of a list
  abbrev pub id_in : ℕ → ℕ → ℤ
  id_in list k = or_else (maybe_narrow_at file cells (item_at 8 list k + 2)) (pos (1000 + k))

  pub highest_in_lem : (list : ℕ) → top_of (pos 0) (each (id_in list) (count_at cells 8 list)) ≡ highest (map id_of (spec_fields_at file cells list))
  unfolding partition_field_at
  highest_in_lem list =
      highest_top (each (id_in list) (count_at cells 8 list))
      ∙ ap highest (each_key id_of (λ k. placed k (partition_field_at file cells (item_at 8 list k))) (count_at cells 8 list) ∙ ap (map id_of) (sym (fields_placed file cells list)))

  -- of the fields of a spec of the table
  abbrev pub highest_in : ℕ → ℤ
  highest_in k = highest (map id_of (spec_fields_at file cells (item_at 67 4517 k + 2)))

  pub largest_in : top_of (pos 999) (each highest_in (count_at cells 16 4517)) ≡ largest_id (each (λ k. spec_at file cells (item_at 67 4517 k)) (count_at cells 16 4517))
  unfolding spec_at
  largest_in =
      ap (top_of (pos 999)) (each_key (λ (s : plain.PartitionSpec). highest (map id_of s.fields)) (λ k. spec_at file cells (item_at 67 4517 k)) (count_at cells 16 4517))
      ∙ largest_top (each (λ k. spec_at file cells (item_at 67 4517 k)) (count_at cells 16 4517))
