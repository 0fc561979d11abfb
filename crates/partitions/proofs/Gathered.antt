-- The ids of a spec's fields, gathered from the front over zeros.
use Prim.Native.Nat.{ℕ, ◌+◌, ◌<◌}
use native.Mathlib.Numerals.{add-one}
use native.Mathlib.Omega.{arith}
use mathlib.Core.Path.{◌≡◌, refl, sym, ap, ap₂, ◌∙◌}
use mathlib.Core.Bool.{Bool, true, false}
use mathlib.Core.List.{List, [], ◌∷◌, ◌++◌, map, append_assoc}
use mathlib.Core.Option.{none, some}
use lib.IntN.{ℤ, pos}
use lib.ListN.{length, get_or, take, drop, set, length-append}
use lib.Seq.{take_at, drop-cons}
use Rattle.records.specs.declared.partition.PartitionField.{PartitionField}
use Rattle.rules.specs.Words.{collect}
use Rattle.rules.specs.Capacities.{partition_field_room}
use Rattle.rules.specs.Register as plain
use Rattle.rules.specs.Layout.{pad, given, read_partition_field}
use Rattle.rules.proofs.Slots.Relaid.{set_pad}
use Rattle.partitions.specs.declared.fresh.GivenIds.{GivenIds}
use Rattle.partitions.specs.Gathered.{laid_ids}

abbrev pub own_ids : List PartitionField → List ℤ
own_ids fields = collect (λ (f : plain.PartitionField). f.id) (map read_partition_field fields)

-- ---- one id more

pub held : {g : GivenIds} {l : List ℤ} → g ≡ laid_ids l → take g.count g.ids ≡ l
held {g} {l} e = rw e (take_at l _ (length l) refl)

module _ {g h : GivenIds} (l : List ℤ) (z : ℤ) (b : g.count < partition_field_room) (ids : h.ids ≡ set g.ids g.count z) (count : h.count ≡ g.count + 1) (e : g ≡ laid_ids l) where
  pub pushed : h ≡ laid_ids (l ++ z ∷ [])
  pushed =
      let n : g.count ≡ length l = ap (λ (x : GivenIds). x.count) e in
      let r : g.ids ≡ pad partition_field_room (pos 0) l = ap (λ (x : GivenIds). x.ids) e in
      ap₂ (λ (u : List ℤ) (m : ℕ). record { ids = u; count = m })
      (ids ∙ ap (λ (u : List ℤ). set u g.count z) r ∙ set_pad partition_field_room (pos 0) l g.count z (sym n) b)
      (omega (arith, count, n, length-append l (z ∷ [])))

-- ---- one field more

module _ (l : List PartitionField) (i : ℕ) (d : PartitionField) (b : i < length l) where
  here : own_ids (drop i l) ≡ own_ids (get_or l i d ∷ drop (i + 1) l)
  here = rw (add-one i) (ap (λ (m : List PartitionField). own_ids m) (drop-cons l i d b))

  pub with_id : (get_or l i d).has_id ≡ true → own_ids (drop i l) ≡ (get_or l i d).field_id.0 ∷ own_ids (drop (i + 1) l)
  with_id e = here ∙ ap (λ (f : Bool). elim (given f (get_or l i d).field_id.0) [ none ↦ own_ids (drop (i + 1) l) | some y ↦ y ∷ own_ids (drop (i + 1) l) ]) e

  pub without_id : (get_or l i d).has_id ≡ false → own_ids (drop i l) ≡ own_ids (drop (i + 1) l)
  without_id e = here ∙ ap (λ (f : Bool). elim (given f (get_or l i d).field_id.0) [ none ↦ own_ids (drop (i + 1) l) | some y ↦ y ∷ own_ids (drop (i + 1) l) ]) e
