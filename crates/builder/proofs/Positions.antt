-- The ids of the snapshots: where one stands among them, and their order. And what stands last in a list.
use Prim.Native.Nat.{ℕ, suc, ◌-◌}
use mathlib.Core.Path.{◌≡◌, refl, ap, ◌∙◌}
use mathlib.Core.Bool.{true}
use mathlib.Core.List.{List, [], ◌∷◌}
use mathlib.Core.Option.{some}
use native.Mathlib.Omega.{arith}
use lib.Dec.{ltb}
use lib.IntN.{ℤ}
use lib.ListN.{length, get_or}
use lib.Signed.{lt_z}
use Rattle.rules.specs.Words.{eq_z, last_of, is_in, ascending}
use Rattle.rules.specs.Register.{Snapshot}
use Rattle.rules.specs.WellFormed.{has_snapshot, holds_snapshot, snapshot_below}
use Rattle.rules.proofs.Tables.{pairs_read}
use Rattle.search.specs.Places.{index_of}
use Rattle.search.proofs.Places.{index_below, eq_z_turned}
use Rattle.tables.proofs.Keyed.{index_map}
use Rattle.builder.specs.Pieces.{ids_of}

-- ---- ids

module _ (id : ℤ) where
  -- the place of an id among the ids of snapshots is that of the snapshot
  pub snapshot_place : (l : List Snapshot) → index_of (λ x. eq_z x id) (ids_of l) ≡ index_of (has_snapshot id) l
  snapshot_place l = index_map (λ x. eq_z x id) (λ (s : Snapshot). s.id) l

  -- which is held exactly if it has one
  pub snapshot_found : (l : List Snapshot) → ltb (index_of (λ x. eq_z x id) (ids_of l)) (length l) ≡ holds_snapshot l id
  snapshot_found l = ap (λ (n : ℕ). ltb n (length l)) (snapshot_place l) ∙ index_below (has_snapshot id) l

-- the ids tell which snapshots are held
pub in_held : (l : List Snapshot) (id : ℤ) → is_in (ids_of l) id ≡ holds_snapshot l id
in_held [] id = refl
in_held (s ∷ l) id = rw (eq_z_turned id s.id, in_held l id)

-- the ids of a table ascend
pub ids_ascend : (l : List Snapshot) → ascending snapshot_below l ≡ true → ascending lt_z (ids_of l) ≡ true
ids_ascend l h = pairs_read (λ (s : Snapshot). s.id) lt_z l ∙ h

-- ---- the last

pub last_at : {A : Type 0} (d : A) (l : List A) → (length l ≡ 0 → ⊥) → last_of l ≡ some (get_or l (length l - 1) d)
last_at d [] h = absurd (h refl)
last_at d (x ∷ []) h = refl
last_at d (x ∷ y ∷ l) h = let e : length (x ∷ y ∷ l) - 1 ≡ suc (length (y ∷ l) - 1) = omega arith in rw (last_at d (y ∷ l) (λ e. omega arith), e)
