-- The ids of so many snapshots from a place on.
use Prim.Native.Nat.{ℕ, ◌+◌, ◌≤◌, ◌<◌}
use mathlib.Core.Path.{◌≡◌, refl, sym, ap, ◌∙◌}
use mathlib.Core.List.{List, [], ◌∷◌, ◌++◌}
use native.Mathlib.Numerals.{add-one}
use native.Mathlib.Omega.{arith}
use borrow.Author.Tests.{ltb-true, ltb-false}
use borrow.Table.Steps.{cases}
use lib.Dec.{ltb}
use lib.IntN.{ℤ, pos}
use lib.ListN.{length, get_or, take, drop, length-append, length-drop}
use lib.Seq.{take-suc, take_all, get_or-drop}
use Rattle.records.specs.declared.snapshot.SnapshotIds.{SnapshotIds}
use Rattle.rules.specs.Capacities.{removal_room}
use Rattle.rules.specs.Layout.{read_snapshot_ids, laid_snapshot_ids}
use Rattle.tables.proofs.Each.{read_snapshot_ids_lem}

module _ (ids : List ℤ) (from : ℕ) where
  -- so many from the place on
  abbrev some : ℕ → List ℤ
  some taken = take taken (drop from ids)

  pub record Taking (r : SnapshotIds) (taken i : ℕ) : Type 0 where
    pub there : i ≡ from + taken
    pub few : taken ≤ 16
    pub long : length (some taken) ≡ taken
    pub ids_so : r ≡ laid_snapshot_ids (some taken)

  module _ {r : SnapshotIds} {taken i : ℕ} (t : Taking r taken i) where
    -- one more
    another : i < length ids → some (taken + 1) ≡ some taken ++ (get_or ids i (pos 0) ∷ [])
    another b =
        rw (add-one, take-suc (drop from ids) taken (pos 0) (omega (arith, t.there, length-drop from ids)), get_or-drop from ids taken (pos 0), ← t.there)

    pub takes_on : {u : SnapshotIds} {z : ℤ} → i < length ids → taken < 16 → get_or ids i (pos 0) ≡ z → u ≡ laid_snapshot_ids (read_snapshot_ids r ++ (z ∷ [])) → Taking u (taken + 1) (i + 1)
    takes_on b f q e =
        record {
          there = omega (arith, t.there);
          few = omega arith;
          long = ap length (another b) ∙ length-append (some taken) (get_or ids i (pos 0) ∷ []) ∙ ap (λ (n : ℕ). n + 1) t.long;
          ids_so = e ∙ rw (read_snapshot_ids_lem (some taken) t.ids_so, ← q) (ap laid_snapshot_ids (sym (another b)));
        }

    -- all that are left, or sixteen
    pub ends : (i < length ids → 16 ≤ taken) → r ≡ laid_snapshot_ids (take removal_room (drop from ids))
    ends h = t.ids_so ∙ ap laid_snapshot_ids (cases (ltb i (length ids)) (λ b. full (h (ltb-true i (length ids) b))) (λ f. over (ltb-false i (length ids) f)))
      where
        full : 16 ≤ taken → some taken ≡ take removal_room (drop from ids)
        full b = let n : taken ≡ 16 = omega (arith, t.few, b) in ap some n

        over : length ids ≤ i → some taken ≡ take removal_room (drop from ids)
        over b =
            let n : length (drop from ids) ≤ taken = omega (arith, length-drop from ids, t.there) in
            take_all taken (drop from ids) n ∙ sym (take_all 16 (drop from ids) (omega (arith, n, t.few)))

  pub taking_none : {r : SnapshotIds} → r ≡ laid_snapshot_ids [] → Taking r 0 (from + 0)
  taking_none e = record { there = refl; few = omega arith; long = refl; ids_so = e }
