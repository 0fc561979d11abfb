-- One element more at the end of a table, and another in the place of one.
use Prim.Native.Nat.{ℕ, zero, suc, ◌+◌, ◌-◌, ◌<◌}
use native.Mathlib.Omega.{arith}
use mathlib.Core.Path.{◌≡◌, refl, sym, ap, ap₂, ◌∙◌}
use mathlib.Core.List.{List, [], ◌∷◌, ◌++◌, map, map-append}
use lib.ListN.{length, set, replicate, length-append, length-map, length-set}
use lib.Seq.{set-append_left}
use Rattle.rules.specs.Layout.{pad}
use Rattle.rules.proofs.Slots.Relaid.{set_pad}
use Rattle.tables.proofs.Table.{Kind, Tidy, Made, listed, slotted, read_length, laid_back}

map_set : {A B : Type 0} (f : A → B) (l : List A) (i : ℕ) (y : A) → map f (set l i y) ≡ set (map f l) i (f y)
map_set f [] i y = refl
map_set f (x ∷ l) zero y = refl
map_set f (x ∷ l) (suc i) y = rw (map_set f l i y)

module _ {K : Kind} {laid : List K.Plain → K.Whole} (m : Made K laid) where
  -- a table laid out from a list, with one more
  pub pushed : {l : List K.Plain} (x : K.Slot) {r u : K.Whole} → r ≡ laid l → length l < K.room → K.lay (K.read x) ≡ x
      → K.items u ≡ set (K.items r) (K.count r) x → K.count u ≡ K.count r + 1 → u ≡ laid (l ++ (K.read x ∷ []))
  pushed {l} x {r} {u} e f b p q =
      let i : K.items r ≡ slotted K l = ap K.items e ∙ m.laid_items l in
      let n : K.count r ≡ length l = ap K.count e ∙ m.laid_count l in
      let v : map K.lay (l ++ (K.read x ∷ [])) ≡ map K.lay l ++ (x ∷ []) = map-append K.lay l (K.read x ∷ []) ∙ ap (λ (y : K.Slot). map K.lay l ++ (y ∷ [])) b in
      let s : set (slotted K l) (length l) x ≡ slotted K (l ++ (K.read x ∷ [])) = set_pad K.room K.blank (map K.lay l) (length l) x (length-map l K.lay) f ∙ ap (pad K.room K.blank) (sym v) in
      let w : length (l ++ (K.read x ∷ [])) ≡ length l + 1 = simp length-append in
      m.same
      (p ∙ ap₂ (λ (xs : List K.Slot) (k : ℕ). set xs k x) i n ∙ s ∙ sym (m.laid_items _))
      (q ∙ ap (λ (k : ℕ). k + 1) n ∙ sym w ∙ sym (m.laid_count _))

  -- a tidy table with one more
  pub pushed_one : {t u : K.Whole} → Tidy K t → (x : K.Slot) → K.count t < K.room → K.lay (K.read x) ≡ x
      → K.items u ≡ set (K.items t) (K.count t) x → K.count u ≡ K.count t + 1 → u ≡ laid (listed K t ++ (K.read x ∷ []))
  pushed_one h x f b p q = pushed x (sym (laid_back m h)) (omega (arith, read_length h)) b p q

  -- a tidy table with another element in the place of one
  pub replaced : {t u : K.Whole} → Tidy K t → (i : ℕ) (x : K.Slot) → i < K.count t → K.lay (K.read x) ≡ x
      → K.items u ≡ set (K.items t) i x → K.count u ≡ K.count t → u ≡ laid (set (listed K t) i (K.read x))
  replaced {t} {u} h i x f b p q =
      let l : List K.Plain = listed K t in
      let w : i < length (map K.lay l) = rw (length-map l K.lay) (omega (arith, read_length h)) in
      let v : set (map K.lay l) i x ≡ map K.lay (set l i (K.read x)) = sym (map_set K.lay l i (K.read x) ∙ ap (set (map K.lay l) i) b) in
      let n : length (map K.lay l) ≡ length (map K.lay (set l i (K.read x))) = simp (length-map, length-set) in
      let s : set (slotted K l) i x ≡ slotted K (set l i (K.read x)) = set-append_left (map K.lay l) _ i x w ∙ ap₂ (λ (ys : List K.Slot) (k : ℕ). ys ++ replicate (K.room - k) K.blank) v n in
      m.same
      (p ∙ ap (λ (xs : List K.Slot). set xs i x) h.slots ∙ s ∙ sym (m.laid_items _))
      (q ∙ sym (m.laid_count _ ∙ length-set l i (K.read x) ∙ read_length h))
