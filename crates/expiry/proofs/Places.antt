-- The list of an expiry place by place: the removals of refs, then a removal for each sixteen ids.
use Prim.Native.Nat.{ℕ, zero, suc, ◌+◌, ◌-◌, ◌*◌, ◌≤◌, ◌<◌}
use native.Mathlib.Omega.{arith}
use mathlib.Core.Path.{◌≡◌, refl, sym, ap, ap₂, ◌∙◌}
use mathlib.Core.List.{List, [], ◌∷◌, map}
use lib.IntN.{ℤ}
use lib.ListN.{length, get_or, take, drop, length-drop, length-append, length-map}
use lib.Seq.{drop-nil, drop-drop}
use Rattle.rules.specs.Capacities.{removal_room}
use Rattle.rules.specs.Register.{NamedRef, Update}
use Rattle.rules.specs.Register.Update.{RemoveSnapshots, RemoveRef}
use Rattle.retention.specs.Expiry.{cut, parts_of}
use Rattle.expiry.specs.List.{list_of, removal, update_at}
use Rattle.expiry.proofs.Slots.{map_at}

-- ---- parts of sixteen

module _ {A : Type 0} where
  nothing_there : (k : ℕ) → ◌≡◌ {A = List A} [] (take removal_room (drop k []))
  nothing_there k = rw (drop-nil {A = A} k)

  -- the part at a place; none, where there are no more
  cut_at : (steps : ℕ) (l : List A) (k : ℕ) → length l ≤ steps → get_or (cut steps removal_room l) k [] ≡ take removal_room (drop (k * removal_room) l)
  cut_at zero [] k h = nothing_there (k * removal_room)
  cut_at zero (x ∷ l) k h = absurd (omega arith)
  cut_at (suc steps) [] k h = nothing_there (k * removal_room)
  cut_at (suc steps) (x ∷ l) zero h = refl
  cut_at (suc steps) (x ∷ l) (suc k) h =
      let n : removal_room + k * removal_room ≡ suc k * removal_room = omega arith in
      cut_at steps (drop removal_room (x ∷ l)) k (omega (arith, length-drop removal_room (x ∷ l)))
      ∙ ap (take removal_room) (drop-drop (k * removal_room) removal_room (x ∷ l) ∙ ap (λ (j : ℕ). drop j (x ∷ l)) n)

  -- how many there are
  cut_count : (steps : ℕ) (l : List A) → length l ≤ steps → (length l ≤ length (cut steps removal_room l) * removal_room) × (length (cut steps removal_room l) * removal_room < length l + removal_room)
  cut_count zero [] h = (omega arith, omega arith)
  cut_count zero (x ∷ l) h = absurd (omega arith)
  cut_count (suc steps) [] h = (omega arith, omega arith)
  cut_count (suc steps) (x ∷ l) h =
      let n = length-drop removal_room (x ∷ l) in
      let k = cut_count steps (drop removal_room (x ∷ l)) (omega (arith, n)) in
      (omega (arith, n, k.0, k.1), omega (arith, n, k.0, k.1))

-- ---- the list

module _ (ids : List ℤ) where
  abbrev part : ℕ → List ℤ
  part k = take removal_room (drop (k * removal_room) ids)

  pub list_at : (refs : List NamedRef) (place : ℕ) (d : Update) → place < length (list_of refs ids) → get_or (list_of refs ids) place d ≡ update_at refs ids place
  list_at [] place d h =
      let b : place < length (parts_of removal_room ids) = rw (length-map (parts_of removal_room ids) RemoveSnapshots) at h in
      let n : place ≡ place - 0 = omega arith in
      map_at d RemoveSnapshots [] (parts_of removal_room ids) place b
      ∙ ap RemoveSnapshots (cut_at (length ids) ids place (omega arith))
      ∙ ap₂ (λ (refs : List NamedRef) (k : ℕ). removal refs (part k)) (sym (drop-nil place)) n
  list_at (r ∷ refs) zero d h = refl
  list_at (r ∷ refs) (suc place) d h =
      let n : place - length refs ≡ suc place - suc (length refs) = omega arith in
      list_at refs place d (omega arith) ∙ ap (λ (k : ℕ). removal (drop place refs) (part k)) n

  pub list_count : (refs : List NamedRef) (n : ℕ) → length ids ≤ n * removal_room → n * removal_room < length ids + removal_room → length (list_of refs ids) ≡ length refs + n
  list_count refs n h k =
      let c = cut_count (length ids) ids (omega arith) in
      let m = length-append (map (λ (r : NamedRef). RemoveRef r.name) refs) (map RemoveSnapshots (parts_of removal_room ids)) in
      omega (arith, m, length-map refs (λ (r : NamedRef). RemoveRef r.name), length-map (parts_of removal_room ids) RemoveSnapshots, c.0, c.1)
