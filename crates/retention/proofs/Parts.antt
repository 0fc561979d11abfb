-- A list cut into parts: together they are the list, none is empty, none is too long, and they are no more than are needed.
use Prim.Native.Nat.{ℕ, zero, suc, ◌≤◌, ◌*◌}
use native.Mathlib.Nat.{suc-mul}
use native.Mathlib.Omega.{arith}
use mathlib.Core.Path.{◌≡◌, refl, ap, ◌∙◌}
use mathlib.Core.Bool.{Bool, true, not, ◌&&◌}
use mathlib.Core.List.{List, [], ◌∷◌, ◌++◌}
use lib.Dec.{leb}
use lib.ListN.{length, take, drop, take-append-drop, length-take, length-drop}
use borrow.Author.Tests.{le-leb}
use Rattle.rules.specs.Words.{all, is_empty}
use Rattle.rules.proofs.Checks.{both}
use Rattle.retention.specs.Expiry.{cut, parts_of}

module _ {A : Type 0} where
  -- the parts one after the other
  abbrev pub together : List (List A) → List A
  together [] = []
  together (part ∷ parts) = part ++ together parts

  -- some elements, and at most so many
  abbrev pub is_part : ℕ → List A → Bool
  is_part size part = not (is_empty part) && leb (length part) size

  -- a part and what is left of the list
  cut_together : (steps size : ℕ) (l : List A) → length l ≤ steps → together (cut steps (suc size) l) ≡ l
  cut_together zero size [] h = refl
  cut_together zero size (x ∷ l) h = absurd (omega arith)
  cut_together (suc steps) size [] h = refl
  cut_together (suc steps) size (x ∷ l) h =
      let left : List A = drop (suc size) (x ∷ l) in
      let short : length left ≤ steps = omega (arith, length-drop (suc size) (x ∷ l)) in
      ap (λ (r : List A). take (suc size) (x ∷ l) ++ r) (cut_together steps size left short) ∙ take-append-drop (suc size) (x ∷ l)

  cut_parts : (steps size : ℕ) (l : List A) → all (is_part (suc size)) (cut steps (suc size) l) ≡ true
  cut_parts zero size l = refl
  cut_parts (suc steps) size [] = refl
  cut_parts (suc steps) size (x ∷ l) =
      both (le-leb (length (take (suc size) (x ∷ l))) (suc size) (omega (arith, length-take (suc size) (x ∷ l)))) (cut_parts steps size (drop (suc size) (x ∷ l)))

  cut_few : (steps size count : ℕ) (l : List A) → length l ≤ count * size → length (cut steps size l) ≤ count
  cut_few zero size count l h = omega arith
  cut_few (suc steps) size count [] h = omega arith
  cut_few (suc steps) size zero (x ∷ l) h = absurd (omega arith)
  cut_few (suc steps) size (suc count) (x ∷ l) h =
      let left : List A = drop size (x ∷ l) in
      let short : length left ≤ count * size = omega (arith, length-drop size (x ∷ l), suc-mul count size) in
      omega (arith, cut_few steps size count left short)

  -- together the parts are the list
  pub parts_together : (size : ℕ) (l : List A) → together (parts_of (suc size) l) ≡ l
  parts_together size l = cut_together (length l) size l (omega arith)

  -- each is a part of the size
  pub parts_formed : (size : ℕ) (l : List A) → all (is_part (suc size)) (parts_of (suc size) l) ≡ true
  parts_formed size l = cut_parts (length l) size l

  -- as many as hold the list are enough
  pub parts_few : (size count : ℕ) (l : List A) → length l ≤ count * size → length (parts_of size l) ≤ count
  parts_few size count l = cut_few (length l) size count l

  -- there are none of an empty list alone
  pub parts_none : (size : ℕ) (l : List A) → is_empty (parts_of size l) ≡ is_empty l
  parts_none size [] = refl
  parts_none size (x ∷ l) = refl
