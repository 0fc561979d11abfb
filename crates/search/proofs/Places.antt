-- Where the first element stands for which a test holds, read from the front, and what that place says of the first and of any.
use Prim.Native.Nat.{ℕ, suc, ◌+◌, ◌≤◌, ◌<◌}
use mathlib.Core.Path.{◌≡◌, refl, sym, ap, ◌∙◌}
use mathlib.Core.Bool.{Bool, true, false}
use mathlib.Core.List.{List, [], ◌∷◌}
use native.Mathlib.Numerals.{add-one}
use native.Mathlib.Omega.{arith}
use borrow.Author.Tests.{lt-ltb}
use borrow.Table.Steps.{cases}
use lib.Dec.{ltb, leb-suc-suc}
use lib.IntN.{ℤ}
use lib.ListN.{length, get_or, drop, drop_of_length-le}
use lib.Seq.{drop-cons}
use Rattle.rules.specs.Words.{eq_z, any, first, is_in}
use Rattle.rules.specs.Layout.{given}
use Rattle.rules.proofs.Orders.{numbers_told}
use Rattle.search.specs.Places.{index_of}

-- ---- read from the front

module _ {A : Type 0} (p : A → Bool) (d : A) (l : List A) (i : ℕ) where
  pub here : i < length l → p (get_or l i d) ≡ true → i + index_of p (drop i l) ≡ i
  here h e = rw (drop-cons l i d h, e) (omega arith)

  pub further : i < length l → p (get_or l i d) ≡ false → i + index_of p (drop i l) ≡ (i + 1) + index_of p (drop (i + 1) l)
  further h e = rw (drop-cons l i d h, e, add-one) (omega arith)

  pub nowhere : length l ≤ i → i + index_of p (drop i l) ≡ i
  nowhere h = rw (drop_of_length-le l h) (omega arith)

-- ---- what the place says

module _ {A : Type 0} (p : A → Bool) where
  pub index_le : (l : List A) → index_of p l ≤ length l
  index_le [] = omega arith
  index_le (x ∷ l) = cases (p x) (λ t. rw t (omega arith)) (λ f. rw f (omega (arith, index_le l)))

  -- it is a place of the list exactly if the test holds for any
  pub index_below : (l : List A) → ltb (index_of p l) (length l) ≡ any p l
  index_below [] = refl
  index_below (x ∷ l) = cases (p x) (λ t. rw t (lt-ltb 0 (suc (length l)) (omega arith))) (λ f. rw f (leb-suc-suc (suc (index_of p l)) (length l) ∙ index_below l))

  -- and then the first for which it holds stands there
  pub first_at : (d : A) (l : List A) → first p l ≡ given (ltb (index_of p l) (length l)) (get_or l (index_of p l) d)
  first_at d [] = refl
  first_at d (x ∷ l) =
      cases (p x)
      (λ t. rw (t, lt-ltb 0 (suc (length l)) (omega arith)))
      (λ f. rw (f, leb-suc-suc (suc (index_of p l)) (length l)) (first_at d l))

-- ---- ids

pub eq_z_turned : (x y : ℤ) → eq_z x y ≡ eq_z y x
eq_z_turned x y =
    cases (eq_z x y)
    (λ t. rw (numbers_told.equal x y t))
    (λ f. cases (eq_z y x) (λ t. rw (numbers_told.equal y x t)) (λ g. f ∙ sym g))

-- an id stands in the list exactly if it has a place there
pub id_found : (id : ℤ) (l : List ℤ) → ltb (index_of (λ x. eq_z x id) l) (length l) ≡ is_in l id
id_found id l = index_below (λ x. eq_z x id) l ∙ ap (λ (q : ℤ → Bool). any q l) (λ i x. eq_z_turned x id i)
