-- A list's items one at a time, with commas between them.
use Rattle.std.proofs.Common.{◌≡◌, ℕ, zero, suc, ◌+◌, ◌≤◌, ◌<◌, List, [], ◌∷◌, ◌++◌, cond, get_or, drop, map, refl, ap, arith}
use borrow.Author.Tests.{lt-ltb}
use lib.Dec.{ltb}
use lib.ListN.{drop_of_length-le}
use Rattle.rules.specs.Layout.{counted}
use Rattle.rules.proofs.Slots.Relaid.{length_counted}
use Rattle.file_rule.specs.Written.{items, more_items}
use Rattle.file_text.specs.Puts.{Puts, only_if}
use Rattle.file_text.proofs.Pieces.{is}
use Rattle.file_text.proofs.Slots.{from_slot}

module _ {A : Type 0} (f : A → List ℕ) where
  -- items of which so many are in front
  abbrev pub items_from : ℕ → List A → List ℕ
  items_from i l = cond (ltb 0 i) (more_items f l) (items f l)

  one_more : (i : ℕ) (x : A) (l : List A) → only_if (ltb 0 i) (44 ∷ []) ++ f x ++ items_from (i + 1) l ≡ items_from i (x ∷ l)
  one_more zero x l = refl
  one_more (suc i) x l = rw (lt-ltb 0 (suc i) (omega arith), lt-ltb 0 (suc i + 1) (omega arith))

  none_more : (i : ℕ) → [] ≡ items_from i []
  none_more zero = refl
  none_more (suc i) = rw (lt-ltb 0 (suc i) (omega arith))

  module _ (blank : A) (l : List A) (n i : ℕ) where
    pub item_here : (x : A) → i < n → x ≡ get_or l i blank → only_if (ltb 0 i) (44 ∷ []) ++ f x ++ items_from (i + 1) (drop (i + 1) (counted blank l n)) ≡ items_from i (drop i (counted blank l n))
    item_here x h e = rw (e, from_slot blank l n i h) (one_more i (get_or l i blank) (drop (i + 1) (counted blank l n)))

    pub items_end : n ≤ i → [] ≡ items_from i (drop i (counted blank l n))
    items_end h = rw (drop_of_length-le (counted blank l n) {i = i} (omega (arith, length_counted blank l n))) (none_more i)

module _ {A B : Type 0} (f : B → List ℕ) (g : A → B) where
  more_map : (l : List A) → more_items (λ x. f (g x)) l ≡ more_items f (map g l)
  more_map [] = refl
  more_map (x ∷ l) = ap (λ (m : List ℕ). 44 ∷ f (g x) ++ m) (more_map l)

  pub items_map : (l : List A) → items (λ x. f (g x)) l ≡ items f (map g l)
  items_map [] = refl
  items_map (x ∷ l) = ap (λ (m : List ℕ). f (g x) ++ m) (more_map l)

-- what is put of the slots is put of what they are read as
module _ {A B : Type 0} (f : B → List ℕ) (g : A → B) (l : List A) (n : ℕ) where
  pub table : {blank none : A} {p r : ℕ} {b a : List ℕ} → Puts b p (items (λ x. f (g x)) (counted none l n)) r a → none ≡ blank → Puts b p (items f (map g (counted blank l n))) r a
  table {blank} x e = is x (rw e (items_map f g (counted blank l n)))
