-- Reasons laid over others, from the front: the first so many, and then all.
use Prim.Native.Nat.{ℕ, zero, suc, ◌+◌, ◌≤◌, ◌<◌}
use mathlib.Core.Path.{◌≡◌, refl, sym, ap, ◌∙◌}
use mathlib.Core.List.{List, [], ◌∷◌}
use native.Mathlib.Omega.{arith}
use native.Mathlib.Numerals.{add-one}
use borrow.Author.Tests.{eq-eqb, ne_eqb}
use lib.ListN.{length, get_or, set}
use lib.Seq.{set-get_or}
use Rattle.rules.specs.Words.{pair_up}
use Rattle.retention.specs.Reasons.{nothing}
use Rattle.expiry.specs.Answer.{no_reason}
use Rattle.expiry.specs.Found.{overlay}
use Rattle.expiry.specs.declared.policy.Reason.{Reason}

module _ {A B : Type 0} (f : A → B → A) where
  -- the first k are laid over
  abbrev pub mixed : ℕ → List A → List B → List A
  mixed zero xs ys = xs
  mixed (suc k) [] ys = []
  mixed (suc k) (x ∷ xs) [] = []
  mixed (suc k) (x ∷ xs) (y ∷ ys) = f x y ∷ mixed k xs ys

  module _ (d : A) (e : B) where
    untouched : (k : ℕ) (xs : List A) (ys : List B) → k < length xs → length xs ≡ length ys → get_or (mixed k xs ys) k d ≡ get_or xs k d
    untouched zero xs ys h q = refl
    untouched (suc k) [] ys h q = absurd (omega arith)
    untouched (suc k) (x ∷ xs) [] h q = absurd (omega arith)
    untouched (suc k) (x ∷ xs) (y ∷ ys) h q = untouched k xs ys (omega arith) (omega arith)

    laid_one : (k : ℕ) (xs : List A) (ys : List B) → k < length xs → length xs ≡ length ys → set (mixed k xs ys) k (f (get_or xs k d) (get_or ys k e)) ≡ mixed (suc k) xs ys
    laid_one k [] ys h q = absurd (omega arith)
    laid_one k (x ∷ xs) [] h q = absurd (omega arith)
    laid_one zero (x ∷ xs) (y ∷ ys) h q = refl
    laid_one (suc k) (x ∷ xs) (y ∷ ys) h q = ap (λ (l : List A). f x y ∷ l) (laid_one k xs ys (omega arith) (omega arith))

  pub laid_all : (k : ℕ) (xs : List A) (ys : List B) → length xs ≤ k → mixed k xs ys ≡ pair_up f xs ys
  laid_all zero [] ys h = refl
  laid_all zero (x ∷ xs) ys h = absurd (omega arith)
  laid_all (suc k) [] ys h = refl
  laid_all (suc k) (x ∷ xs) [] h = refl
  laid_all (suc k) (x ∷ xs) (y ∷ ys) h = ap (λ (l : List A). f x y ∷ l) (laid_all k xs ys (omega arith))

-- one turn
module _ (by k : ℕ) (xs : List Reason) (ys : List ℕ) (b : k < length xs) (q : length xs ≡ length ys) {r s : List Reason} (h : r ≡ mixed (overlay by) k xs ys) where
  pub stored : (get_or ys k 0 ≡ nothing → ⊥) → s ≡ set r k (record { why = get_or ys k 0; by = by }) → s ≡ mixed (overlay by) (k + 1) xs ys
  stored n e =
      let v : overlay by (get_or xs k no_reason) (get_or ys k 0) ≡ record { why = get_or ys k 0; by = by } = rw (ne_eqb (get_or ys k 0) 0 n) in
      e ∙ rw (h, ← v, add-one) (laid_one (overlay by) no_reason 0 k xs ys b q)

  pub left : get_or ys k 0 ≡ nothing → s ≡ r → s ≡ mixed (overlay by) (k + 1) xs ys
  left z e =
      let v : overlay by (get_or xs k no_reason) (get_or ys k 0) ≡ get_or (mixed (overlay by) k xs ys) k no_reason = rw (eq-eqb (get_or ys k 0) 0 z) (sym (untouched (overlay by) no_reason 0 k xs ys b q)) in
      e ∙ h ∙ sym (set-get_or (mixed (overlay by) k xs ys) k no_reason) ∙ rw (← v, add-one) (laid_one (overlay by) no_reason 0 k xs ys b q)
