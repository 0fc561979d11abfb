-- Where records first differ: what is said of the place, and that it is so wherever the test tells equal records.
use Prim.Native.Nat.{ℕ, suc, ◌+◌}
use native.Mathlib.Omega.{arith}
use mathlib.Core.Path.{◌≡◌, refl, sym, ap, ap₂, ◌∙◌}
use mathlib.Core.Bool.{Bool, true, false, cond, true≢false}
use mathlib.Core.List.{List, [], ◌∷◌}
use mathlib.Core.Option.{Option, none, some}
use borrow.Author.Tests.{eqb-true, eqb-false}
use lib.Dec.{eqb}
use lib.ListN.{length, take}
use Rattle.rules.proofs.Orders.{Tells}
use Rattle.compare.specs.First.{unlike}

-- those before the place are equal; where those at the place are too, it is the end of both lists, and the counts differ
pub record FirstPlace {A : Type 0} (xs ys : List A) (m n place : ℕ) : Type 0 where
  pub before : take place xs ≡ take place ys
  pub there : take (suc place) xs ≡ take (suc place) ys → (place ≡ length xs) × (place ≡ length ys) × (m ≡ n → ⊥)

-- lists of which the first elements stand at a start are equal, or differ first so many places on
pub data Compared {A : Type 0} (start : ℕ) (xs ys : List A) (m n : ℕ) : Option ℕ → Type 0 where
  equal : xs ≡ ys → m ≡ n → Compared start xs ys m n none
  differs : (k p : ℕ) → p ≡ k + start → FirstPlace xs ys m n k → Compared start xs ys m n (some p)

module _ {A : Type 0} {same : A → A → Bool} (told : Tells same) where
  by_counts : (start m n : ℕ) (t : Bool) → eqb m n ≡ t → Compared {A = A} start [] [] m n (cond t none (some start))
  by_counts start m n true e = equal refl (eqb-true m n e)
  by_counts start m n false e = differs 0 start (omega arith) (record { before = refl; there = λ q. (refl, refl, eqb-false m n e) })

  by_heads : (start : ℕ) (x y : A) (xs ys : List A) (m n : ℕ) (t : Bool) → same x y ≡ t → {o : Option ℕ} → Compared (suc start) xs ys m n o → Compared start (x ∷ xs) (y ∷ ys) m n (cond t o (some start))
  by_heads start x y xs ys m n true e (equal p q) = equal (ap₂ ◌∷◌ (told.equal x y e) p) q
  by_heads start x y xs ys m n true e (differs k at q f) =
      differs (suc k) at (omega arith)
      (record {
        before = ap₂ ◌∷◌ (told.equal x y e) f.before;
        there = λ h. let r = f.there (cc) in (ap suc r.0, ap suc r.1, r.2);
      })
  by_heads start x y xs ys m n false e c =
      differs 0 start (omega arith)
      (record { before = refl; there = λ h. let q : x ≡ y = cc in absurd (true≢false (sym (told.itself x) ∙ ap (same x) q ∙ e)) })

  pub compared : (start : ℕ) (xs ys : List A) (m n : ℕ) → Compared start xs ys m n (unlike same start xs ys m n)
  compared start [] [] m n = by_counts start m n (eqb m n) refl
  compared start [] (y ∷ ys) m n = differs 0 start (omega arith) (record { before = refl; there = λ h. let z : ◌≡◌ {A = ℕ} 0 1 = cc in absurd (omega arith) })
  compared start (x ∷ xs) [] m n = differs 0 start (omega arith) (record { before = refl; there = λ h. let z : ◌≡◌ {A = ℕ} 0 1 = cc in absurd (omega arith) })
  compared start (x ∷ xs) (y ∷ ys) m n = by_heads start x y xs ys m n (same x y) refl (compared (suc start) xs ys m n)
