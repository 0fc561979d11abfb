-- What `==` and `<=` say of two signed numbers of the machine, at any width.
use Prim.Native.Nat.{ℕ}
use mathlib.Core.Path.{◌≡◌, refl, sym, ap, ◌∙◌}
use mathlib.Core.Bool.{Bool, true, false, not, true≢false}
use lib.Dec.{eqb, leb, ltb}
use lib.IntN.{ℤ, pos, negsuc}
use lib.Signed.{lt_z, le_z}
use borrow.Author.Tests.{eq-eqb, ne_eqb, leb-true, leb-false, lt-ltb, le-ltb}
use borrow.Table.Steps.{cases}
use mir.Syntax.{Width}
use mir.Val.{of_z, to_z, SFits}
use mir.Facts.{to_z-of_z}
use Rattle.rules.specs.Words.{eq_z}
use Rattle.rules.proofs.Orders.{numbers_told}

-- two numbers that fit are equal exactly if their bits are
pub eq_bits : {w : Width} (a b : ℤ) → SFits w a → SFits w b → eqb (of_z w a) (of_z w b) ≡ eq_z a b
eq_bits {w} a b fa fb = go (eq_z a b) refl
  where
    differ : eq_z a b ≡ false → a ≡ b → ⊥
    differ e q = true≢false (sym (numbers_told.itself a) ∙ ap (eq_z a) q ∙ e)

    go : (t : Bool) → eq_z a b ≡ t → eqb (of_z w a) (of_z w b) ≡ t
    go true e = eq-eqb _ _ (ap (of_z w) (numbers_told.equal a b e))
    go false e = ne_eqb _ _ (λ q. differ e (sym (to_z-of_z fa) ∙ ap (to_z w) q ∙ to_z-of_z fb))

-- a number and another that is read back from its bits
pub back : {w : Width} (a : ℤ) {b : ℤ} {t : Bool} → SFits w a → SFits w b → eqb (of_z w a) (of_z w b) ≡ t → eq_z a (to_z w (of_z w b)) ≡ t
back a {b} f g e = rw (to_z-of_z g) (sym (eq_bits a b f g) ∙ e)

-- ---- at most

at_most_turned : (m n : ℕ) → leb m n ≡ not (ltb n m)
at_most_turned m n = cases (leb m n) (λ t. t ∙ sym (rw (le-ltb n m (leb-true m n t)))) (λ f. f ∙ sym (rw (lt-ltb n m (leb-false m n f))))

pub le_z_turned : (a b : ℤ) → le_z a b ≡ not (lt_z b a)
le_z_turned (pos a) (pos b) = at_most_turned a b
le_z_turned (pos a) (negsuc b) = refl
le_z_turned (negsuc a) (pos b) = refl
le_z_turned (negsuc a) (negsuc b) = at_most_turned b a
