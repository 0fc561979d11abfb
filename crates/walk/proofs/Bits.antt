-- A signed number stands in a test by its bits, and two numbers are equal exactly if their bits are.
use mathlib.Core.Path.{◌≡◌, refl}
use mathlib.Core.Bool.{true, false, not}
use native.Mathlib.Omega.{arith}
use borrow.Author.Tests.{le-ltb}
use borrow.Table.Steps.{cases}
use lib.IntN.{ℤ, pos, negsuc}
use lib.Signed.{lt_z, non_neg}
use Rattle.rules.specs.Words.{eq_z}
use Rattle.rules.proofs.Orders.{numbers_told}

module _ (a b : ℤ) where
  pub eq_z_same : a ≡ b → eq_z a b ≡ true
  eq_z_same e = rw e (numbers_told.itself b)

  pub eq_z_other : (a ≡ b → ⊥) → eq_z a b ≡ false
  eq_z_other h = cases (eq_z a b) (λ t. absurd (h (numbers_told.equal a b t))) (λ f. f)

-- a number is below 0, or it is not
pub not_negative : (z : ℤ) → non_neg z ≡ not (lt_z z (pos 0))
not_negative (pos n) = rw (le-ltb n 0 (omega arith))
not_negative (negsuc n) = refl
