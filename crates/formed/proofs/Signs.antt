-- Signed numbers as the code tests them: one that is at least 0, one behind a flag.
use mathlib.Core.Path.{◌≡◌, refl}
use mathlib.Core.Bool.{Bool, true, false, not, ◌||◌}
use native.Mathlib.Omega.{arith}
use borrow.Author.Tests.{le-leb}
use lib.IntN.{ℤ, pos, negsuc}
use lib.Signed.{le_z, non_neg}
use Rattle.rules.specs.Words.{if_some}
use Rattle.rules.specs.Layout.{given}

pub at_least_zero : (z : ℤ) → le_z (pos 0) z ≡ non_neg z
at_least_zero (pos n) = le-leb 0 n (omega arith)
at_least_zero (negsuc n) = refl

pub behind_flag : (p : ℤ → Bool) (has : Bool) (z : ℤ) → (not has || p z) ≡ if_some p (given has z)
behind_flag p true z = refl
behind_flag p false z = refl
