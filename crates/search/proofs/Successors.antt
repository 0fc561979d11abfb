-- A number that is below another of its width has a successor that fits.
use Prim.Native.Nat.{zero, suc}
use mathlib.Core.Path.{◌≡◌, ◌∙◌}
use mathlib.Core.Bool.{true, false≢true}
use native.Mathlib.Omega.{arith}
use borrow.Author.Tests.{ltb-true}
use lib.IntN.{ℤ, pos, negsuc, suc_ℤ, ◌+ℤ◌, +ℤ_one}
use lib.Signed.{lt_z}
use lib.Pow.{pow_pos}
use mir.Syntax.{Width}
use mir.Val.{SFits, hbits, to_z, of_z}
use mir.Facts.{to_z-of_z}

pub next_fits : (w : Width) (z y : ℤ) → SFits w z → SFits w y → lt_z z y ≡ true → SFits w (suc_ℤ z)
next_fits w (pos n) (pos m) f g e = record { sfits = omega (arith, ltb-true n m e, g.sfits) }
next_fits w (pos n) (negsuc m) f g e = absurd (false≢true e)
next_fits w (negsuc zero) y f g e = record { sfits = pow_pos (hbits w) }
next_fits w (negsuc (suc n)) y f g e = record { sfits = omega (arith, f.sfits) }

-- the sum as the code forms it, of the number read from its bits
module _ (w : Width) (z y : ℤ) (f : SFits w z) (g : SFits w y) (e : lt_z z y ≡ true) where
  pub sum_fits : SFits w (to_z w (of_z w z) +ℤ pos 1)
  sum_fits = rw (to_z-of_z f, +ℤ_one z) (next_fits w z y f g e)

  pub sum_next : to_z w (of_z w (to_z w (of_z w z) +ℤ pos 1)) ≡ suc_ℤ z
  sum_next = to_z-of_z sum_fits ∙ rw (to_z-of_z f) (+ℤ_one z)
