-- A number's sign and magnitude, which are read from its bits.
use Rattle.std.proofs.Common.{◌≡◌, ℕ, ℤ, pos, negsuc, List, [], ◌∷◌, ◌++◌, ap, refl, arith, w64}
use borrow.Author.Tests.{le-ltb}
use lib.IntN.{nat_abs}
use lib.Signed.{lt_z}
use mir.Val.{SFits, to_z, of_z}
use mir.Facts.{to_z-of_z}
use Rattle.file_rule.specs.Written.{natural_text, number_text}
use Rattle.file_text.specs.Puts.{only_if}

in_parts : (z : ℤ) → only_if (lt_z z (pos 0)) (45 ∷ []) ++ natural_text (nat_abs z) ≡ number_text z
unfolding number_text
in_parts (pos n) = rw (le-ltb n 0 (omega arith))
in_parts (negsuc n) = refl

-- a sign where it is below 0, and its magnitude
pub signed : (front : List ℕ) (z : ℤ) {m : ℕ} → SFits w64 z → m ≡ nat_abs (to_z w64 (of_z w64 z)) → front ++ (only_if (lt_z (to_z w64 (of_z w64 z)) (pos 0)) (45 ∷ []) ++ natural_text m) ≡ front ++ number_text z
signed front z f e = rw (e, to_z-of_z f) (ap (λ (l : List ℕ). front ++ l) (in_parts z))
