-- Signed numbers by their bits: a magnitude with its sign, and what fits 32 bits.
use Prim.Native.Nat.{ℕ, zero, suc, ◌-◌, ◌≤◌, ◌<◌}
use mathlib.Core.Path.{◌≡◌, refl, sym, ap, ◌∙◌}
use mathlib.Core.Bool.{Bool, true, false, cond, true≢false}
use native.Mathlib.Nat.{zero-add}
use native.Mathlib.Omega.{arith}
use borrow.Author.Rules.{sfits_of}
use borrow.Author.Tests.{lt-ltb, le-ltb, le-leb, lt-leb, ne_eqb, ltb-true, ltb-false}
use lib.IntN.{ℤ, pos, negsuc, ◌-ℤ◌}
use lib.Signed.{lt_z}
use mir.Syntax.{w32, w64}
use mir.Val.{SFits, to_z, of_z, bool_byte}
use mir.Facts.{to_z-of_z, to_z_pos}
use Rattle.json_store.specs.Numbers.{signed_of, narrowed}

pub bool_number : (b : Bool) → bool_byte b ≡ cond b 1 0
bool_number true = refl
bool_number false = refl

-- ---- below 0, counted from -1

down : (k : ℕ) → negsuc 0 -ℤ pos k ≡ negsuc k
down zero = refl
down (suc k) = ap negsuc (ap suc (zero-add k))

module _ (m : ℕ) (some : m ≡ 0 → ⊥) (h : m ≤ 9223372036854775808) where
  less : negsuc 0 -ℤ to_z w64 (m - 1) ≡ negsuc (m - 1)
  less = ap (λ (z : ℤ). negsuc 0 -ℤ z) (to_z_pos w64 {n = m - 1} (omega arith)) ∙ down (m - 1)

  fits : SFits w64 (negsuc (m - 1))
  fits = sfits_of (omega arith)

  pub below_fits : SFits w64 (negsuc 0 -ℤ to_z w64 (m - 1))
  below_fits = rw less fits

  pub signed_below : to_z w64 (of_z w64 (negsuc 0 -ℤ to_z w64 (m - 1))) ≡ signed_of true m
  unfolding signed_of
  signed_below = ap (λ (z : ℤ). to_z w64 (of_z w64 z)) less ∙ to_z-of_z fits ∙ rw (ne_eqb m 0 some, le-leb m 9223372036854775808 h)

pub signed_low : (m : ℕ) → 9223372036854775808 < m → pos 0 ≡ signed_of true m
unfolding signed_of
signed_low m h = rw (ne_eqb m 0 (λ e. omega arith), lt-leb m 9223372036854775808 h)

pub signed_above : (m : ℕ) → m ≤ 9223372036854775807 → to_z w64 m ≡ signed_of false m
unfolding signed_of
signed_above m h = to_z_pos w64 {n = m} (omega arith) ∙ rw (lt-ltb m 9223372036854775808 (omega arith))

pub signed_high : (m : ℕ) → 9223372036854775807 < m → pos 0 ≡ signed_of false m
unfolding signed_of
signed_high m h = rw (le-ltb m 9223372036854775808 (omega arith))

-- ---- of 32 bits

pub narrow_low : (z : ℤ) → lt_z z (negsuc 2147483647) ≡ true → pos 0 ≡ narrowed z
unfolding narrowed
narrow_low (pos n) e = absurd (true≢false (sym e))
narrow_low (negsuc n) e = rw (lt-leb n 2147483647 (ltb-true 2147483647 n e))

pub narrow_high : (z : ℤ) → lt_z (pos 2147483647) z ≡ true → pos 0 ≡ narrowed z
unfolding narrowed
narrow_high (pos n) e = rw (lt-leb n 2147483647 (ltb-true 2147483647 n e))
narrow_high (negsuc n) e = absurd (true≢false (sym e))

pub narrow_fits : (z : ℤ) → lt_z z (negsuc 2147483647) ≡ false → lt_z (pos 2147483647) z ≡ false → SFits w32 z
narrow_fits (pos n) e f = sfits_of (omega (arith, ltb-false 2147483647 n f))
narrow_fits (negsuc n) e f = sfits_of (omega (arith, ltb-false 2147483647 n e))

pub narrow_same : (z : ℤ) → lt_z z (negsuc 2147483647) ≡ false → lt_z (pos 2147483647) z ≡ false → z ≡ narrowed z
unfolding narrowed
narrow_same (pos n) e f = rw (le-leb n 2147483647 (ltb-false 2147483647 n f))
narrow_same (negsuc n) e f = rw (le-leb n 2147483647 (ltb-false 2147483647 n e))
