-- Hexadecimal digits have values below 16, and short escapes stand for no byte 0.
use Prim.Native.Nat.{ℕ, ◌<◌}
use mathlib.Core.Path.{◌≡◌, sym}
use mathlib.Core.Bool.{Bool, true, false, cond, true≢false}
use native.Mathlib.Omega.{arith}
use borrow.Author.Tests.{eqb-true, eqb-false, le-leb, lt-leb}
use borrow.Table.Steps.{cases}
use lib.Dec.{eqb}
use Rattle.json_rule.specs.Lexemes.{within, is_digit, is_hex, is_short}
use Rattle.json_rule.specs.Values.{hex_value, short_value}
use Rattle.json_machine.specs.Digest.{hex_of, escaped_of}
use Rattle.json_machine.proofs.Bounds.{from_least, to_most}

-- ---- hexadecimal digits

module _ (b : ℕ) where
  digit_small : within 48 57 b ≡ true → hex_value b < 16
  digit_small e = rw (le-leb b 57 (to_most 48 57 b e)) (omega (arith, to_most 48 57 b e))

  upper_small : within 65 70 b ≡ true → hex_value b < 16
  upper_small e =
      rw (lt-leb b 57 (omega (arith, from_least 65 70 b e)), le-leb b 70 (to_most 65 70 b e)) (omega (arith, to_most 65 70 b e))

  lower_small : within 97 102 b ≡ true → hex_value b < 16
  lower_small e =
      rw (lt-leb b 57 (omega (arith, from_least 97 102 b e)), lt-leb b 70 (omega (arith, from_least 97 102 b e))) (omega (arith, to_most 97 102 b e))

  pub hex_small : is_hex b ≡ true → hex_value b < 16
  unfolding is_digit is_hex
  hex_small e =
      cases (within 48 57 b) digit_small
      (λ n1. cases (within 65 70 b) upper_small
      (λ n2. cases (within 97 102 b) lower_small
      (λ n3. absurd (true≢false (sym (rw (n1, n2, n3) at e))))))

  pub hex_is : is_hex b ≡ true → hex_of b ≡ hex_value b
  unfolding hex_of
  hex_is e = rw e

  pub hex_is_not : hex_of b ≡ 16 → is_hex b ≡ false
  hex_is_not e = cases (is_hex b) (λ t. absurd (omega (arith, hex_small t, hex_is t))) (λ f. f)

  pub hex_is_some : (hex_of b ≡ 16 → ⊥) → is_hex b ≡ true
  unfolding hex_of
  hex_is_some n = cases (is_hex b) (λ t. t) (λ f. absurd (n (rw f)))

-- ---- short escapes

one_of : (t : Bool) (x y : ℕ) → 0 < x → 0 < y → 0 < cond t x y
one_of true x y h g = h
one_of false x y h g = g

module _ (b : ℕ) where
  pub short_is : is_short b ≡ true → escaped_of b ≡ short_value b
  unfolding escaped_of
  short_is e = rw e

  byte_not_zero : is_short b ≡ true → 0 < b
  unfolding is_short
  byte_not_zero e =
      cases (eqb b 0)
      (λ z. absurd (true≢false (sym (rw (eqb-true b 0 z) at e))))
      (λ n. omega (arith, eqb-false b 0 n))

  short_not_zero : is_short b ≡ true → 0 < short_value b
  short_not_zero e =
      one_of (eqb b 98) 8 _ (omega arith)
      (one_of (eqb b 102) 12 _ (omega arith)
      (one_of (eqb b 110) 10 _ (omega arith)
      (one_of (eqb b 114) 13 _ (omega arith)
      (one_of (eqb b 116) 9 b (omega arith) (byte_not_zero e)))))

  pub short_is_not : escaped_of b ≡ 0 → is_short b ≡ false
  short_is_not e = cases (is_short b) (λ t. absurd (omega (arith, short_not_zero t, short_is t))) (λ f. f)

  pub short_is_some : (escaped_of b ≡ 0 → ⊥) → is_short b ≡ true
  unfolding escaped_of
  short_is_some n = cases (is_short b) (λ t. t) (λ f. absurd (n (rw f)))
