-- A number that is stored, read by its width: of 64 bits, of 32, not below 0, of a byte; and its lowest bytes.
use Prim.Native.Nat.{ℕ, zero, suc, ◌-◌, ◌%◌, ◌≤◌, ◌^◌}
use mathlib.Core.Path.{◌≡◌, refl, sym, ap, ◌∙◌}
use mathlib.Core.Bool.{Bool, true, false}
use mathlib.Core.List.{List}
use mathlib.Core.Option.{some}
use native.Mathlib.Omega.{arith}
use borrow.Author.Tests.{leb-true, le-leb, lt-ltb, ne_eqb}
use lib.IntN.{pos, negsuc}
use Rattle.json_rule.specs.Values.{negative}
use Rattle.json_rule.specs.Tree.{Json}
use Rattle.json_rule.specs.Members.{number_in}
use Rattle.json_rule.specs.Records.{four_bytes, number_bytes}
use Rattle.json_rule.specs.Shapes.{i32, i64, u64, u8}
use Rattle.json_members.specs.Widths.{width_of, has_number}
use Rattle.json_store.specs.Numbers.{magnitude_at, negative_at, signed_of, number_at, narrowed, narrow_at, low_bits, low_at, byte_at}
use Rattle.json_gather.proofs.Claims.{exact, NumberStored}

-- ---- by sign and magnitude

signed_exact : (negative : Bool) (m : ℕ) → has_number (width_of i64) negative m ≡ true → signed_of negative m ≡ exact negative m
unfolding signed_of
signed_exact true zero h = refl
signed_exact true (suc n) h =
    let b : suc n ≤ 9223372036854775808 = leb-true (suc n) 9223372036854775808 h in
    rw (ne_eqb (suc n) 0 (λ e. omega arith), le-leb (suc n) (2 ^ 63) b) (ap negsuc (less n))
  where
    less : (n : ℕ) → suc n - 1 ≡ n
    less n = omega arith
signed_exact false m h =
    let b : m ≤ 9223372036854775807 = leb-true m 9223372036854775807 h in
    rw (lt-ltb m (2 ^ 63) (omega arith))

wide_of_narrow : (negative : Bool) (m : ℕ) → has_number (width_of i32) negative m ≡ true → has_number (width_of i64) negative m ≡ true
wide_of_narrow true m h = let b : m ≤ 2147483648 = leb-true m 2147483648 h in le-leb m 9223372036854775808 (omega arith)
wide_of_narrow false m h = let b : m ≤ 2147483647 = leb-true m 2147483647 h in le-leb m 9223372036854775807 (omega arith)

narrow_exact : (negative : Bool) (m : ℕ) → has_number (width_of i32) negative m ≡ true → narrowed (exact negative m) ≡ exact negative m
unfolding narrowed
narrow_exact true zero h = refl
narrow_exact true (suc n) h =
    let b : suc n ≤ 2147483648 = leb-true (suc n) 2147483648 h in
    rw (le-leb n 2147483647 (omega arith))
narrow_exact false m h =
    let b : m ≤ 2147483647 = leb-true m 2147483647 h in
    rw (le-leb m 2147483647 b)

natural_exact : (negative : Bool) (m : ℕ) → has_number (width_of u64) negative m ≡ true → exact negative m ≡ pos m
natural_exact true m h = let b : m ≡ 0 = omega (arith, leb-true m 0 h) in rw b
natural_exact false m h = refl

byte_exact : (negative : Bool) (m : ℕ) → has_number (width_of u8) negative m ≡ true → exact negative m ≡ pos (m % 256)
byte_exact true m h = let b : m ≡ 0 = omega (arith, leb-true m 0 h) in rw b
byte_exact false m h =
    let b : m ≤ 255 = leb-true m 255 h in
    let c : m ≡ m % 256 = omega arith in
    ap pos c

-- the four lowest bytes
low_bytes : (negative : Bool) (m : ℕ) → has_number (width_of i32) negative m ≡ true → four_bytes (low_bits negative m) ≡ number_bytes (exact negative m)
unfolding low_bits
low_bytes true zero h = refl
low_bytes true (suc n) h =
    let b : suc n ≤ 2147483648 = leb-true (suc n) 2147483648 h in
    let c : (2 ^ 32 - suc n % 2 ^ 32) % 2 ^ 32 ≡ 4294967295 - n = omega arith in
    ap four_bytes c
low_bytes false m h =
    let b : m ≤ 2147483647 = leb-true m 2147483647 h in
    let c : m % 2 ^ 32 ≡ m = omega arith in
    ap four_bytes c

-- ---- as it is stored

module _ {numbers : List ℕ} {i : ℕ} {x : Json} where
  pub wide_stored : NumberStored numbers i i64 x → number_in x ≡ some (number_at numbers i)
  unfolding number_at
  wide_stored s = s.said ∙ ap some (sym (signed_exact (negative_at numbers i) (magnitude_at numbers i) s.fits))

  pub narrow_stored : NumberStored numbers i i32 x → number_in x ≡ some (narrow_at numbers i)
  unfolding number_at
  narrow_stored s =
      s.said
      ∙ ap some
      (sym (ap narrowed (signed_exact (negative_at numbers i) (magnitude_at numbers i) (wide_of_narrow (negative_at numbers i) (magnitude_at numbers i) s.fits)) ∙ narrow_exact (negative_at numbers i) (magnitude_at numbers i) s.fits))

  pub natural_stored : NumberStored numbers i u64 x → number_in x ≡ some (pos (magnitude_at numbers i))
  natural_stored s = s.said ∙ ap some (natural_exact (negative_at numbers i) (magnitude_at numbers i) s.fits)

  pub byte_stored : NumberStored numbers i u8 x → number_in x ≡ some (pos (byte_at numbers i))
  byte_stored s = s.said ∙ ap some (byte_exact (negative_at numbers i) (magnitude_at numbers i) s.fits)

  pub low_stored : NumberStored numbers i i32 x → four_bytes (low_at numbers i) ≡ number_bytes (exact (negative_at numbers i) (magnitude_at numbers i))
  low_stored s = low_bytes (negative_at numbers i) (magnitude_at numbers i) s.fits
