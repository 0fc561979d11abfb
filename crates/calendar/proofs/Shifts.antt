-- Times within the years 1 to 9999, counted from 0001-01-01: the sum fits and is not below 0, and the difference takes it back.
use Prim.Native.Nat.{ℕ, suc, ◌+◌, ◌-◌, ◌<◌}
use mathlib.Core.Path.{◌≡◌, refl, ap, ◌∙◌}
use mathlib.Core.Bool.{false}
use native.Mathlib.Omega.{arith}
use borrow.Author.Tests.{ltb-true, ltb-false, le-ltb, lt-ltb}
use borrow.Table.Steps.{cases}
use lib.Dec.{T, ltb}
use lib.IntN.{ℤ, pos, negsuc, ◌+ℤ◌, ◌-ℤ◌, nat_abs}
use lib.Signed.{lt_z, non_neg}
use mir.Syntax.{w64}
use mir.Val.{Fits, SFits, to_z, of_z}
use mir.Facts.{to_z-of_z}

abbrev pub span : ℕ
span = 62135596800000

abbrev read : ℤ → ℤ
read z = to_z w64 (of_z w64 z)

abbrev first : ℤ
first = negsuc 62135596799999

abbrev last : ℤ
last = pos 253402300799999

-- m is the time counted from 0001-01-01
record Shifted (z : ℤ) (m : ℕ) : Type 0 where
  sum : z +ℤ pos span ≡ pos m
  small : m < 315537897600000
  back : pos m -ℤ pos span ≡ z

abbrev shift : ℤ → ℕ
shift (pos n) = n + span
shift (negsuc n) = span - suc n

shifted : (z : ℤ) → lt_z z first ≡ false → lt_z last z ≡ false → Shifted z (shift z)
shifted (pos n) e l =
    let h = ltb-false 253402300799999 n l in
    record { sum = refl; small = omega arith; back = rw (le-ltb (n + span) span (omega arith)) (ap pos (omega arith)) }
shifted (negsuc n) e l =
    let h = ltb-false 62135596799999 n e in
    record {
      sum = rw (le-ltb span (suc n) (omega arith));
      small = omega arith;
      back = rw (lt-ltb (span - suc n) span (omega arith)) (ap negsuc (omega arith));
    }

module _ (z : ℤ) (f : SFits w64 z) (e : lt_z (read z) first ≡ false) (l : lt_z last (read z) ≡ false) where
  all : Shifted z (shift z)
  all = shifted z (rw (to_z-of_z f) at e) (rw (to_z-of_z f) at l)

  is_sum : read z +ℤ pos span ≡ pos (shift z)
  is_sum = rw (to_z-of_z f) all.sum

  pub sum_fits : SFits w64 (read z +ℤ pos span)
  sum_fits = rw is_sum (record { sfits = omega (arith, all.small) })

  is_read : read (read z +ℤ pos span) ≡ pos (shift z)
  is_read = to_z-of_z sum_fits ∙ is_sum

  pub above : T (non_neg (read (read z +ℤ pos span))) × Fits w64 (nat_abs (read (read z +ℤ pos span)))
  above = rw is_read (tt, record { fits = omega (arith, all.small) })

  pub small : nat_abs (read (read z +ℤ pos span)) < 315537897600000
  small = rw is_read all.small

  pub back : pos (nat_abs (read (read z +ℤ pos span))) -ℤ pos span ≡ z
  back = rw is_read all.back

pub difference_fits : (n : ℕ) → n < 315537897600000 → SFits w64 (pos n -ℤ pos span)
difference_fits n h =
    cases (ltb n span)
    (λ t. rw t (record { sfits = omega (arith, ltb-true n span t) }))
    (λ f. rw f (record { sfits = omega (arith, ltb-false n span f) }))
