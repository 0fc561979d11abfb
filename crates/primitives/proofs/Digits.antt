-- The limit that digits write, one digit after another: what is left to read, after the number so far, decides it.
use Prim.Native.Nat.{ℕ, ◌+◌, ◌-◌, ◌*◌, ◌≤◌, ◌<◌, max}
use mathlib.Core.Path.{◌≡◌, refl}
use mathlib.Core.Bool.{true, false, cond, ◌&&◌}
use mathlib.Core.List.{List, [], ◌∷◌}
use native.Mathlib.Numerals.{add-one}
use native.Mathlib.Omega.{arith}
use borrow.Author.Tests.{le-leb, lt-leb}
use borrow.Table.Steps.{cases}
use lib.Dec.{leb}
use lib.ListN.{length, get_or, drop, drop_of_length-le}
use lib.Seq.{drop-cons}
use Rattle.rules.specs.Words.{all}
use Rattle.rules.specs.Capacities.{largest_unsigned}
use Rattle.rules.specs.Limit.{is_digit, decimal, default_limit}
use Rattle.primitives.specs.Limit.{digits_limit}

-- the limit that the number so far and the digits after it write
unfoldable pub limit_from : ℕ → List ℕ → ℕ
limit_from v bs = cond (all is_digit bs && leb (decimal v bs) largest_unsigned) (max 1 (decimal v bs)) default_limit

pub no_digits : (bs : List ℕ) → length bs ≡ 0 → digits_limit bs ≡ default_limit
unfolding digits_limit
no_digits [] h = refl
no_digits (b ∷ bs) h = absurd (omega arith)

pub at_first : (bs : List ℕ) → (length bs ≡ 0 → ⊥) → digits_limit bs ≡ limit_from 0 bs
unfolding digits_limit limit_from
at_first [] h = absurd (h refl)
at_first (b ∷ bs) h = refl

pub at_last : (v : ℕ) (bs : List ℕ) (i : ℕ) → v ≤ largest_unsigned → length bs ≤ i → limit_from v (drop i bs) ≡ max 1 v
unfolding limit_from
at_last v bs i h e = rw (drop_of_length-le bs e, le-leb v largest_unsigned h)

module _ (v : ℕ) (bs : List ℕ) (i : ℕ) (h : i < length bs) where
  pub not_digit : is_digit (get_or bs i 0) ≡ false → limit_from v (drop i bs) ≡ default_limit
  unfolding limit_from
  not_digit e = rw (drop-cons bs i 0 h, e)

  pub one_digit : (d : ℕ) → d ≡ get_or bs i 0 - 48 → is_digit (get_or bs i 0) ≡ true → limit_from v (drop i bs) ≡ limit_from (v * 10 + d) (drop (i + 1) bs)
  unfolding limit_from
  one_digit d w e = rw (drop-cons bs i 0 h, e, w, add-one)

-- a number only grows with its digits
grows : (v : ℕ) (bs : List ℕ) → v ≤ decimal v bs
grows v [] = omega arith
grows v (b ∷ bs) = omega (arith, grows (v * 10 + (b - 48)) bs)

pub too_large_lem : (v : ℕ) (bs : List ℕ) → largest_unsigned < v → limit_from v bs ≡ default_limit
unfolding limit_from
too_large_lem v bs h =
    rw (lt-leb (decimal v bs) largest_unsigned (omega (arith, grows v bs))) (cases (all is_digit bs) (λ t. rw t) (λ f. rw f))
