-- Digits as bytes, and how many a number has.
use Rattle.std.proofs.Common.{◌≡◌, ℕ, ◌-◌, ◌^◌, ◌<◌, ◌≤◌, true, leb, sym, ◌∙◌, true≢false, arith, leb-false, leb-true}
use native.Mathlib.Nat.{pow-le-pow_right}
use borrow.Table.Steps.{cases}
use Rattle.io.specs.Digits.{IsDigitCount}
use Rattle.tokens.specs.Token.{is_digit}

pub digit_from : (b : ℕ) → is_digit b ≡ true → 48 ≤ b
digit_from b e = cases (leb 48 b) (leb-true 48 b) (λ f. absurd (true≢false (sym e ∙ rw f)))

-- a number of 64 bits has at most 20 digits
pub at_most_20 : (n k : ℕ) → n < 2 ^ 64 → IsDigitCount 10 1 n k → k ≤ 20
at_most_20 n k h f =
    cases (leb k 20) (leb-true k 20)
    (λ e. let more = leb-false k 20 e in
    let tail : 10 ^ 20 ≤ 10 ^ (k - 1) = pow-le-pow_right (omega arith) {i = 20} {j = k - 1} (omega (arith, more)) in
    absurd (omega (arith, tail, f.2 (omega (arith, more)))))
