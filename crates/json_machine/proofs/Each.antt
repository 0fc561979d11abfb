-- What holds of each of some numbers that follow one another, told one by one, holds of any of them.
use Prim.Native.Nat.{ℕ, suc, ◌≤◌, ◌<◌}
use native.Mathlib.Omega.{arith}
use borrow.Author.Tests.{eqb-true, eqb-false}
use borrow.Table.Steps.{cases}
use lib.Dec.{eqb}

-- from a number up to below n
pub data Each (P : ℕ → Type 0) (n : ℕ) : ℕ → Type 0 where
  done : Each P n n
  ◌&◌ : {k : ℕ} → P k → Each P n (suc k) → Each P n k

infixr 20 ◌&◌
pub each_at : {P : ℕ → Type 0} {n k : ℕ} → Each P n k → (m : ℕ) → k ≤ m → m < n → P m
each_at done m h l = absurd (omega arith)
each_at {P} {n} {k} (p & others) m h l = cases (eqb m k) (λ e. rw (eqb-true m k e) p) (λ e. each_at others m (omega (arith, eqb-false m k e)) l)
