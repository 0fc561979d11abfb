-- Years and months follow one another: each ends where the next begins.
use Prim.Native.Nat.{ℕ, zero, suc, ◌+◌, ◌-◌, ◌*◌, ◌/◌, ◌%◌, ◌≤◌, ◌<◌}
use mathlib.Core.Path.{◌≡◌, refl, ◌∙◌}
use mathlib.Core.Bool.{Bool, true, false, cond}
use mathlib.Core.List.{List, [], ◌∷◌}
use native.Mathlib.Nat.{add-zero}
use native.Mathlib.Numerals.{add-one}
use native.Mathlib.Omega.{arith}
use borrow.Author.Tests.{eqb-true, eqb-false, leb-true, leb-false, ne_eqb}
use borrow.Table.Steps.{cases}
use lib.Dec.{eqb, leb}
use lib.ListN.{get_or}
use Rattle.calendar.specs.Calendar.{days_before_month, days_before_year, is_leap, month_length}

-- the days of a year
pub year_days : (leap : Bool) → days_before_month leap 13 ≡ cond leap 366 365
unfolding days_before_month month_length
year_days true = refl
year_days false = refl

-- a quotient grows at the multiples of its divisor
fourth : (y : ℕ) → 1 ≤ y → y / 4 ≡ (y - 1) / 4 + cond (eqb (y % 4) 0) 1 0
fourth y h = cases (eqb (y % 4) 0) (λ t. rw t (omega (arith, eqb-true (y % 4) 0 t))) (λ f. rw f (omega (arith, eqb-false (y % 4) 0 f)))

hundredth : (y : ℕ) → 1 ≤ y → y / 100 ≡ (y - 1) / 100 + cond (eqb (y % 100) 0) 1 0
hundredth y h = cases (eqb (y % 100) 0) (λ t. rw t (omega (arith, eqb-true (y % 100) 0 t))) (λ f. rw f (omega (arith, eqb-false (y % 100) 0 f)))

four_hundredth : (y : ℕ) → 1 ≤ y → y / 400 ≡ (y - 1) / 400 + cond (eqb (y % 400) 0) 1 0
four_hundredth y h = cases (eqb (y % 400) 0) (λ t. rw t (omega (arith, eqb-true (y % 400) 0 t))) (λ f. rw f (omega (arith, eqb-false (y % 400) 0 f)))

-- a multiple of the larger is one of the smaller
hundred_fourth : (y : ℕ) → eqb (y % 4) 0 ≡ false → eqb (y % 100) 0 ≡ false
hundred_fourth y f = ne_eqb (y % 100) 0 (λ e. eqb-false (y % 4) 0 f (omega (arith, e)))

four_hundred_hundredth : (y : ℕ) → eqb (y % 100) 0 ≡ false → eqb (y % 400) 0 ≡ false
four_hundred_hundredth y f = ne_eqb (y % 400) 0 (λ e. eqb-false (y % 100) 0 f (omega (arith, e)))

-- the leap days in a year are what the three quotients grow by
grown : (y : ℕ) → 1 ≤ y → y / 4 + (y - 1) / 100 + y / 400 ≡ (y - 1) / 4 + y / 100 + (y - 1) / 400 + cond (is_leap y) 1 0
unfolding is_leap
grown y h =
    rw (fourth y h, hundredth y h, four_hundredth y h)
    (cases (eqb (y % 4) 0)
    (λ t. cases (eqb (y % 100) 0)
    (λ u. cases (eqb (y % 400) 0) (λ v. rw (t, u, v) (omega arith)) (λ v. rw (t, u, v) (omega arith)))
    (λ u. rw (t, u, four_hundred_hundredth y u) (omega arith)))
    (λ t. rw (t, hundred_fourth y t, four_hundred_hundredth y (hundred_fourth y t)) (omega arith)))

fewer : (n : ℕ) → n / 100 ≤ n / 4
fewer n = omega arith

sum : (y a b c a' b' c' d : ℕ) → b ≤ a → b' ≤ a' → a' + b + c' ≡ a + b' + c + d → 1 ≤ y → 365 * y + a' - b' + c' ≡ 365 * (y - 1) + a - b + c + (365 + d)
sum y a b c a' b' c' d h h' e l = omega arith

pub year_length : (y : ℕ) → 1 ≤ y → days_before_year (y + 1) ≡ days_before_year y + days_before_month (is_leap y) 13
unfolding days_before_year
year_length y h =
    let less : y + 1 - 1 ≡ y = omega arith in
    rw (year_days, less)
    (sum y ((y - 1) / 4) ((y - 1) / 100) ((y - 1) / 400) (y / 4) (y / 100) (y / 400) (cond (is_leap y) 1 0) (fewer (y - 1)) (fewer y) (grown y h) h
    ∙ days (is_leap y))
  where
    days : (b : Bool) → 365 * (y - 1) + (y - 1) / 4 - (y - 1) / 100 + (y - 1) / 400 + (365 + cond b 1 0) ≡ 365 * (y - 1) + (y - 1) / 4 - (y - 1) / 100 + (y - 1) / 400 + cond b 366 365
    days true = refl
    days false = refl

years_on : (a k : ℕ) → 1 ≤ a → days_before_year a ≤ days_before_year (a + k)
years_on a zero h = rw (add-zero a) (omega arith)
years_on a (suc k) h =
    let e : a + suc k ≡ a + k + 1 = omega arith in
    rw e (omega (arith, year_length (a + k) (omega arith), years_on a k h))

pub years_ascend : (a b : ℕ) → 1 ≤ a → a ≤ b → days_before_year a ≤ days_before_year b
years_ascend a b h l = let e : b ≡ a + (b - a) = omega arith in rw e (years_on a (b - a) h)

pub all_years : days_before_year 10000 ≡ 3652059
unfolding days_before_year
all_years = refl

-- no day of the years 1 to 9999 lies in a later one
pub last_year : (y : ℕ) → y ≤ 10000 → days_before_year y < 3652059 → y ≤ 9999
unfolding days_before_year
last_year y h l =
    cases (leb y 9999) (leb-true y 9999)
    (λ f. let e : y ≡ 10000 = omega (arith, leb-false y 9999 f) in absurd (omega (arith, rw e at l)))

-- a year has at most 366 days
pub early : (n : ℕ) → days_before_year (n + 1) ≤ 366 * n
unfolding days_before_year
early n = let e : n + 1 - 1 ≡ n = omega arith in rw e (omega arith)

-- ---- months

-- the days of the months in a year without a leap day
abbrev plain : List ℕ
plain = 0 ∷ 31 ∷ 28 ∷ 31 ∷ 30 ∷ 31 ∷ 30 ∷ 31 ∷ 31 ∷ 30 ∷ 31 ∷ 30 ∷ 31 ∷ []

abbrev Short : List ℕ → Type 0
Short [] = Unit {0}
Short (n ∷ ns) = (n ≤ 31) × Short ns

short_at : (ns : List ℕ) (i : ℕ) → Short ns → get_or ns i 0 ≤ 31
short_at [] i s = omega arith
short_at (n ∷ ns) zero s = s.0
short_at (n ∷ ns) (suc i) s = short_at ns i s.1

pub month_most : (leap : Bool) (m : ℕ) → month_length leap m ≤ 31
unfolding month_length
month_most true m = short_at (0 ∷ 31 ∷ 29 ∷ 31 ∷ 30 ∷ 31 ∷ 30 ∷ 31 ∷ 31 ∷ 30 ∷ 31 ∷ 30 ∷ 31 ∷ []) m (omega arith)
month_most false m = short_at plain m (omega arith)

pub month_next : (leap : Bool) (m : ℕ) → days_before_month leap (m + 1) ≡ days_before_month leap m + month_length leap m
unfolding days_before_month
month_next leap m = rw (add-one m)

months_on : (leap : Bool) (a k : ℕ) → days_before_month leap a ≤ days_before_month leap (a + k)
months_on leap a zero = rw (add-zero a) (omega arith)
months_on leap a (suc k) =
    let e : a + suc k ≡ a + k + 1 = omega arith in
    rw e (omega (arith, month_next leap (a + k), months_on leap a k))

pub months_ascend : (leap : Bool) (a b : ℕ) → a ≤ b → days_before_month leap a ≤ days_before_month leap b
months_ascend leap a b l = let e : b ≡ a + (b - a) = omega arith in rw e (months_on leap a (b - a))

pub last_month : (leap : Bool) (m day : ℕ) → m ≤ 13 → days_before_month leap m ≤ day → day < days_before_month leap 13 → m ≤ 12
last_month leap m day h b l =
    cases (leb m 12) (leb-true m 12)
    (λ f. let e : m ≡ 13 = omega (arith, leb-false m 12 f) in absurd (omega (arith, rw e at b)))

pub leap_february : (leap : Bool) (m : ℕ) → leap ≡ true → m ≡ 2 → 29 ≡ month_length leap m
unfolding month_length
leap_february leap m t e = rw (t, e)

pub plain_year : (leap : Bool) (m : ℕ) → leap ≡ false → get_or plain m 0 ≡ month_length leap m
unfolding month_length
plain_year leap m f = rw f

pub not_february : (leap : Bool) (m : ℕ) → (m ≡ 2 → ⊥) → get_or plain m 0 ≡ month_length leap m
unfolding month_length
not_february false m n = refl
not_february true zero n = refl
not_february true (suc zero) n = refl
not_february true (suc (suc zero)) n = absurd (n refl)
not_february true (suc (suc (suc m))) n = refl
