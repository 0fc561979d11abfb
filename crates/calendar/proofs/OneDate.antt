-- No two dates have the same time, so that the contract of `date_of` leaves one date for each time.
use Prim.Native.Nat.{ℕ, suc, ◌+◌, ◌-◌, ◌≤◌, ◌<◌}
use mathlib.Core.Path.{◌≡◌, sym, ap}
use mathlib.Core.Bool.{Bool, true}
use native.Mathlib.Omega.{arith}
use borrow.Author.Tests.{ltb-true, ltb-false}
use borrow.Table.Steps.{cases}
use lib.Dec.{ltb}
use lib.IntN.{pos, negsuc, sub_ℕ, pos-ne-negsuc}
use Rattle.calendar.specs.declared.date.Date.{Date}
use Rattle.calendar.specs.Calendar.{clock, days_before, days_before_month, days_before_year, is_date, is_leap, milliseconds, month_length, time_of}
use Rattle.calendar.proofs.Days.{month_next, months_ascend, years_ascend}
use Rattle.calendar.proofs.Dates.{Clock, clock_parts, Day, day_parts, in_year, date_parts, epoch}

-- a number lies between two neighbours of an ascending list only once
module _ (f : ℕ → ℕ) (ascends : (a b : ℕ) → 1 ≤ a → a ≤ b → f a ≤ f b) where
  one_place : (n a b : ℕ) → 1 ≤ a → 1 ≤ b → f a ≤ n → n < f (a + 1) → f b ≤ n → n < f (b + 1) → a ≡ b
  one_place n a b la lb ha ka hb kb =
      cases (ltb a b)
      (λ t. absurd (omega (arith, ascends (a + 1) b (omega arith) (omega (arith, ltb-true a b t)))))
      (λ f₁. cases (ltb b a)
      (λ t. absurd (omega (arith, ascends (b + 1) a (omega arith) (omega (arith, ltb-true b a t)))))
      (λ f₂. omega (arith, ltb-false a b f₁, ltb-false b a f₂)))

same_count : (k m n : ℕ) → sub_ℕ m k ≡ sub_ℕ n k → m ≡ n
same_count k m n e =
    cases (ltb m k)
    (λ t. cases (ltb n k)
    (λ u. let s : k - suc m ≡ k - suc n = negsuc_one (rw (t, u) at e) in omega (arith, ltb-true m k t, ltb-true n k u))
    (λ u. absurd (pos-ne-negsuc _ _ (sym (rw (t, u) at e)))))
    (λ t. cases (ltb n k)
    (λ u. absurd (pos-ne-negsuc _ _ (rw (t, u) at e)))
    (λ u. let s : m - k ≡ n - k = pos_one (rw (t, u) at e) in omega (arith, ltb-false m k t, ltb-false n k u)))
  where
    negsuc_one : {a b : ℕ} → negsuc a ≡ negsuc b → a ≡ b
    negsuc_one e = cc

    pos_one : {a b : ℕ} → pos a ≡ pos b → a ≡ b
    pos_one e = cc

same_milliseconds : (a b : Date) → time_of a ≡ time_of b → milliseconds a ≡ milliseconds b
unfolding time_of
same_milliseconds a b e = same_count 62135596800000 (milliseconds a) (milliseconds b) (rw epoch at e)

joined : (a b : Date)
    → a.year ≡ b.year
    → a.month ≡ b.month
    → a.day ≡ b.day
    → a.hour ≡ b.hour
    → a.minute ≡ b.minute
    → a.second ≡ b.second
    → a.millisecond ≡ b.millisecond
    → a ≡ b
joined a b = whole a.year a.month a.day a.hour a.minute a.second a.millisecond
  where
    whole : (y m d h i s k : ℕ)
        → y ≡ b.year
        → m ≡ b.month
        → d ≡ b.day
        → h ≡ b.hour
        → i ≡ b.minute
        → s ≡ b.second
        → k ≡ b.millisecond
        → record { year = y; month = m; day = d; hour = h; minute = i; second = s; millisecond = k } ≡ b
    whole y m d h i s k e₁ e₂ e₃ e₄ e₅ e₆ e₇ = rw (e₁, e₂, e₃, e₄, e₅, e₆, e₇)

module _ (a b : Date) (ea : is_date a ≡ true) (eb : is_date b ≡ true) (e : time_of a ≡ time_of b) where
  day_a : Day a.year a.month a.day
  day_a = day_parts _ _ _ (date_parts a ea).0

  day_b : Day b.year b.month b.day
  day_b = day_parts _ _ _ (date_parts b eb).0

  clock_a : Clock a.hour a.minute a.second a.millisecond
  clock_a = clock_parts _ _ _ _ (date_parts a ea).1

  clock_b : Clock b.hour b.minute b.second b.millisecond
  clock_b = clock_parts _ _ _ _ (date_parts b eb).1

  same_day : days_before a.year a.month a.day ≡ days_before b.year b.month b.day
  unfolding milliseconds clock
  same_day = omega (arith, same_milliseconds a b e, clock_a, clock_b)

  same_clock : clock a.hour a.minute a.second a.millisecond ≡ clock b.hour b.minute b.second b.millisecond
  unfolding milliseconds
  same_clock = omega (arith, same_milliseconds a b e, same_day)

  same_year : a.year ≡ b.year
  unfolding days_before
  same_year =
      one_place days_before_year years_ascend (days_before b.year b.month b.day) a.year b.year
      day_a.years.at_least
      day_b.years.at_least
      (omega (arith, same_day))
      (omega (arith, same_day, in_year _ _ _ (date_parts a ea).0))
      (omega arith)
      (in_year _ _ _ (date_parts b eb).0)

  abbrev leap : Bool
  leap = is_leap b.year

  same_day_of_year : days_before_month leap a.month + (a.day - 1) ≡ days_before_month leap b.month + (b.day - 1)
  unfolding days_before
  same_day_of_year = omega (arith, rw same_year at same_day)

  in_month : a.day ≤ month_length leap a.month
  in_month = rw same_year at day_a.days.at_most

  same_month : a.month ≡ b.month
  same_month =
      one_place (days_before_month leap) (λ i j l h. months_ascend leap i j h) (days_before_month leap b.month + (b.day - 1)) a.month b.month
      day_a.months.at_least
      day_b.months.at_least
      (omega (arith, same_day_of_year))
      (omega (arith, same_day_of_year, in_month, day_a.days.at_least, month_next leap a.month))
      (omega arith)
      (omega (arith, day_b.days, month_next leap b.month))

  pub one_date : a ≡ b
  unfolding clock
  one_date =
      joined a b same_year same_month
      (omega (arith, same_day_of_year, ap (days_before_month leap) same_month, day_a.days.at_least, day_b.days.at_least))
      (omega (arith, same_clock, clock_a, clock_b))
      (omega (arith, same_clock, clock_a, clock_b))
      (omega (arith, same_clock, clock_a, clock_b))
      (omega (arith, same_clock, clock_a, clock_b))
