-- What a date's tests say of its numbers, and which numbers pass them.
use Prim.Native.Nat.{ℕ, ◌+◌, ◌-◌, ◌/◌, ◌%◌, ◌≤◌, ◌<◌}
use mathlib.Core.Path.{◌≡◌, refl, sym}
use mathlib.Core.Bool.{Bool, true, false, ◌&&◌, true≢false}
use native.Mathlib.Omega.{arith}
use borrow.Author.Tests.{leb-true, le-leb, ltb-true, lt-ltb}
use borrow.Table.Steps.{cases}
use lib.Dec.{leb, ltb}
use lib.IntN.{ℤ, pos, negsuc, ◌-ℤ◌}
use Rattle.records.specs.declared.counters.Time.{Time}
use Rattle.calendar.specs.declared.date.Date.{Date}
use Rattle.calendar.specs.declared.date.Timed.{Timed}
use Rattle.calendar.specs.Calendar.{clock, day_end, days_before, days_before_month, days_before_year, is_clock, is_date, is_day, is_from, is_leap, midnight, milliseconds, month_length, time_of}
use Rattle.calendar.specs.Answers.{MonthAt, YearAt, day_of, timed}
use Rattle.calendar.proofs.Days.{all_years, month_next, months_ascend, year_length, years_ascend}

pub both : (a b : Bool) → (a && b) ≡ true → (a ≡ true) × (b ≡ true)
both true b e = (refl, e)
both false b e = absurd (true≢false (sym e))

pub record From (least most n : ℕ) : Type 0 where
  pub at_least : least ≤ n
  pub at_most : n ≤ most

pub from : (least most n : ℕ) → is_from least most n ≡ true → From least most n
from least most n e =
    let (l, m) = both (leb least n) (leb n most) e in
    record { at_least = leb-true least n l; at_most = leb-true n most m }

pub record Clock (hour minute second millisecond : ℕ) : Type 0 where
  pub hours : hour < 24
  pub minutes : minute < 60
  pub seconds : second < 60
  pub milliseconds : millisecond < 1000

pub clock_parts : (h m s k : ℕ) → is_clock h m s k ≡ true → Clock h m s k
unfolding is_clock
clock_parts h m s k e =
    let (a, e₁) = both (ltb h 24) _ e in
    let (b, e₂) = both (ltb m 60) _ e₁ in
    let (c, d) = both (ltb s 60) (ltb k 1000) e₂ in
    record { hours = ltb-true h 24 a; minutes = ltb-true m 60 b; seconds = ltb-true s 60 c; milliseconds = ltb-true k 1000 d }

pub record Day (year month day : ℕ) : Type 0 where
  pub years : From 1 9999 year
  pub months : From 1 12 month
  pub days : From 1 (month_length (is_leap year) month) day

pub day_parts : (y m d : ℕ) → is_day y m d ≡ true → Day y m d
unfolding is_day
day_parts y m d e =
    let (a, e₁) = both (is_from 1 9999 y) _ e in
    let (b, c) = both (is_from 1 12 m) (is_from 1 (month_length (is_leap y) m) d) e₁ in
    record { years = from 1 9999 y a; months = from 1 12 m b; days = from 1 (month_length (is_leap y) m) d c }

pub in_year : (y m d : ℕ) → is_day y m d ≡ true → days_before y m d < days_before_year (y + 1)
unfolding days_before
in_year y m d e =
    let p = day_parts y m d e in
    omega (arith, month_next (is_leap y) m, months_ascend (is_leap y) (m + 1) 13 (omega arith), year_length y (omega arith))

pub day_within : (y m d : ℕ) → is_day y m d ≡ true → days_before y m d < 3652059
day_within y m d e =
    let p = day_parts y m d e in
    omega (arith, in_year y m d e, years_ascend (y + 1) 10000 (omega arith) (omega arith), all_years)

is_from_lem : (least most n : ℕ) → least ≤ n → n ≤ most → is_from least most n ≡ true
is_from_lem least most n l m = rw (le-leb least n l, le-leb n most m)

is_clock_lem : (h m s k : ℕ) → h < 24 → m < 60 → s < 60 → k < 1000 → is_clock h m s k ≡ true
unfolding is_clock
is_clock_lem h m s k a b c d = rw (lt-ltb h 24 a, lt-ltb m 60 b, lt-ltb s 60 c, lt-ltb k 1000 d)

pub date_parts : (d : Date) → is_date d ≡ true → (is_day d.year d.month d.day ≡ true) × (is_clock d.hour d.minute d.second d.millisecond ≡ true)
unfolding is_date
date_parts d e = both _ _ e

-- ---- the date that is found for a number of milliseconds

module _ (n y m a b : ℕ) (leap : Bool) (small : n < 315537897600000) (year : YearAt (n / 86400000) y) (is-leap : leap ≡ is_leap y) (before-year : a ≡ days_before_year y) (month : MonthAt leap (n / 86400000 - a) m) (before-month : b ≡ days_before_month leap m) where
  abbrev day : ℕ
  day = n / 86400000 - a - b + 1

  abbrev found : Date
  found =
      record {
        year = y;
        month = m;
        day = day;
        hour = n % 86400000 / 60000 / 60;
        minute = n % 86400000 / 60000 % 60;
        second = n % 86400000 % 60000 / 1000;
        millisecond = n % 86400000 % 60000 % 1000;
      }

  in_month : day ≤ month_length (is_leap y) m
  in_month = let l : day ≤ month_length leap m = omega (arith, month_next leap m) in rw is-leap at l

  pub found_is_date : is_date found ≡ true
  unfolding is_date is_day
  found_is_date =
      rw (
        is_from_lem 1 9999 y year.least year.most,
        is_from_lem 1 12 m month.least month.most,
        is_from_lem 1 (month_length (is_leap y) m) day (omega arith) in_month,
      )
      (is_clock_lem _ _ _ _ (omega arith) (omega arith) (omega arith) (omega arith))

  days_back : days_before y m day ≡ n / 86400000
  unfolding days_before
  days_back = rw (sym is-leap) (omega arith)

  clock_back : clock (n % 86400000 / 60000 / 60) (n % 86400000 / 60000 % 60) (n % 86400000 % 60000 / 1000) (n % 86400000 % 60000 % 1000) ≡ n % 86400000
  unfolding clock
  clock_back = omega arith

  pub found_back : milliseconds found ≡ n
  unfolding milliseconds
  found_back = rw (days_back, clock_back) (omega arith)

-- ---- times

pub epoch : milliseconds (midnight 1970 1 1) ≡ 62135596800000
unfolding milliseconds days_before days_before_year days_before_month month_length is_leap clock
epoch = refl

pub first_time : time_of (midnight 1 1 1) ≡ negsuc 62135596799999
unfolding time_of milliseconds days_before days_before_year days_before_month month_length is_leap clock
first_time = refl

pub last_time_lem : time_of (day_end 9999 12 31) ≡ pos 253402300799999
unfolding time_of milliseconds days_before days_before_year days_before_month month_length is_leap clock
last_time_lem = refl

pub time_is : (d : Date) (n : ℕ) (z : ℤ) → milliseconds d ≡ n → pos n -ℤ pos 62135596800000 ≡ z → time_of d ≡ z
unfolding time_of
time_is d n z e t = rw (epoch, e) t

pub timed_is : (d : Date) (t : Time) → is_date d ≡ true → time_of d ≡ t.0 → record { is_timed = true; time = t } ≡ timed d
unfolding timed
timed_is d t e s = rw (e, s)

-- the first and the last millisecond of a day, by their times
pub day_is : (year month day : ℕ) {a b : Timed} → a ≡ timed (midnight year month day) → b ≡ timed (day_end year month day)
    → record { is_day = a.is_timed; first = a.time; last = b.time } ≡ day_of year month day
unfolding day_of timed is_date is_clock
day_is year month day e f = rw (e, f) (cases (is_day year month day) (λ t. rw t) (λ n. rw n))
