-- What the functions over the calendar answer.
use Rattle.std.specs.Prelude.{ℕ, ◌+◌, ◌≤◌, ◌<◌, ◌≡◌, Bool, true, false, cond, ◌&&◌, not, ℤ, pos, ◌-ℤ◌}
use Rattle.std.specs.Int.Signed.{lt_z}
use Rattle.calendar.specs.declared.date.Dated.{Dated}
use Rattle.calendar.specs.declared.date.Date.{Date}
use Rattle.calendar.specs.declared.date.Day.{Day}
use Rattle.calendar.specs.declared.date.Timed.{Timed}
use Rattle.calendar.specs.declared.shift.Since.{Since}
use Rattle.calendar.specs.Calendar.{day_end, days_before_month, days_before_year, is_date, is_day, midnight, time_of}

-- the year that a day lies in
pub record YearAt (day year : ℕ) : Type 0 where
  pub least : 1 ≤ year
  pub most : year ≤ 9999
  pub begun : days_before_year year ≤ day
  pub before_next : day < days_before_year (year + 1)

-- the month that a day of the year lies in
pub record MonthAt (leap : Bool) (day month : ℕ) : Type 0 where
  pub least : 1 ≤ month
  pub most : month ≤ 12
  pub begun : days_before_month leap month ≤ day
  pub before_next : day < days_before_month leap (month + 1)

-- the years 1 to 9999, from the first millisecond to the last
unfoldable pub is_within : ℤ → Bool
is_within time = not (lt_z time (time_of (midnight 1 1 1))) && not (lt_z (time_of (day_end 9999 12 31)) time)

-- a time counted from 0001-01-01
pub record SinceYearOne (time : ℤ) (r : Since) : Type 0 where
  pub flag : r.is_within ≡ is_within time
  pub least : r.is_within ≡ true → r.milliseconds < 315537897600000
  pub same : r.is_within ≡ true → pos r.milliseconds -ℤ pos 62135596800000 ≡ time

-- a date of the calendar whose time it is, of which there is one (proofs/OneDate); zeros where there is none
pub record DateOf (time : ℤ) (r : Dated) : Type 0 where
  pub flag : r.is_dated ≡ is_within time
  pub is_date : r.is_dated ≡ true → is_date r.date ≡ true
  pub same : r.is_dated ≡ true → time_of r.date ≡ time
  pub none : r.is_dated ≡ false → r.date ≡ midnight 0 0 0

unfoldable pub timed : Date → Timed
timed d = cond (is_date d) (record { is_timed = true; time = record { 0 = time_of d } }) (record { is_timed = false; time = record { 0 = pos 0 } })

-- a day from its first millisecond to its last; zeros where there is none
unfoldable pub day_of : ℕ → ℕ → ℕ → Day
day_of year month day =
    cond (is_day year month day)
    (record { is_day = true; first = record { 0 = time_of (midnight year month day) }; last = record { 0 = time_of (day_end year month day) } })
    (record { is_day = false; first = record { 0 = pos 0 }; last = record { 0 = pos 0 } })
