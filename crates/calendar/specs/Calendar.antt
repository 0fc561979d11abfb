-- The Gregorian calendar carried back to the year 1, in UTC without leap seconds: which dates there are, and which time each has.
use Rattle.std.specs.Prelude.{ℕ, zero, suc, ◌+◌, ◌-◌, ◌*◌, ◌/◌, ◌%◌, Bool, cond, ◌&&◌, ◌||◌, not, [], ◌∷◌, leb, ltb, eqb, get_or, ℤ, pos, ◌-ℤ◌}
use Rattle.calendar.specs.declared.date.Date.{Date}

-- every fourth year has a leap day, but of the full hundreds only every fourth
unfoldable pub is_leap : ℕ → Bool
is_leap year = eqb (year % 4) 0 && (not (eqb (year % 100) 0) || eqb (year % 400) 0)

-- the days from 0001-01-01 to the first of January: 365 a year, and one more for each leap year
unfoldable pub days_before_year : ℕ → ℕ
days_before_year year = 365 * (year - 1) + (year - 1) / 4 - (year - 1) / 100 + (year - 1) / 400

-- the days of January to December, by the number of the month
unfoldable pub month_length : Bool → ℕ → ℕ
month_length leap month = get_or (0 ∷ 31 ∷ cond leap 29 28 ∷ 31 ∷ 30 ∷ 31 ∷ 30 ∷ 31 ∷ 31 ∷ 30 ∷ 31 ∷ 30 ∷ 31 ∷ []) month 0

-- the days from the first of January to the first of the month
unfoldable pub days_before_month : Bool → ℕ → ℕ
days_before_month leap zero = 0
days_before_month leap (suc month) = days_before_month leap month + month_length leap month

abbrev pub is_from : ℕ → ℕ → ℕ → Bool
is_from least most n = leb least n && leb n most

-- the years 1 to 9999, the twelve months and their days
unfoldable pub is_day : ℕ → ℕ → ℕ → Bool
is_day year month day = is_from 1 9999 year && (is_from 1 12 month && is_from 1 (month_length (is_leap year) month) day)

unfoldable pub is_clock : ℕ → ℕ → ℕ → ℕ → Bool
is_clock hour minute second millisecond = ltb hour 24 && (ltb minute 60 && (ltb second 60 && ltb millisecond 1000))

unfoldable pub is_date : Date → Bool
is_date d = is_day d.year d.month d.day && is_clock d.hour d.minute d.second d.millisecond

-- the days from 0001-01-01 to a day
unfoldable pub days_before : ℕ → ℕ → ℕ → ℕ
days_before year month day = days_before_year year + days_before_month (is_leap year) month + (day - 1)

-- the milliseconds since midnight
unfoldable pub clock : ℕ → ℕ → ℕ → ℕ → ℕ
clock hour minute second millisecond = ((hour * 60 + minute) * 60 + second) * 1000 + millisecond

-- the milliseconds since 0001-01-01
unfoldable pub milliseconds : Date → ℕ
milliseconds d = days_before d.year d.month d.day * 86400000 + clock d.hour d.minute d.second d.millisecond

-- midnight of a day
abbrev pub midnight : ℕ → ℕ → ℕ → Date
midnight year month day = record { year = year; month = month; day = day; hour = 0; minute = 0; second = 0; millisecond = 0 }

-- the last millisecond of a day
abbrev pub day_end : ℕ → ℕ → ℕ → Date
day_end year month day = record { year = year; month = month; day = day; hour = 23; minute = 59; second = 59; millisecond = 999 }

-- the milliseconds since 1970-01-01, below 0 for a date before it
unfoldable pub time_of : Date → ℤ
time_of d = pos (milliseconds d) -ℤ pos (milliseconds (midnight 1970 1 1))
