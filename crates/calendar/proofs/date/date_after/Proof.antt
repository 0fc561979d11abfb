-- The year and the month are those that the day lies in, and what is left is the day of the month and the time of day.
use native.Mathlib.Omega.{arith}
use borrow.Author.Rules.{rules}
use Rattle.calendar.proofs.Days.{year_length}
use Rattle.calendar.proofs.Dates.{found_is_date, found_back}
use Rattle.calendar.proofs.date.date_after.Statement.{statement}
use Rattle.calendar.proofs.date.date_after.Tie as tie

month_at_requires : tie.Need-month_at-month-requires
month_at_requires c κs =
    let y = c.year_at-year.result in
    rw c.is_leap-is_leap.ensures (omega (arith, year_length y (omega arith)))

returns : tie.Need-returns
returns c =
    let k = c.before.before.before in (
      found_is_date _ _ _ _ _ _ k.requires k.year_at-year.ensures k.is_leap-is_leap.ensures c.days_before_year.ensures c.month_at-month.ensures c.days_before_month.ensures,
      found_back _ _ _ _ _ _ k.requires k.year_at-year.ensures k.is_leap-is_leap.ensures c.days_before_year.ensures c.month_at-month.ensures c.days_before_month.ensures,
    )

pub date_after_spec : {M : Type 1} → statement M
date_after_spec =
    tie.close
    (tie.spec
    (λ c κs. search rules)
    (λ c κs. search rules)
    (λ c κs. search rules)
    (λ c. search rules)
    month_at_requires
    (λ c κs. search rules)
    (λ c. search rules)
    (λ c. search rules)
    returns)
