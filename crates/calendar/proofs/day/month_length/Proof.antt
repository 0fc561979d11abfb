-- The table has the lengths of a year without a leap day, which only February tells from a leap year.
use mathlib.Core.Logic.{⊎_elim}
use borrow.Author.Rules.{rules}
use Rattle.calendar.proofs.Days.{leap_february, plain_year, not_february}
use Rattle.calendar.proofs.day.month_length.Statement.{statement}
use Rattle.calendar.proofs.day.month_length.Tie as tie

returns : tie.Need-returns-then-is_leap
returns c = leap_february _ _ c.if-is_leap.true c.if-month-eq2.true

returns_2 : tie.Need-returns
returns_2 c = ⊎_elim (λ u. plain_year _ _ u.if-is_leap.false) (λ u. not_february _ _ u.if-month-eq2.false) c.if-month-eq2.branch-raw

pub month_length_spec : {M : Type 1} → statement M
month_length_spec = tie.close (tie.spec returns (λ c. search rules) (λ c. search rules) returns_2)
