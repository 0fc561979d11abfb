-- The code adds what the rule adds; a day of the years 1 to 9999 has fewer than 3652059 before it, so nothing wraps.
use mathlib.Core.Path.{◌≡◌}
use native.Mathlib.Omega.{arith}
use borrow.Author.Rules.{rules}
use Rattle.calendar.specs.Calendar.{days_before, days_before_month, is_leap}
use Rattle.calendar.proofs.Dates.{day_parts, day_within}
use Rattle.calendar.proofs.date.days_before.Statement.{statement}
use Rattle.calendar.proofs.date.days_before.Tie as tie

module _ (c : tie.After-days_before_month) where
  is_months : c.days_before_month.result ≡ days_before_month (is_leap c.args.year) c.args.month
  is_months = rw c.is_leap.ensures at c.days_before_month.ensures

add_result : tie.Need-overflow_add-result
unfolding days_before
add_result c = omega (arith, is_months c, day_within c.args.year c.args.month c.args.day c.requires)

add_result_2 : tie.Need-overflow_add-result-2
unfolding days_before
add_result_2 c = omega (arith, is_months c, day_within c.args.year c.args.month c.args.day c.requires)

returns : tie.Need-returns
unfolding days_before
returns c = omega (arith, is_months c, day_within c.args.year c.args.month c.args.day c.requires)

pub days_before_spec : {M : Type 1} → statement M
days_before_spec =
    tie.close
    (tie.spec
    (λ c κs. omega (arith, day_parts c.args.year c.args.month c.args.day c.requires))
    (λ c κs. search rules)
    (λ c κs. omega (arith, day_parts c.args.year c.args.month c.args.day c.requires))
    add_result
    (λ c. omega (arith, day_parts c.args.year c.args.month c.args.day c.requires))
    add_result_2
    returns)
