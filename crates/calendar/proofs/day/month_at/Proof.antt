-- The month stays one that begins by the day; the loop ends at the first whose next month begins later.
use Prim.Native.Nat.{◌+◌, ◌-◌, ◌≤◌}
use native.Mathlib.Omega.{arith}
use borrow.Author.Rules.{rules}
use Rattle.calendar.specs.Calendar.{days_before_month, month_length}
use Rattle.calendar.proofs.Days.{last_month}
use Rattle.calendar.proofs.day.month_at.Statement.{statement}
use Rattle.calendar.proofs.day.month_at.Tie as tie

abbrev invariant_loop : tie.invariant-loop-month
invariant_loop is-leap day month₀ month = (1 ≤ month) × (month ≤ 12) × (days_before_month is-leap month ≤ day)

abbrev decreases_loop : tie.decreases-loop-month
decreases_loop is-leap day month₀ month = 13 - month

loop_holds : tie.Need-loop-month-init invariant_loop decreases_loop
unfolding days_before_month month_length
loop_holds c = omega arith

loop_again : tie.Need-loop-month-preserved invariant_loop decreases_loop
loop_again c =
    (omega arith, last_month c.args.is_leap (c.loop-month.month + 1) c.args.day (omega arith) (omega arith) c.requires, omega arith)

pub month_at_spec : {M : Type 1} → statement M
month_at_spec =
    tie.close
    (tie.spec
    invariant_loop
    decreases_loop
    loop_holds
    (λ c. search rules)
    (λ c κs. search rules)
    (λ c. search rules)
    (λ c. search rules)
    loop_again
    (λ c. search rules))
