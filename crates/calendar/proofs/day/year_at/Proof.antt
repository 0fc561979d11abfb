-- The year stays one that begins by the day; the loop ends at the first whose next year begins later.
use Prim.Native.Nat.{◌+◌, ◌-◌, ◌/◌, ◌≤◌}
use native.Mathlib.Omega.{arith}
use borrow.Author.Rules.{rules}
use Rattle.calendar.specs.Calendar.{days_before_year}
use Rattle.calendar.proofs.Days.{early, last_year}
use Rattle.calendar.proofs.day.year_at.Statement.{statement}
use Rattle.calendar.proofs.day.year_at.Tie as tie

abbrev invariant_loop : tie.invariant-loop-year
invariant_loop day year₀ year = (1 ≤ year) × (year ≤ 9999) × (days_before_year year ≤ day)

abbrev decreases_loop : tie.decreases-loop-year
decreases_loop day year₀ year = 10000 - year

loop_holds : tie.Need-loop-year-init invariant_loop decreases_loop
loop_holds c = omega (arith, early (c.args.day / 366))

loop_again : tie.Need-loop-year-preserved invariant_loop decreases_loop
loop_again c =
    let y = c.loop-year.year in
    (omega arith, last_year (y + 1) (omega arith) (omega arith), omega arith)

returns : tie.Need-returns invariant_loop decreases_loop
returns c = search rules

pub year_at_spec : {M : Type 1} → statement M
year_at_spec =
    tie.close
    (tie.spec
    invariant_loop
    decreases_loop
    (λ c. search rules)
    loop_holds
    (λ c. search rules)
    (λ c κs. search rules)
    (λ c. search rules)
    (λ c. search rules)
    loop_again
    returns)
