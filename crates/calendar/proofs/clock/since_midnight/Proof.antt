-- The day has 86400000 milliseconds, so nothing wraps.
use native.Mathlib.Omega.{arith}
use borrow.Author.Rules.{rules}
use Rattle.calendar.specs.Calendar.{clock}
use Rattle.calendar.proofs.Dates.{Clock, clock_parts}
use Rattle.calendar.proofs.clock.since_midnight.Statement.{statement}
use Rattle.calendar.proofs.clock.since_midnight.Tie as tie

module _ (c : tie.Start) where
  parts : Clock c.args.hour c.args.minute c.args.second c.args.millisecond
  parts = clock_parts _ _ _ _ c.requires

returns : tie.Need-returns
unfolding clock
returns c = (search rules, omega (arith, parts c))

pub since_midnight_spec : {M : Type 1} → statement M
since_midnight_spec =
    tie.close
    (tie.spec
    (λ c. omega (arith, parts c))
    (λ c. omega (arith, parts c))
    (λ c. omega (arith, parts c))
    (λ c. omega (arith, parts c))
    (λ c. omega (arith, parts c))
    (λ c. omega (arith, parts c))
    returns)
