-- A date passes the tests of its day and its time of day, so that its milliseconds are those of the rule.
use Prim.Native.Nat.{◌+◌, ◌*◌}
use mathlib.Core.Path.{◌≡◌, sym, ◌∙◌}
use mathlib.Core.Bool.{true}
use native.Mathlib.Omega.{arith}
use borrow.Author.Rules.{rules}
use borrow.Author.Tests.{not-true, not-false}
use Rattle.calendar.specs.Calendar.{is_date, milliseconds}
use Rattle.calendar.specs.Answers.{timed}
use Rattle.calendar.proofs.Dates.{date_parts, time_is, timed_is}
use Rattle.calendar.proofs.date.time_of.Statement.{statement}
use Rattle.calendar.proofs.date.time_of.Tie as tie

module _ (c : tie.Else-not-is_date) where
  is_date_lem : is_date c.args.date ≡ true
  is_date_lem = sym c.is_date.ensures ∙ not-false _ c.if-not-is_date.false-raw

returns : tie.Need-returns-then-not-is_date
unfolding timed
returns c = rw (sym c.is_date.ensures ∙ not-true _ c.if-not-is_date.true-raw)

returns_2 : tie.Need-returns
unfolding milliseconds
returns_2 c =
    let k = c.before.before.before in
    let d = k.args.date in
    timed_is d c.since_epoch-time.result (is_date_lem k)
    (time_is d (c.days_before-days.result * 86400000 + c.since_midnight-clock.result) _ (rw (sym c.days_before-days.ensures.0, sym c.since_midnight-clock.ensures.0)) (sym c.since_epoch-time.ensures))

pub time_of_spec : {M : Type 1} → statement M
time_of_spec =
    tie.close
    (tie.spec
    (λ c κs. search rules)
    returns
    (λ c κs. (date_parts _ (is_date_lem c)).0)
    (λ c κs. (date_parts _ (is_date_lem c.before)).1)
    (λ c. search rules)
    (λ c. omega (arith, c.days_before-days.ensures, c.since_midnight-clock.ensures))
    (λ c κs. omega (arith, c.days_before-days.ensures, c.since_midnight-clock.ensures))
    returns_2)
