-- The sum so far is that of the rule; no month has more than 31 days, so nothing wraps.
use Rattle.std.proofs.Common.{◌≡◌, ◌*◌, ◌≤◌}
use Rattle.calendar.specs.Calendar.{days_before_month}
use Rattle.calendar.proofs.day.days_before_month.Given as goal

abbrev pub invariant-loop-m : goal.invariant-loop-m
invariant-loop-m l = (l.days ≤ 31 * l.m) × (l.days ≡ days_before_month l.is_leap l.m)
