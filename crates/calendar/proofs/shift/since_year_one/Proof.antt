-- A time between the first and the last fits when it is counted from the first.
use mathlib.Core.Path.{sym}
use mathlib.Core.Bool.{true≢false}
use borrow.Author.Rules.{sfits_of}
use mir.Syntax.{w64}
use mir.Val.{SFits}
use mir.Facts.{to_z-of_z}
use Rattle.calendar.specs.Answers.{is_within}
use Rattle.calendar.proofs.Dates.{first_time, last_time_lem}
use Rattle.calendar.proofs.Shifts.{sum_fits, above, small, back}
use Rattle.calendar.proofs.shift.since_year_one.Statement.{statement}
use Rattle.calendar.proofs.shift.since_year_one.Tie as tie

module _ (c : tie.After-struct_told-1) where
  t_fits : SFits w64 c.args.time.0
  t_fits = sfits_of c.struct_told-1.given.0.1

returns : tie.Need-returns-then-time-lt-FIRST
unfolding is_within
returns c =
    record { flag = rw (first_time, last_time_lem, rw (to_z-of_z (t_fits c.before)) at c.if-time-lt-FIRST.true); least = λ e. absurd (true≢false (sym e)); same = λ e. absurd (true≢false (sym e)) }

returns_2 : tie.Need-returns-then-time-gt-LAST
unfolding is_within
returns_2 c =
    let f = t_fits c.before.before in
    record {
      flag = rw (first_time, last_time_lem, rw (to_z-of_z f) at c.if-time-lt-FIRST.false, rw (to_z-of_z f) at c.if-time-gt-LAST.true);
      least = λ e. absurd (true≢false (sym e));
      same = λ e. absurd (true≢false (sym e));
    }

returns_3 : tie.Need-returns
unfolding is_within
returns_3 c =
    let f = t_fits c.before.before in
    let e = c.if-time-lt-FIRST.false in
    let l = c.if-time-gt-LAST.false in
    record {
      flag = rw (first_time, last_time_lem, rw (to_z-of_z f) at e, rw (to_z-of_z f) at l);
      least = λ t. small _ f e l;
      same = λ t. back _ f e l;
    }

pub since_year_one_spec : {M : Type 1} → statement M
since_year_one_spec =
    tie.close
    (tie.spec
    returns
    returns_2
    (λ c. sum_fits _ (t_fits c.before.before) c.if-time-lt-FIRST.false c.if-time-gt-LAST.false)
    (λ c. above _ (t_fits c.before.before) c.if-time-lt-FIRST.false c.if-time-gt-LAST.false)
    returns_3)
