-- The date that is found for the time counted from 0001-01-01 has that time.
use mathlib.Core.Path.{sym, ◌∙◌}
use mathlib.Core.Bool.{true≢false}
use borrow.Author.Rules.{rules}
use borrow.Author.Tests.{not-true, not-false}
use Rattle.calendar.proofs.Dates.{time_is}
use Rattle.calendar.proofs.date.date_of.Statement.{statement}
use Rattle.calendar.proofs.date.date_of.Tie as tie

returns : tie.Need-returns-then-not-since
returns c =
    record {
      flag = sym (not-true _ c.if-not-since.true) ∙ c.since_year_one-since.ensures.flag;
      is_date = λ e. absurd (true≢false (sym e));
      same = λ e. absurd (true≢false (sym e));
      none = λ e. c.blank-date.ensures;
    }

returns_2 : tie.Need-returns
returns_2 c =
    let within = not-false _ c.if-not-since.false in
    record {
      flag = sym within ∙ c.since_year_one-since.ensures.flag;
      is_date = λ e. c.date_after-date.ensures.0;
      same = λ e. time_is _ _ _ c.date_after-date.ensures.1 (c.since_year_one-since.ensures.same within);
      none = λ e. absurd (true≢false e);
    }

pub date_of_spec : {M : Type 1} → statement M
date_of_spec =
    tie.close
    (tie.spec
    (λ c κs. search rules)
    (λ c κs. search rules)
    returns
    (λ c κs. c.since_year_one-since.ensures.least (not-false _ c.if-not-since.false))
    returns_2)
