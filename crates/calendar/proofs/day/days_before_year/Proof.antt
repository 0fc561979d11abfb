-- The code computes what the rule says; with at most 9999 years before it nothing wraps.
use borrow.Author.Rules.{rules}
use Rattle.calendar.specs.Calendar.{days_before_year}
use Rattle.calendar.proofs.day.days_before_year.Statement.{statement}
use Rattle.calendar.proofs.day.days_before_year.Tie as tie

returns : tie.Need-returns
unfolding days_before_year
returns c = search rules

pub days_before_year_spec : {M : Type 1} → statement M
days_before_year_spec =
    tie.close
    (tie.spec (λ c. search rules) (λ c. search rules) (λ c. search rules) (λ c. search rules) (λ c. search rules) returns)
