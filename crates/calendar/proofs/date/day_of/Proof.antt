-- The day's first and last millisecond are dates exactly if it is a day.
use borrow.Author.Rules.{rules}
use Rattle.calendar.proofs.Dates.{day_is}
use Rattle.calendar.proofs.date.day_of.Statement.{statement}
use Rattle.calendar.proofs.date.day_of.Tie as tie

pub day_of_spec : {M : Type 1} → statement M
day_of_spec = tie.close (tie.spec (λ c κs. search rules) (λ c κs. search rules) (λ c. day_is _ _ _ c.time_of-first.ensures c.time_of-last.ensures))
