-- The table is the one of its kind's arm.
use Rattle.statistics_updates.specs.Family.{files_after}
use Rattle.statistics_updates.proofs.family.after.Goals as goal

pub returns-then-u : goal.returns-then-u
unfolding files_after
returns-then-u c = rw c.if-u.true c.statistics_after.ensures

pub returns : goal.returns
unfolding files_after
returns c = rw c.if-u.false c.without.ensures
