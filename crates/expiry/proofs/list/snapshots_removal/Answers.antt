use Rattle.records.specs.Blanks.{no_update}
use Rattle.rules.specs.Kinds.{laid_update}
use Rattle.expiry.proofs.list.snapshots_removal.Goals as goal

pub returns : goal.returns
unfolding laid_update no_update
returns c = λ l e. rw (← e, c.blank-update.ensures)
