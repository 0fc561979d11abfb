-- Every record but the snapshot is blank, and the snapshot is tidy.
use Rattle.builder.proofs.Halves.{added}
use Rattle.snapshot_updates.proofs.addition.Goals as goal

pub returns : goal.returns
returns c k e = rw c.blank-entry.ensures (added c.args.u e k)
