use Rattle.std.proofs.Common.{◌+◌}
use Rattle.rules.specs.Walk.{snapshot_ids}
use Rattle.rules.specs.Layout.{read_snapshots}
use Rattle.expiry.proofs.Taking.{Taking}
use Rattle.expiry.proofs.list.part.Given as goal

abbrev pub invariant-loop-snapshot : goal.invariant-loop-snapshot
invariant-loop-snapshot l = Taking (snapshot_ids (read_snapshots l.fn.t)) l.fn.from l.ids l.snapshot-index (l.fn.from + l.snapshot-index)
