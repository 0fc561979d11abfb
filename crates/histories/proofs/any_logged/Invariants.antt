-- One does exactly if one of those that are left does.
use Rattle.std.proofs.Common.{◌≡◌, drop}
use Rattle.records.specs.declared.counters.SnapshotId.{SnapshotId}
use Rattle.rules.specs.Words.{any}
use Rattle.rules.specs.ChangeLog.{is_addition, removed_ids, logs_addition}
use Rattle.rules.specs.Kinds.{read_update, read_updates}
use Rattle.histories.proofs.any_logged.Given as goal

abbrev pub invariant-loop-id : goal.invariant-loop-id
invariant-loop-id l = any (λ (id : SnapshotId). logs_addition (read_updates l.changes) id.0) l.ids ≡ any (λ (id : SnapshotId). logs_addition (read_updates l.changes) id.0) (drop l.id-index l.ids)
