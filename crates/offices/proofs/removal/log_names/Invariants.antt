use Rattle.std.proofs.Common.{◌≡◌, ◌&&◌, drop}
use Rattle.rules.specs.Words.{any, is_in}
use Rattle.rules.specs.Layout.{read_snapshot_ids}
use Rattle.offices.proofs.removal.log_names.Given as goal

abbrev pub invariant-loop-entry : goal.invariant-loop-entry
invariant-loop-entry l =
    any (λ x. is_in (read_snapshot_ids l.removed) x.snapshot_id.0 && is_in l.ids x.snapshot_id.0) l.entry-items
    ≡ any (λ x. is_in (read_snapshot_ids l.removed) x.snapshot_id.0 && is_in l.ids x.snapshot_id.0) (drop l.entry-index l.entry-items)
