-- Each record of the part is asked what the rule asks of it.
use Rattle.rules.specs.Kinds.{is_tidy_snapshots_part, add_snapshot_kind, set_branch_snapshot_kind, remove_snapshots_kind, snapshot_kinds, snapshot_ids_kinds}
use Rattle.formed.proofs.Used.{fits, one_kind, two_kinds, blank_snapshot_tidy, blank_snapshot_ids_tidy}
use Rattle.formed.proofs.update.snapshots_fit.Goals as goal

pub returns : goal.returns
unfolding is_tidy_snapshots_part
returns c =
    let a = c.args in
    rw (
      fits snapshot_kinds a.k (two_kinds a.k add_snapshot_kind set_branch_snapshot_kind) (blank_snapshot_tidy a.p.added) c.snapshot_fits.ensures,
      fits snapshot_ids_kinds a.k (one_kind a.k remove_snapshots_kind) (blank_snapshot_ids_tidy a.p.removed) c.snapshot_ids_fit.ensures,
    )
