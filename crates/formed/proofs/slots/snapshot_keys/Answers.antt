use Rattle.std.proofs.Common.{arith}
use Rattle.records.specs.Blanks.{no_snapshot}
use Rattle.rules.specs.WellFormed.{snapshot_formed}
use Rattle.rules.specs.Blanks.{is_tidy_snapshot, is_blank_snapshot, is_tidy_snapshots}
use Rattle.rules.specs.Capacities.{snapshot_room}
use Rattle.rules.specs.Layout.{read_snapshot}
use Rattle.formed.proofs.Gathered.{found_read}
use Rattle.formed.proofs.slots.snapshot_keys.Goals as goal

pub returns : goal.returns
unfolding is_tidy_snapshots
returns c =
    let t = c.args.t in
    found_read read_snapshot is_tidy_snapshot snapshot_formed is_blank_snapshot (λ x. x.id) no_snapshot snapshot_room t.count t.items (omega arith) c.keys.ensures
