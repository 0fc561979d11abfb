-- The tests of the table, as the code groups them.
use Prim.Native.Nat.{ℕ}
use mathlib.Core.Path.{sym, ap, ◌∙◌}
use borrow.Author.Rules.{rules}
use lib.Dec.{leb}
use Rattle.records.specs.Blanks.{no_snapshot}
use Rattle.rules.specs.Capacities.{snapshot_room}
use Rattle.rules.specs.WellFormed.{snapshot_formed, snapshot_below, snapshots_formed}
use Rattle.rules.specs.Blanks.{is_tidy_snapshots}
use Rattle.rules.specs.Layout.{read_snapshot, read_snapshots}
use Rattle.formed.proofs.Counted.{read_length}
use Rattle.faults.specs.Faults.{snapshot_faults}
use Rattle.faults.proofs.Picked.{table_asked}
use Rattle.faults.proofs.part.snapshots_fault.Goals as goal

pub returns : goal.returns
unfolding snapshot_faults snapshots_formed
returns c =
    let t = c.args.t in
    c.table_fault.ensures
    ∙ table_asked 6 snapshot_room (is_tidy_snapshots t) snapshot_formed (read_snapshots t) snapshot_below
    (ap (λ (n : ℕ). leb n snapshot_room) (sym (read_length read_snapshot no_snapshot t.items t.count)))
    c.snapshot_keys-k.ensures.slots
    c.snapshot_keys-k.ensures.order
