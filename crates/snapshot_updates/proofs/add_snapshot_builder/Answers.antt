-- The fields that change are the rule's, and no check of the row range fails where none fails at all.
use Rattle.std.proofs.Common.{◌≡◌, subst}
use Rattle.rules.specs.Layout.{laid_fields, read_snapshot}
use Rattle.rules.specs.SnapshotUpdates.{add_snapshot, next_row_after}
use Rattle.rules.specs.Words.{first_of}
use Rattle.rules.specs.Register.{SingleFields}
use Rattle.builder.specs.Pieces.{laid_builder}
use Rattle.snapshot_updates.specs.Snapshots.{row_checks}
use Rattle.builder.proofs.State.{its_fields}
use Rattle.snapshot_updates.proofs.Additions.{rows_passed}
use Rattle.snapshot_updates.proofs.add_snapshot_builder.Goals as goal

pub returns : goal.returns
unfolding laid_builder laid_fields add_snapshot
returns c tolerance st e z =
    let s = read_snapshot c.args.s in
    let n : c.next_row_after-after.result ≡ next_row_after s st.metadata.fields =
    subst (λ (f : SingleFields). first_of (row_checks s f) ≡ 0 → c.next_row_after-after.result ≡ next_row_after s f) (its_fields st e) c.next_row_after-after.ensures (rows_passed tolerance s st z) in
    rw (n, e)
