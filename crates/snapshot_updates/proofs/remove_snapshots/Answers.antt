-- The held ids are read of the state's table, and the entry is the update with them in place of its own.
use Rattle.std.proofs.Common.{◌≡◌, List, refl, ap, ◌∙◌}
use Rattle.records.specs.declared.snapshot.Snapshots.{Snapshots}
use Rattle.records.specs.declared.update.TableUpdate.{TableUpdate}
use Rattle.rules.specs.Register.{Snapshot}
use Rattle.rules.specs.SnapshotUpdates.{held_snapshots}
use Rattle.rules.specs.Layout.{read_snapshots, laid_snapshot_ids, read_snapshot_ids}
use Rattle.rules.specs.Kinds.{laid_update, with_snapshots_part, with_snapshot_ids}
use Rattle.rules.proofs.Slots.Reread.{reread_snapshots}
use Rattle.builder.proofs.Steps.{some_counted}
use Rattle.builder.proofs.Entries.{of_kind_lem}
use Rattle.snapshot_updates.proofs.remove_snapshots.Goals as goal

pub returns : goal.returns
unfolding laid_update laid_snapshot_ids
returns c st p q =
    let u = c.args.u in
    let asked = read_snapshot_ids u.snapshots.removed in
    let l : read_snapshots c.args.t ≡ st.metadata.snapshots = ap (λ (t : Snapshots). read_snapshots t) q ∙ reread_snapshots st.metadata.snapshots in
    let held : c.held-held.result ≡ laid_snapshot_ids (held_snapshots asked st.metadata.snapshots) = c.held-held.ensures ∙ ap (λ (x : List Snapshot). laid_snapshot_ids (held_snapshots asked x)) l in
    rw c.decided.ensures (
    record {
      number = refl;
      logs = rw held (some_counted (held_snapshots asked st.metadata.snapshots) _ refl);
      builder = p;
      entry = ap (λ (y : TableUpdate). with_snapshots_part (with_snapshot_ids c.held-held.result y.snapshots) y) (of_kind_lem u c.requires.u_value 6 c.requires.kind_value) ∙ rw held;
    }
    )
