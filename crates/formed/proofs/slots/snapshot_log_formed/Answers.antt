use Rattle.std.proofs.Common.{◌∙◌, true, arith, ap, ◌&&◌, leb}
use Rattle.std.specs.Int.Signed.{non_neg}
use Rattle.records.specs.Blanks.{no_log_entry}
use Rattle.records.specs.declared.snapshot.SnapshotLogEntry.{SnapshotLogEntry}
use Rattle.rules.specs.Register as plain
use Rattle.rules.specs.WellFormed.{snapshot_log_formed}
use Rattle.rules.specs.Blanks.{is_blank_log_entry, is_tidy_snapshot_log}
use Rattle.rules.specs.Layout.{read_log_entry}
use Rattle.formed.proofs.Filled.{filled_read, all_tidy}
use Rattle.formed.proofs.slots.snapshot_log_formed.Goals as goal

pub returns : goal.returns
unfolding is_tidy_snapshot_log snapshot_log_formed
returns c =
    let t = c.args.t in
    ap (λ b. leb t.count 128 && b) c.slots_fit.ensures
    ∙ filled_read read_log_entry (λ (e : SnapshotLogEntry). true) (λ (e : plain.LogEntry). non_neg e.snapshot) is_blank_log_entry no_log_entry 128 t.count t.items (omega arith)
    ∙ rw (all_tidy 128 is_blank_log_entry t.items t.count)
