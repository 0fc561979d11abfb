-- The two logs: blank ones, and those that were laid within their capacity.
use Prim.Native.Nat.{ℕ, ◌≤◌}
use native.Mathlib.Omega.{arith}
use mathlib.Core.Path.{◌≡◌, refl, sym, ap, ◌∙◌}
use mathlib.Core.Bool.{Bool}
use mathlib.Core.List.{List, []}
use lib.ListN.{length, drop, length-drop}
use Rattle.records.specs.Blanks.{no_snapshot_log, no_metadata_log}
use Rattle.records.specs.declared.snapshot.SnapshotLog.{SnapshotLog}
use Rattle.rules.specs.Words.{keep}
use Rattle.rules.specs.Register.{LogEntry}
use Rattle.rules.specs.Layout.{read_snapshot_log, laid_snapshot_log, laid_metadata_log}
use Rattle.rules.proofs.Tables.{keep_length}
use Rattle.rules.proofs.Slots.Reread.{reread_snapshot_log}
use Rattle.tables.specs.Laid.{LaidSnapshotLog}

pub no_entries : no_snapshot_log ≡ laid_snapshot_log []
unfolding no_snapshot_log laid_snapshot_log
no_entries = refl

pub no_files : no_metadata_log ≡ laid_metadata_log []
unfolding no_metadata_log laid_metadata_log
no_files = refl

pub entries_laid : (t : SnapshotLog) (l : List LogEntry) → t ≡ laid_snapshot_log l → length l ≤ 128 → LaidSnapshotLog t
entries_laid t l e h =
    let r : read_snapshot_log t ≡ l = ap read_snapshot_log e ∙ reread_snapshot_log l in
    record { back = ap laid_snapshot_log r ∙ sym e; fits = rw r h }

pub kept_fits : (t : SnapshotLog) → LaidSnapshotLog t → (p : LogEntry → Bool) (from : ℕ) → length (keep p (drop from (read_snapshot_log t))) ≤ 128
kept_fits t h p from = omega (arith, h.fits, simp length-drop at (keep_length p (drop from (read_snapshot_log t))))
