-- The three facts by which the close knows a change log, and its rules over them.
use Rattle.std.specs.Prelude.{◌≡◌, Bool, not, ◌&&◌, List, map, ℤ}
use Rattle.std.proofs.Math.Option.{Option}
use Rattle.records.specs.declared.metadata.SingleFields.{SingleFields}
use Rattle.records.specs.declared.snapshot.SnapshotLog.{SnapshotLog}
use Rattle.rules.specs.Words.{eq_z, some_with, keep, collect, is_in}
use Rattle.rules.specs.Register.{Snapshot, LogEntry, Metadata, Update}
use Rattle.rules.specs.ChangeLog.{addition, logs_main, logs_removal}
use Rattle.rules.specs.Layout.{read_fields, read_snapshot_log}

-- ---- the facts

-- the snapshots that the log adds, in its order
unfoldable pub additions : List Update → List ℤ
additions log = collect addition log

-- ---- the rules over them

-- added in this run, and not the current one
abbrev pub is_superseded : List ℤ → Option ℤ → ℤ → Bool
is_superseded added current id = is_in added id && not (some_with (eq_z id) current)

unfoldable pub intermediates_of : List ℤ → List ℤ → Option ℤ → List ℤ
intermediates_of added mains current = keep (is_superseded added current) mains

-- the entry's snapshot is not among those held
abbrev pub is_gone : List ℤ → LogEntry → Bool
is_gone ids e = not (is_in ids e.snapshot)

-- it is held, and not intermediate
abbrev pub is_staying : List ℤ → List ℤ → List ℤ → Option ℤ → LogEntry → Bool
is_staying ids added mains current e = not (is_gone ids e) && not (is_in (intermediates_of added mains current) e.snapshot)

-- ---- what the close is told

-- the snapshot log, the held ids and the current snapshot of metadata, and the three facts of a change log
pub record Told (l : List Update) (p : Metadata) (log : SnapshotLog) (ids : List ℤ) (f : SingleFields) (added mains : List ℤ) (removal : Bool) : Type 0 where
  pub history : read_snapshot_log log ≡ p.snapshot_log
  pub held : ids ≡ map (λ (s : Snapshot). s.id) p.snapshots
  pub current : (read_fields f).current ≡ p.fields.current
  pub adds : added ≡ additions l
  pub sets : mains ≡ logs_main l
  pub removes : removal ≡ logs_removal l
