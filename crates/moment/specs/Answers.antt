-- The answer of the moment, made of the rules' parts.
use Rattle.std.specs.Prelude.{ℕ, true, false, cond, leb}
use Rattle.std.proofs.Math.Option.{Option, none, some}
use Rattle.records.specs.Blanks.{no_log_entry, no_snapshot_log}
use Rattle.records.specs.declared.counters.Time.{Time}
use Rattle.records.specs.declared.snapshot.SnapshotLog.{SnapshotLog}
use Rattle.rules.specs.Capacities.{snapshot_log_room}
use Rattle.rules.specs.During.{current_during}
use Rattle.rules.specs.Layout.{read_snapshot_log, laid_log_entry, laid_snapshot_log}
use Rattle.rules.specs.Moment.{current_at, entries_read}
use Rattle.rules.specs.Register.{LogEntry}
use Rattle.rules.specs.Replies.{accepted, start_not_formed}
use Rattle.moment.specs.declared.Moment.{Moment}
use Rattle.moment.specs.declared.During.{During}

-- no entry: the blank one
abbrev pub no_entry : ℕ → ℕ → Moment
no_entry number n = record { number = number; found = false; entry = no_log_entry; read = n }

-- what was found, and how many entries were read
abbrev pub moment : Option LogEntry → ℕ → Moment
moment none n = no_entry accepted n
moment (some e) n = record { number = accepted; found = true; entry = laid_log_entry e; read = n }

-- a count above the slots is refused with 1, and nothing is read
unfoldable pub moment_of : SnapshotLog → Time → Moment
moment_of log time = cond (leb log.count snapshot_log_room) (moment (current_at time.0 (read_snapshot_log log)) (entries_read time.0 (read_snapshot_log log))) (no_entry start_not_formed 0)

-- the answer at the first millisecond and the later entries; no later ones where the count is refused
unfoldable pub during_of : SnapshotLog → Time → Time → During
during_of log first last =
    record {
      beginning = moment_of log first;
      later = cond (leb log.count snapshot_log_room) (laid_snapshot_log (current_during first.0 last.0 (read_snapshot_log log)).1) no_snapshot_log;
    }
