-- The three answers: a count above the slots, no entry by the time, and the entry at which the reading stops.
use Prim.Native.Nat.{ℕ, ◌+◌, ◌-◌, ◌≤◌, ◌<◌}
use mathlib.Core.Path.{◌≡◌}
use mathlib.Core.Bool.{true}
use native.Mathlib.Omega.{arith}
use borrow.Author.Tests.{le-leb, lt-leb}
use lib.ListN.{length, get_or}
use Rattle.records.specs.Blanks.{no_log_entry}
use Rattle.records.specs.declared.counters.Time.{Time}
use Rattle.records.specs.declared.snapshot.SnapshotLog.{SnapshotLog}
use Rattle.rules.specs.Capacities.{snapshot_log_room}
use Rattle.rules.specs.Layout.{read_snapshot_log}
use Rattle.rules.specs.Replies.{accepted, start_not_formed}
use Rattle.moment.specs.Answers.{no_entry, moment_of}
use Rattle.moment.specs.Reading.{Read}
use Rattle.moment.proofs.Slots.{read_length, read_at}
use Rattle.moment.proofs.Reading.{current_none, read_all, current_here, read_here}

module _ (log : SnapshotLog) (time : Time) where
  pub refused : snapshot_log_room < log.count → moment_of log time ≡ no_entry start_not_formed 0
  unfolding moment_of
  refused h = rw (lt-leb log.count snapshot_log_room h)

  module _ (fits : log.count ≤ snapshot_log_room) {k : ℕ} (r : Read time.0 (read_snapshot_log log) k k) where
    pub none_found : k ≡ 0 → moment_of log time ≡ no_entry accepted log.count
    unfolding moment_of
    none_found z = rw (le-leb log.count snapshot_log_room fits, current_none r z, read_all r z, read_length log)

    pub found : length log.items ≡ snapshot_log_room → (at : ℕ) → at + 1 ≡ k → moment_of log time ≡ record { number = accepted; found = true; entry = get_or log.items at no_log_entry; read = log.count - at }
    unfolding moment_of
    found room at s =
        rw (le-leb log.count snapshot_log_room fits, current_here r at s, read_here r at s, read_length log, read_at log at (omega (arith, r.within, read_length log)) (omega arith))
