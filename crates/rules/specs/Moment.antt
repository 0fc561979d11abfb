-- Which snapshot was current at a time: document 02, request (i). Of what a run may do to the answer the request says nothing: the two conditions below are this project's own.
use Rattle.std.specs.Prelude.{ℕ, ◌+◌, Bool, cond, List, [], ◌∷◌, ◌++◌, ℤ, length}
use Rattle.std.proofs.Math.Option.{Option}
use Rattle.std.specs.Int.Signed.{le_z}
use Rattle.rules.specs.Words.{all, any, keep, last_of, after_last}
use Rattle.rules.specs.Register.{LogEntry, Metadata, Update}
use Rattle.rules.specs.WellFormed.{holds_snapshot}
use Rattle.rules.specs.ChangeLog.{removed_ids, logs_addition}

-- ---- the answer

-- "whose time is at most the given one"
abbrev pub is_by : ℤ → LogEntry → Bool
is_by time e = le_z e.time time

-- "the last entry, in log order, whose time is at most the given one, or none": the log's times can step back, so nothing is said of their order
unfoldable pub current_at : ℤ → List LogEntry → Option LogEntry
current_at time log = last_of (keep (is_by time) log)

-- "how many entries were read, equal to the distance of the hit from the end plus one, or the length if none"
unfoldable pub entries_read : ℤ → List LogEntry → ℕ
entries_read time log = cond (any (is_by time) log) (length (after_last (is_by time) log) + 1) (length log)

-- ---- the two conditions under which a run keeps an answer

-- every snapshot that the history names is held
unfoldable pub is_whole : Metadata → Bool
is_whole m = all (λ e. holds_snapshot m.snapshots e.snapshot) m.snapshot_log

-- the snapshots that a change log removes
abbrev pub logs_removed : List Update → List ℤ
logs_removed [] = []
logs_removed (u ∷ log) = removed_ids u ++ logs_removed log

-- a snapshot is both removed and added by the change log
unfoldable pub removes_and_adds : List Update → Bool
removes_and_adds log = any (logs_addition log) (logs_removed log)
