-- A reading that stops at the first hit, and how far a reading from the end has come.
use Rattle.std.specs.Prelude.{ℕ, ◌+◌, ◌-◌, ◌≤◌, ◌<◌, ◌≡◌, Bool, true, false, cond, List, [], ◌∷◌, ℤ, length, take, drop, get_or}
use Rattle.std.proofs.Math.Option.{Option, none, some}
use Rattle.records.specs.Blanks.{no_log_entry}
use Rattle.rules.specs.Layout.{read_log_entry}
use Rattle.rules.specs.Moment.{is_by, current_at, entries_read}
use Rattle.rules.specs.Register.{LogEntry}
use Rattle.rules.specs.Words.{any}

-- what is found, and how many were read
abbrev pub until_hit : {A : Type 0} → (A → Bool) → List A → Option A × ℕ
until_hit p [] = (none, 0)
until_hit p (x ∷ rest) = cond (p x) (some x, 1) ((until_hit p rest).0, (until_hit p rest).1 + 1)

-- the entry at a place
abbrev pub entry_at : List LogEntry → ℕ → LogEntry
entry_at log at = get_or log at (read_log_entry no_log_entry)

-- the entries from `end` on are read, are too late, and change nothing but the count; the entry in front of `hit` is by the time, where there is one
pub record Read (time : ℤ) (log : List LogEntry) (hit end : ℕ) : Type 0 where
  pub before : hit ≤ end
  pub within : end ≤ length log
  pub late : any (is_by time) (drop end log) ≡ false
  pub current : current_at time log ≡ current_at time (take end log)
  pub read : entries_read time log ≡ entries_read time (take end log) + (length log - end)
  pub by : 0 < hit → is_by time (entry_at log (hit - 1)) ≡ true
