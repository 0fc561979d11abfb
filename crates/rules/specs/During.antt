-- Which snapshots were current during a span of time, such as a day (docs/AUDIT.md, section 2). No document asks for it: it is made of the answers of Moment.
use Rattle.std.specs.Prelude.{Bool, cond, not, ◌&&◌, List, [], ◌∷◌, ℤ}
use Rattle.std.proofs.Math.Option.{Option}
use Rattle.rules.specs.Words.{any}
use Rattle.rules.specs.Register.{LogEntry}
use Rattle.rules.specs.Moment.{is_by, current_at}

-- after the first millisecond of the span, and at most its last
abbrev pub is_within : ℤ → ℤ → LogEntry → Bool
is_within first last e = not (is_by first e) && is_by last e

-- the answer at its own time: none of the entries that follow it in the log is by that time
abbrev pub answers_itself : LogEntry → List LogEntry → Bool
answers_itself e rest = not (any (is_by e.time) rest)

-- the entries within the span that are the answer at their own time, in log order
unfoldable pub answered_within : ℤ → ℤ → List LogEntry → List LogEntry
answered_within first last [] = []
answered_within first last (e ∷ rest) = cond (is_within first last e && answers_itself e rest) (e ∷ answered_within first last rest) (answered_within first last rest)

-- what was current at the first millisecond, then each entry within that is the answer at its own time
abbrev pub current_during : ℤ → ℤ → List LogEntry → Option LogEntry × List LogEntry
current_during first last log = (current_at first log, answered_within first last log)
