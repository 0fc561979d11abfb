-- The history belongs to the first office: a run of the second leaves the snapshot log and the current snapshot as they are, and so every answer which snapshot was current.
use mathlib.Core.Path.{◌≡◌, ap}
use mathlib.Core.Bool.{true}
use mathlib.Core.List.{List}
use lib.IntN.{ℤ}
use Rattle.rules.specs.Register.{FileEntry, Metadata, Update, Terms}
use Rattle.rules.specs.Register.Outcome.{Accepted}
use Rattle.rules.specs.Others.{is_second}
use Rattle.rules.specs.Run.{run}
use Rattle.rules.specs.Moment.{current_at}
use Rattle.rules.proofs.Offices.Second.{FirstOffices, first_offices, accepted_leaves}

-- the history of metadata is that of other metadata
pub record HistoryStays (m m' : Metadata) : Type 0 where
  pub snapshot_log : m'.snapshot_log ≡ m.snapshot_log
  pub current : m'.fields.current ≡ m.fields.current

-- so whoever asks which snapshot was current at a time has the answer that there was
pub moment_stays : {m m' : Metadata} → HistoryStays m m' → (time : ℤ) → current_at time m'.snapshot_log ≡ current_at time m.snapshot_log
moment_stays h time = ap (current_at time) h.snapshot_log

-- what the second office leaves has the history in it
pub history_left : {m m' : Metadata} → first_offices m' ≡ first_offices m → HistoryStays m m'
history_left k = record { snapshot_log = ap (λ (f : FirstOffices). f.snapshot_log) k; current = ap (λ (f : FirstOffices). f.current) k }

pub office_history_stays : (terms : Terms) (m : Metadata) (us : List Update) (m' : Metadata) (log : List Update) (expired : List FileEntry) → is_second terms.office ≡ true → run terms m us ≡ Accepted m' log expired
    → HistoryStays m m'
office_history_stays terms m us m' log expired s e = history_left (accepted_leaves terms m us m' log expired s e)
