-- What is found on the way to a list: of each ref whether it goes and what it keeps, held snapshot by held snapshot in the order of the table.
use Rattle.std.specs.Prelude.{ℕ, suc, ◌≤◌, ◌≡◌, Bool, true, cond, not, ◌&&◌, List, [], map, eqb, ltb, ℤ, pos, length, get_or}
use Rattle.std.specs.Int.Signed.{lt_z, le_z}
use Rattle.rules.specs.Words.{eq_z, some_with, any, ascending}
use Rattle.rules.specs.Capacities.{snapshot_room}
use Rattle.rules.specs.Window.{is_before}
use Rattle.rules.specs.Register.{Snapshot, NamedRef, LogEntry, Metadata}
use Rattle.rules.specs.Walk.{Walk, parent_of, follow, listed_ids, snapshot_ids, snapshot_parents}
use Rattle.rules.specs.RefUpdates.{time_of}
use Rattle.rules.specs.Others.{is_second, is_others_ref}
use Rattle.rules.specs.Layout.{pad, given}
use Rattle.search.specs.Places.{index_of}
use Rattle.retention.specs.Retention.{goes, retained, is_twice, is_cyclic}
use Rattle.retention.specs.Retention as rules
use Rattle.retention.specs.Reasons.{nothing, log_names, place_of, why_at, why_by}
use Rattle.expiry.specs.Answer.{laid_reasons}
use Rattle.expiry.specs.declared.policy.Reason.{Reason}
use Rattle.expiry.specs.declared.walks.Limits.{Limits}
use Rattle.expiry.specs.declared.walks.Marks.{Marks}
use Rattle.expiry.specs.declared.kept.Kept.{Kept}
use Rattle.expiry.specs.declared.kept.Found.{Found}

-- ---- places

-- what is told of each id, and blanks up to 64
abbrev pub slotted : {A : Type 0} → A → (ℤ → A) → List ℤ → List A
slotted blank f ids = pad snapshot_room blank (map f ids)

abbrev pub marked : (ℤ → ℕ) → List ℤ → List ℕ
marked why ids = slotted nothing why ids

-- where an id stands among some; how many they are, where it does not
abbrev pub place_in : List ℤ → ℤ → ℕ
place_in ids id = index_of (λ x. eq_z x id) ids

-- the places of the parents
abbrev pub parent_places : List ℤ → List ℤ → List ℕ
parent_places ids parents = map (place_in ids) parents

abbrev pub snapshot_times : List Snapshot → List ℤ
snapshot_times snapshots = map (λ (s : Snapshot). s.time) snapshots

-- these are the places of the parents of held snapshots, whose ids ascend
pub record Placed (snapshots : List Snapshot) (over : List ℕ) : Type 0 where
  pub few : length snapshots ≤ snapshot_room
  pub order : ascending lt_z (snapshot_ids snapshots) ≡ true
  pub places : over ≡ parent_places (snapshot_ids snapshots) (snapshot_parents snapshots)

-- ---- walks

-- the one at a place is past an age
abbrev pub is_older_at : List ℤ → ℕ → ℤ → ℤ → Bool
is_older_at times place age clock = some_with (λ time. is_before age time clock) (given (ltb place (length times)) (get_or times place (pos 0)))

-- what a branch keeps within these limits
abbrev pub branch_walk : Limits → List Snapshot → ℤ → Walk
branch_walk l snapshots id =
    follow
    (suc snapshot_room)
    (parent_of (snapshot_ids snapshots) (snapshot_parents snapshots))
    (λ listed x. le_z l.count.0 (pos (length listed)) && some_with (λ time. is_before l.age.0 time l.clock.0) (time_of x snapshots))
    []
    id

unfoldable pub branch_marks : Limits → List Snapshot → ℤ → Marks
branch_marks l snapshots id =
    record {
      slots = marked (λ x. why_at l.count.0 (place_of (listed_ids (branch_walk l snapshots id)) x)) (snapshot_ids snapshots);
      twice = is_twice (branch_walk l snapshots id);
    }

-- ---- refs

-- only a ref of the office that remains is asked for a cycle
abbrev pub is_twice_in : rules.Policy → List Snapshot → NamedRef → Bool
is_twice_in p snapshots r = not (is_others_ref p.office r) && not (goes p snapshots r) && is_twice (retained p snapshots r.reference)

unfoldable pub kept_of : rules.Policy → List Snapshot → NamedRef → Kept
kept_of p snapshots r = record { goes = goes p snapshots r; twice = is_twice_in p snapshots r; slots = marked (why_by p snapshots r) (snapshot_ids snapshots) }

-- what the snapshot log names
abbrev pub log_reason : ℕ → List LogEntry → ℤ → Reason
log_reason office log id = record { why = cond (is_second office && any (λ (e : LogEntry). eq_z e.snapshot id) log) log_names nothing; by = 0 }

-- a ref's reason over what was told before
abbrev pub overlay : ℕ → Reason → ℕ → Reason
overlay by r why = cond (eqb why nothing) r (record { why = why; by = by })

unfoldable pub found_of : rules.Policy → Metadata → Found
found_of p m = record { cyclic = is_cyclic p m; reasons = laid_reasons p m }

-- metadata as it is shown: of its tables those that say what a policy keeps
pub record Shown (m : Metadata) (refs : List NamedRef) (snapshots : List Snapshot) (log : List LogEntry) : Type 0 where
  pub named : refs ≡ m.refs
  pub held : snapshots ≡ m.snapshots
  pub history : log ≡ m.snapshot_log
