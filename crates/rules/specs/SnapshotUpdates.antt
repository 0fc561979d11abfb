-- Adding and removing snapshots: document 01, "Rules for each update", **Add snapshot** and **Remove snapshots**.
-- Each update has its checks, in 01's order, and its effect, which counts where no check fails.
use Rattle.std.specs.Prelude.{Bool, cond, not, ◌&&◌, List, [], ◌∷◌, map, eqb, leb, ℤ, pos, length}
use Rattle.std.proofs.Math.Option.{none, some}
use Rattle.std.specs.Int.Signed.{le_z}
use Rattle.records.specs.declared.counters.RowId.{RowId}
use Rattle.rules.specs.Words.{larger, is_some, or_else, some_with, keep, first, last_of, is_empty, is_in, put, Check}
use Rattle.rules.specs.Replies.{snapshot_held, sequence_too_low, before_last_entry, before_last_update, first_row_behind, no_row_range, rows_overflow, table_full}
use Rattle.rules.specs.Capacities.{snapshot_room}
use Rattle.rules.specs.Window.{is_before}
use Rattle.rules.specs.RowIds.{is_behind, overflows, after_range}
use Rattle.rules.specs.Register.{RowRange, Snapshot, LogEntry, SingleFields, State, with_fields, with_snapshots, with_refs, with_metadata, with_own, with_last_sequence, logged}
use Rattle.rules.specs.Register.Update.{AddSnapshot, RemoveSnapshots}
use Rattle.rules.specs.WellFormed.{snapshot_below, holds_snapshot, points_in}

-- ---- add snapshot

-- "the version is not 1, the number is at most the last, and a parent is named"
abbrev pub too_low : Snapshot → SingleFields → Bool
too_low s f = not (eqb f.version 1) && le_z s.sequence.0 f.last_sequence.0 && is_some s.parent

-- "log non-empty and time + 60,000 < last entry's time"; document 02, request (v): the run's tolerance in the place of 60,000
abbrev pub before_entry : ℤ → Snapshot → List LogEntry → Bool
before_entry tolerance s l = some_with (λ (e : LogEntry). is_before tolerance s.time e.time) (last_of l)

-- "the larger of metadata's last update and the run's own (0 where the run has none yet)"
abbrev pub latest : State → ℤ
latest st = larger st.metadata.fields.last_updated (or_else st.own (pos 0))

abbrev pub is_version3 : SingleFields → Bool
is_version3 f = eqb f.version 3

abbrev pub first_behind : Snapshot → SingleFields → Bool
first_behind s f = some_with (λ (r : RowRange). is_behind f.next_row r.first) s.rows

abbrev pub range_overflows : Snapshot → Bool
range_overflows s = some_with (λ (r : RowRange). overflows r.first r.added) s.rows

-- "checks in this order: 5; 6; 7; 8; version 3 only: 10, 9, 11; then 19"
unfoldable pub add_snapshot_checks : ℤ → Snapshot → State → List Check
add_snapshot_checks tolerance s st =
    (holds_snapshot st.metadata.snapshots s.id, snapshot_held)
    ∷ (too_low s st.metadata.fields, sequence_too_low)
    ∷ (before_entry tolerance s st.metadata.snapshot_log, before_last_entry)
    ∷ (is_before tolerance s.time (latest st), before_last_update)
    ∷ (is_version3 st.metadata.fields && not (is_some s.rows), no_row_range)
    ∷ (is_version3 st.metadata.fields && first_behind s st.metadata.fields, first_row_behind)
    ∷ (is_version3 st.metadata.fields && range_overflows s, rows_overflow)
    ∷ (leb snapshot_room (length st.metadata.snapshots), table_full)
    ∷ []

-- Document 02, request (iv): at version 3 next row id "becomes first row id plus added rows"; document 01: "below 3 it stays."
abbrev pub next_row_after : Snapshot → SingleFields → RowId
next_row_after s f = elim s.rows [ none ↦ f.next_row | some r ↦ cond (is_version3 f) (after_range r.first r.added) f.next_row ]

-- "Last sequence number becomes the snapshot's, even if lower. The run's last update becomes its time."
unfoldable pub add_snapshot : Snapshot → State → State
add_snapshot s st =
    logged (AddSnapshot s)
    (with_own (some s.time)
    (with_metadata
    (with_fields (with_last_sequence s.sequence (next_row_after s st.metadata.fields) st.metadata.fields)
    (with_snapshots (put snapshot_below s st.metadata.snapshots) st.metadata))
    st))

-- ---- remove snapshots

-- the held ids of a list, in table order
abbrev pub held_snapshots : List ℤ → List Snapshot → List ℤ
held_snapshots ids l = map (λ (s : Snapshot). s.id) (keep (λ s. is_in ids s.id) l)

abbrev pub other_snapshots : List ℤ → List Snapshot → List Snapshot
other_snapshots ids l = keep (λ s. not (is_in ids s.id)) l

abbrev pub without_snapshots : List ℤ → State → State
without_snapshots ids st =
    with_metadata
    (with_refs (keep (points_in (other_snapshots ids st.metadata.snapshots)) st.metadata.refs)
    (with_snapshots (other_snapshots ids st.metadata.snapshots) st.metadata))
    st

-- "Held ids go, logged in table order if any; refs to missing snapshots go unlogged; current snapshot stays as it is."
unfoldable pub remove_snapshots : List ℤ → State → State
remove_snapshots ids st =
    cond (is_empty (held_snapshots ids st.metadata.snapshots))
    (without_snapshots ids st)
    (logged (RemoveSnapshots (held_snapshots ids st.metadata.snapshots)) (without_snapshots ids st))
