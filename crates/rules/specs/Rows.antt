-- Row ids over a sequence of runs: document 02, request (xiii), "No row id twice": "Over any sequence of runs from a version 3 start, each
-- starting from what the one before answered, every snapshot added in an accepted run gets a row range disjoint from all other ranges added,
-- removed snapshots included, and from any range below the starting next row id. A refused run adds none. Zero added rows is an empty range."
use Rattle.std.specs.Prelude.{ℕ, ◌≤◌, ◌<◌, ◌≡◌, Bool, true, ◌&&◌, ◌||◌, List, [], ◌∷◌, ◌++◌, eqb, leb, ltb, length, get_or}
use Rattle.records.specs.declared.metadata.TableMetadata.{TableMetadata}
use Rattle.rules.specs.Words.{is_some, if_some, all, collect, each_pair}
use Rattle.rules.specs.Capacities.{largest_unsigned}
use Rattle.rules.specs.RowIds.{range_end}
use Rattle.rules.specs.Register.{RowRange, Snapshot, Metadata, Update, Terms, Outcome}
use Rattle.rules.specs.Register.Outcome.{Refused, Accepted}
use Rattle.rules.specs.ChangeLog.{new_snapshot}
use Rattle.rules.specs.SnapshotUpdates.{is_version3}
use Rattle.rules.specs.Run.{run}
use Rattle.rules.specs.WellFormed.{metadata_formed}
use Rattle.rules.specs.Blanks.{is_tidy_metadata}
use Rattle.rules.specs.Layout.{read_metadata}

-- ---- the snapshots and the ranges that a sequence of runs adds

-- those that a list of updates, or a change log, is to add, in order
unfoldable pub new_snapshots : List Update → List Snapshot
new_snapshots us = collect new_snapshot us

abbrev pub has_rows : Snapshot → Bool
has_rows s = is_some s.rows

-- the row ranges of snapshots, in order
abbrev pub ranges_of : List Snapshot → List RowRange
ranges_of l = collect (λ (s : Snapshot). s.rows) l

-- one run of a sequence: a list and terms of its own
pub record Given : Type 0 where
  pub terms : Terms
  pub updates : List Update

-- what the next run starts from; a refused run "returns the starting metadata"
abbrev pub answered_from : Metadata → Outcome → Metadata
answered_from m (Refused number place) = m
answered_from m (Accepted m' log expired) = m'

-- "A refused run adds none."
abbrev pub added_by : Outcome → List Snapshot
added_by (Refused number place) = []
added_by (Accepted m log expired) = new_snapshots log

-- the snapshots that the runs add, "each starting from what the one before answered"; those that a later run removes are among them
unfoldable pub added_over : Metadata → List Given → List Snapshot
added_over m [] = []
added_over m (g ∷ gs) =
    let o : Outcome = run g.terms m g.updates in
    added_by o ++ added_over (answered_from m o) gs

-- what the last of the runs answers, or the start where there is none
unfoldable pub end_over : Metadata → List Given → Metadata
end_over m [] = m
end_over m (g ∷ gs) = end_over (answered_from m (run g.terms m g.updates)) gs

-- ---- row ids

abbrev pub next_row_of : Metadata → ℕ
next_row_of m = m.fields.next_row.0

abbrev pub end_of : RowRange → ℕ
end_of r = range_end r.first r.added

-- the row id lies in the range; "Zero added rows is an empty range."
abbrev pub has_row : RowRange → ℕ → Bool
has_row r row = leb r.first.0 row && ltb row (end_of r)

-- the range at a position; past the last it has no rows
abbrev pub range_at : List RowRange → ℕ → RowRange
range_at rs i = get_or rs i (record { first = record { 0 = 0 }; added = 0 })

-- each range begins at or after the number reached, ends by 2^64 - 1, and the rest climbs from its end
abbrev pub climbs : ℕ → List RowRange → Bool
climbs reached [] = true
climbs reached (r ∷ rs) = leb reached r.first.0 && leb (end_of r) largest_unsigned && climbs (end_of r) rs

-- the same in words of positions: begins at or after the starting number and the end of every earlier range, and ends by 2^64 - 1
pub record Ascend (start : ℕ) (rs : List RowRange) : Type 0 where
  pub from_start : (j : ℕ) → j < length rs → start ≤ (range_at rs j).first.0
  pub from_earlier : (i j : ℕ) → i < j → j < length rs → end_of (range_at rs i) ≤ (range_at rs j).first.0
  pub ends : (j : ℕ) → j < length rs → end_of (range_at rs j) ≤ largest_unsigned

-- no row id lies in ranges at two positions
abbrev pub NoRowTwice : List RowRange → Type 0
NoRowTwice rs = (i j row : ℕ) → has_row (range_at rs i) row ≡ true → has_row (range_at rs j) row ≡ true → i ≡ j

-- and none lies in one of them and in a range that ends by the starting number
pub record Disjoint (start : ℕ) (rs : List RowRange) : Type 0 where
  pub from_others : NoRowTwice rs
  pub from_below : (r : RowRange) → end_of r ≤ start → (i row : ℕ) → has_row (range_at rs i) row ≡ true → has_row r row ≡ true → ⊥

-- the number is above every row id of the ranges
abbrev pub Above : ℕ → List RowRange → Type 0
Above number rs = (i row : ℕ) → has_row (range_at rs i) row ≡ true → row < number

-- above every row id that was held at the start, was added, or is held at the end: the public format's "higher than all assigned row IDs"
pub record AboveAll (next : ℕ) (start added end : List RowRange) : Type 0 where
  pub of_start : Above next start
  pub of_added : Above next added
  pub of_end : Above next end

-- ---- metadata that is apart: this project's own condition on what is held at the start, of which request (xiii) asks nothing

-- no row id lies in both
abbrev pub are_disjoint : RowRange → RowRange → Bool
are_disjoint a b = eqb a.added 0 || eqb b.added 0 || leb (end_of a) b.first.0 || leb (end_of b) a.first.0

-- the ranges of both, where both have one, are disjoint
abbrev pub rows_disjoint : Snapshot → Snapshot → Bool
rows_disjoint s t = if_some (λ (a : RowRange). if_some (are_disjoint a) t.rows) s.rows

abbrev pub rows_end_by : ℕ → Snapshot → Bool
rows_end_by next s = if_some (λ (r : RowRange). leb (end_of r) next) s.rows

-- version 3, each two held ranges are disjoint, and each ends by next row id
unfoldable pub is_apart : Metadata → Bool
is_apart m = is_version3 m.fields && each_pair rows_disjoint m.snapshots && all (rows_end_by (next_row_of m)) m.snapshots

-- the same in words of positions: version 3, no row id in two held ranges, and each ends by next row id
pub record MeansApart (m : Metadata) : Type 0 where
  pub version : m.fields.version ≡ 3
  pub no_row_twice : NoRowTwice (ranges_of m.snapshots)
  pub ends : (i : ℕ) → i < length (ranges_of m.snapshots) → end_of (range_at (ranges_of m.snapshots) i) ≤ next_row_of m

-- what `row_ranges::rows_apart` answers: its unused places are blank, it is well formed, and it is apart
abbrev pub is_formed_and_apart : TableMetadata → Bool
is_formed_and_apart m = is_tidy_metadata m && metadata_formed (read_metadata m) && is_apart (read_metadata m)
