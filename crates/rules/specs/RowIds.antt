-- Row ids at version 3: document 01, numbers 9 and 11, as document 02, request (iv) has them.
use Rattle.std.specs.Prelude.{ℕ, ◌+◌, Bool, cond, eqb, ltb, [], ◌∷◌}
use Rattle.records.specs.declared.counters.RowId.{RowId}
use Rattle.rules.specs.Words.{first_of}
use Rattle.rules.specs.Replies.{accepted, first_row_behind, rows_overflow}
use Rattle.rules.specs.Capacities.{largest_unsigned}

-- "first row id below next row id"
abbrev pub is_behind : RowId → RowId → Bool
is_behind next first = ltb first.0 next.0

-- where a range ends: the row id after its last one
abbrev pub range_end : RowId → ℕ → ℕ
range_end first added = first.0 + added

-- 02 (iv): "11 is given if that sum passes 2^64 - 1"
abbrev pub overflows : RowId → ℕ → Bool
overflows first added = ltb largest_unsigned (range_end first added)

-- the row-id check: 9 before 11
unfoldable pub row_number : RowId → RowId → ℕ → ℕ
row_number next first added = first_of ((is_behind next first, first_row_behind) ∷ (overflows first added, rows_overflow) ∷ [])

-- 02 (iv): "From now on it becomes first row id plus added rows."
abbrev pub after_range : RowId → ℕ → RowId
after_range first added = record { 0 = range_end first added }

-- the new next row id; on a refusal it stays
unfoldable pub row_next : RowId → RowId → ℕ → RowId
row_next next first added = cond (eqb (row_number next first added) accepted) (after_range first added) next
