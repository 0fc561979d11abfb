-- The row-id check's answer over plain numbers.
use Rattle.std.specs.Prelude.{ℕ}
use Rattle.records.specs.declared.counters.RowId.{RowId}
use Rattle.rules.specs.RowIds.{row_number, row_next}
use Rattle.exports.specs.declared.RowCheck.{RowCheck}

-- a number as a row id
abbrev pub row_id : ℕ → RowId
row_id n = record { 0 = n }

-- its number, and the next row id from then on
unfoldable pub row_check : ℕ → ℕ → ℕ → RowCheck
row_check next first added =
    record { number = row_number (row_id next) (row_id first) added; next = (row_next (row_id next) (row_id first) added).0 }
