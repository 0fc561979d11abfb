-- The row-id check's answer, made of the rule's two parts.
use Rattle.std.specs.Prelude.{ℕ}
use Rattle.records.specs.declared.counters.RowId.{RowId}
use Rattle.rules.specs.RowIds.{row_number, row_next}
use Rattle.primitives.specs.declared.row_ids.RowsChecked.{RowsChecked}

-- its number, and the next row id from then on
unfoldable pub rows_checked : RowId → RowId → ℕ → RowsChecked
rows_checked next first added = record { number = row_number next first added; next = row_next next first added }
