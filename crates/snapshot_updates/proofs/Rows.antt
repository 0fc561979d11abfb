-- A snapshot's row range against the single fields: what the checks say, and the next row id where none fails.
use Prim.Native.Nat.{ℕ}
use mathlib.Core.Path.{◌≡◌, sym, ◌∙◌}
use mathlib.Core.Bool.{true, false}
use native.Mathlib.Omega.{arith}
use borrow.Author.Tests.{eq-eqb, ne_eqb}
use borrow.Table.Steps.{cases}
use Rattle.records.specs.declared.metadata.SingleFields.{SingleFields}
use Rattle.records.specs.declared.snapshot.Snapshot.{Snapshot}
use Rattle.rules.specs.Words.{first_of}
use Rattle.rules.specs.RowIds.{row_number, row_next}
use Rattle.rules.specs.SnapshotUpdates.{next_row_after}
use Rattle.rules.specs.Layout.{read_snapshot, read_fields}
use Rattle.snapshot_updates.specs.Snapshots.{row_checks}

module _ (f : SingleFields) (s : Snapshot) where
  abbrev number : ℕ
  number = first_of (row_checks (read_snapshot s) (read_fields f))

  -- below version 3
  module _ (v : f.format_version ≡ 3 → ⊥) where
    pub no_check : number ≡ 0
    no_check = rw (ne_eqb f.format_version 3 v)

    pub row_stays : f.next_row_id ≡ next_row_after (read_snapshot s) (read_fields f)
    row_stays = cases s.has_rows (λ t. rw (t, ne_eqb f.format_version 3 v)) (λ n. rw n)

  module _ (v : f.format_version ≡ 3) where
    pub no_rows : s.has_rows ≡ false → number ≡ 10
    no_rows h = rw (eq-eqb f.format_version 3 v, h)

    pub with_rows_lem : s.has_rows ≡ true → number ≡ row_number f.next_row_id s.first_row_id s.added_rows
    unfolding row_number
    with_rows_lem h = rw (eq-eqb f.format_version 3 v, h)

    pub row_grows : number ≡ 0 → row_next f.next_row_id s.first_row_id s.added_rows ≡ next_row_after (read_snapshot s) (read_fields f)
    unfolding row_next
    row_grows z =
        cases s.has_rows
        (λ t. rw (eq-eqb _ 0 (sym (with_rows_lem t) ∙ z), t, eq-eqb f.format_version 3 v))
        (λ n. absurd (omega (arith, no_rows n)))
