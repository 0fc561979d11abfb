-- A snapshot from its cells is the one that its members say.
use Prim.Native.Nat.{ℕ, ◌+◌}
use native.Mathlib.Nat.{add-zero}
use mathlib.Core.Path.{◌≡◌, refl}
use mathlib.Core.Bool.{true}
use mathlib.Core.List.{List}
use mathlib.Core.Option.{Option, none, some}
use lib.IntN.{ℤ, pos}
use Rattle.json_rule.specs.Letters.{bytes}
use Rattle.json_rule.specs.Tree.{Members}
use Rattle.json_rule.specs.Members.{number_by}
use Rattle.json_rule.specs.Records.{range_of, snapshot_of}
use Rattle.json_rule.specs.Shapes.{u64}
use Rattle.file_rule.specs.Tables.{HeldSnapshot}
use Rattle.file_cells.specs.Cells.{size_of, offset_at}
use Rattle.file_records.specs.Decoded.{maybe_at, rows_at, snapshot_at}
use Rattle.file_decoded.proofs.Reading.{is_known, HeldRecord}
use Rattle.file_decoded.proofs.Scalars.{SingleReading, single, natural_read}
use Rattle.file_decoded.proofs.Inner.{inner, number64}

module _ (version : ℕ) (bs cells : List ℕ) (v : is_known version ≡ true) (base : ℕ) (ms : Members) (h : HeldRecord version bs cells HeldSnapshot base ms) where
  id_same : maybe_at bs cells base ≡ number_by "snapshot-id" ms
  unfolding offset_at size_of
  id_same = number64 version bs cells v h (bytes "snapshot-id") 24 base refl (inner version bs cells v h refl 0 _ refl refl base (add-zero base))

  parent_same : maybe_at bs cells (base + 2) ≡ number_by "parent-snapshot-id" ms
  unfolding offset_at size_of
  parent_same = number64 version bs cells v h (bytes "parent-snapshot-id") 25 (base + 2) refl (inner version bs cells v h refl 1 _ refl refl (base + 2) refl)

  sequence_same : maybe_at bs cells (base + 4) ≡ number_by "sequence-number" ms
  unfolding offset_at size_of
  sequence_same = number64 version bs cells v h (bytes "sequence-number") 26 (base + 4) refl (inner version bs cells v h refl 2 _ refl refl (base + 4) refl)

  time_same : maybe_at bs cells (base + 6) ≡ number_by "timestamp-ms" ms
  unfolding offset_at size_of
  time_same = number64 version bs cells v h (bytes "timestamp-ms") 27 (base + 6) refl (inner version bs cells v h refl 3 _ refl refl (base + 6) refl)

  -- both halves of a row range, or none
  rows_same : rows_at bs cells (base + 8) (base + 10) ≡ range_of (number_by "first-row-id" ms) (number_by "added-rows" ms)
  unfolding offset_at size_of rows_at
  rows_same = go (number_by "first-row-id" ms) refl (number_by "added-rows" ms) refl
    where
      first : SingleReading version bs cells u64 (bytes "first-row-id") (base + 8) ms
      first = single version bs cells u64 (bytes "first-row-id") 28 (base + 8) ms refl refl (inner version bs cells v h refl 4 _ refl refl (base + 8) refl)

      added : SingleReading version bs cells u64 (bytes "added-rows") (base + 10) ms
      added = single version bs cells u64 (bytes "added-rows") 29 (base + 10) ms refl refl (inner version bs cells v h refl 5 _ refl refl (base + 10) refl)

      go : (a : Option ℤ) → number_by "first-row-id" ms ≡ a → (b : Option ℤ) → number_by "added-rows" ms ≡ b → rows_at bs cells (base + 8) (base + 10) ≡ range_of a b
      go none d b e = rw ((natural_read version bs cells (pos 0) (pos 18446744073709551615) (bytes "first-row-id") (base + 8) ms (λ z w. w) first).0 d)
      go (some a) d none e =
          let l = (natural_read version bs cells (pos 0) (pos 18446744073709551615) (bytes "first-row-id") (base + 8) ms (λ z w. w) first).1 a d in
          rw (l.0, (natural_read version bs cells (pos 0) (pos 18446744073709551615) (bytes "added-rows") (base + 10) ms (λ z w. w) added).0 e)
      go (some a) d (some b) e =
          let l = (natural_read version bs cells (pos 0) (pos 18446744073709551615) (bytes "first-row-id") (base + 8) ms (λ z w. w) first).1 a d in
          let m = (natural_read version bs cells (pos 0) (pos 18446744073709551615) (bytes "added-rows") (base + 10) ms (λ z w. w) added).1 b e in
          rw (l.0, m.0, l.1, m.1)

  pub snapshot_same : snapshot_at bs cells base ≡ snapshot_of ms
  unfolding snapshot_at
  snapshot_same = rw (id_same, parent_same, sequence_same, time_same, rows_same)
