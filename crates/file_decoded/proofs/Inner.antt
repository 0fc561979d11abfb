-- The members of a record inside a file, by their places in its table: a member that a version does not publish is refused there, so each is absent or held.
use Prim.Native.Nat.{ℕ, ◌+◌}
use mathlib.Core.Path.{◌≡◌, refl, ap}
use mathlib.Core.Bool.{true, false, not}
use mathlib.Core.List.{List}
use mathlib.Core.Option.{some}
use lib.Dec.{eqb, leb}
use lib.IntN.{pos, negsuc}
use lib.ListN.{length}
use Rattle.rules.specs.Words.{is_some, all}
use Rattle.rules.specs.Capacities.{text_room}
use Rattle.rules.proofs.Checks.{or_left, or_right}
use Rattle.json_rule.specs.Tree.{Members}
use Rattle.json_rule.specs.Shapes.{TextUpTo, OneOf, i32, i64}
use Rattle.file_rule.specs.Tables.{FileKind, Single, Row, row_in, rows_of}
use Rattle.file_rule.specs.FileDefects.{skips_unknown}
use Rattle.file_cells.specs.Wants.{nth, first_spot, passes_over}
use Rattle.file_cells.specs.Cells.{offset_at}
use Rattle.file_records.specs.Decoded.{maybe_at, maybe_narrow_at, text_at}
use Rattle.file_decoded.proofs.Reading.{is_known, HeldRecord, Reading, reading}
use Rattle.file_decoded.proofs.Scalars.{number_named, text_named, single, number_read, narrow_read, text_read_lem, word_read}

module _ (version : ℕ) (bs cells : List ℕ) (v : is_known version ≡ true) {k : FileKind} {base : ℕ} {ms : Members} (h : HeldRecord version bs cells k base ms) where
  -- ---- by the row

  -- of a record that has no members but the published ones
  pub inner : skips_unknown k ≡ false → (p : ℕ) (r : Row) → nth p (rows_of k) ≡ some r → passes_over r.shape ≡ false → (at : ℕ) → base + offset_at (first_spot k + p) ≡ at
      → Reading version bs cells r.shape r.name (first_spot k + p) at ms
  inner s p r there n at o = reading version bs cells v h p r there n (or_right (is_some (row_in version r)) (ap not s)) at o

  -- of a member that the version publishes
  pub outer : (p : ℕ) (r : Row) → nth p (rows_of k) ≡ some r → passes_over r.shape ≡ false → is_some (row_in version r) ≡ true → (at : ℕ) → base + offset_at (first_spot k + p) ≡ at
      → Reading version bs cells r.shape r.name (first_spot k + p) at ms
  outer p r there n w at o = reading version bs cells v h p r there n (or_left (not (skips_unknown k)) w) at o

  -- ---- by what is to be read

  module _ (name : List ℕ) (spot at : ℕ) (n : eqb spot 0 ≡ false) where
    pub number64 : Reading version bs cells (Single i64) name spot at ms → maybe_at bs cells at ≡ number_named name ms
    number64 r = number_read version bs cells (negsuc 9223372036854775807) (pos 9223372036854775807) name at ms (λ z w. w) (single version bs cells i64 name spot at ms refl n r)

    pub number32 : Reading version bs cells (Single i32) name spot at ms → maybe_narrow_at bs cells at ≡ number_named name ms
    number32 r = narrow_read version bs cells (negsuc 2147483647) (pos 2147483647) name at ms (λ z w. w) (single version bs cells i32 name spot at ms refl n r)

    pub text : (room : ℕ) → Reading version bs cells (Single (TextUpTo room)) name spot at ms → text_at bs cells room at ≡ text_named name ms
    text room r = text_read_lem version bs cells room name at ms (single version bs cells (TextUpTo room) name spot at ms refl n r)

    pub word : (words : List (List ℕ)) → all (λ w. leb (length w) text_room) words ≡ true → Reading version bs cells (Single (OneOf words)) name spot at ms → text_at bs cells text_room at ≡ text_named name ms
    word words a r = word_read version bs cells words name at ms a (single version bs cells (OneOf words) name spot at ms refl n r)
