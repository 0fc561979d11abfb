-- A ref's reference from its cells is the one that its members say.
use Prim.Native.Nat.{ℕ, ◌+◌}
use native.Mathlib.Nat.{add-zero}
use mathlib.Core.Path.{◌≡◌, refl}
use mathlib.Core.Bool.{true}
use mathlib.Core.List.{List, [], ◌∷◌}
use Rattle.rules.specs.Capacities.{text_room}
use Rattle.json_rule.specs.Letters.{bytes}
use Rattle.json_rule.specs.Tree.{Members}
use Rattle.json_rule.specs.Members.{number_by, text_by}
use Rattle.json_rule.specs.Records.{reference_of}
use Rattle.file_rule.specs.Tables.{HeldRef}
use Rattle.file_cells.specs.Cells.{size_of, offset_at}
use Rattle.file_records.specs.Decoded.{maybe_at, maybe_narrow_at, text_at, is_word_at, reference_at}
use Rattle.file_decoded.proofs.Reading.{is_known, HeldRecord}
use Rattle.file_decoded.proofs.Inner.{inner, number64, number32, word}

module _ (version : ℕ) (bs cells : List ℕ) (v : is_known version ≡ true) (base : ℕ) (ms : Members) (h : HeldRecord version bs cells HeldRef base ms) where
  snapshot_same : maybe_at bs cells base ≡ number_by "snapshot-id" ms
  unfolding offset_at size_of
  snapshot_same = number64 version bs cells v h (bytes "snapshot-id") 52 base refl (inner version bs cells v h refl 0 _ refl refl base (add-zero base))

  type_same : text_at bs cells text_room (base + 2) ≡ text_by "type" ms
  unfolding offset_at size_of
  type_same = word version bs cells v h (bytes "type") 53 (base + 2) refl (bytes "branch" ∷ bytes "tag" ∷ []) refl (inner version bs cells v h refl 1 _ refl refl (base + 2) refl)

  least_same : maybe_narrow_at bs cells (base + 4) ≡ number_by "min-snapshots-to-keep" ms
  unfolding offset_at size_of
  least_same = number32 version bs cells v h (bytes "min-snapshots-to-keep") 54 (base + 4) refl (inner version bs cells v h refl 2 _ refl refl (base + 4) refl)

  age_same : maybe_at bs cells (base + 6) ≡ number_by "max-snapshot-age-ms" ms
  unfolding offset_at size_of
  age_same = number64 version bs cells v h (bytes "max-snapshot-age-ms") 55 (base + 6) refl (inner version bs cells v h refl 3 _ refl refl (base + 6) refl)

  ref_age_same : maybe_at bs cells (base + 8) ≡ number_by "max-ref-age-ms" ms
  unfolding offset_at size_of
  ref_age_same = number64 version bs cells v h (bytes "max-ref-age-ms") 56 (base + 8) refl (inner version bs cells v h refl 4 _ refl refl (base + 8) refl)

  pub reference_same : reference_at bs cells base ≡ reference_of ms
  unfolding reference_at is_word_at
  reference_same = rw (snapshot_same, type_same, least_same, age_same, ref_age_same)
