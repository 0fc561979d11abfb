-- Records, field by field: a member that is absent is 0.
use Prim.Native.Nat.{ℕ, ◌+◌}
use mathlib.Core.Path.{◌≡◌}
use mathlib.Core.Bool.{Bool, cond, ◌&&◌}
use mathlib.Core.List.{List}
use borrow.Table.Steps.{cases}
use lib.IntN.{ℤ}
use Rattle.records.specs.declared.snapshot.Snapshot as R
use Rattle.records.specs.declared.reference.SnapshotReference as F
use Rattle.rules.specs.Words.{is_some, same_bytes}
use Rattle.rules.specs.Layout.{laid_snapshot, laid_reference}
use Rattle.json_rule.specs.Letters.{bytes}
use Rattle.file_records.specs.Decoded.{is_there, natural_at, maybe_at, maybe_narrow_at, or_zero_at, or_zero_narrow_at, text_at, is_word_at, rows_at, snapshot_at, reference_at}

module _ (file cells : List ℕ) where
  pub there : (at : ℕ) → is_some (maybe_at file cells at) ≡ is_there cells at
  unfolding maybe_at
  there at = cases (is_there cells at) (λ t. rw t) (λ f. rw f)

  pub there_narrow : (at : ℕ) → is_some (maybe_narrow_at file cells at) ≡ is_there cells at
  unfolding maybe_narrow_at
  there_narrow at = cases (is_there cells at) (λ t. rw t) (λ f. rw f)

  pub snapshot_laid : (at : ℕ) {id parent sequence time : ℤ} {hasParent has_rows : Bool} {first added : ℕ} → id ≡ or_zero_at file cells at → hasParent ≡ is_there cells (at + 2) → parent ≡ or_zero_at file cells (at + 2) → sequence ≡ or_zero_at file cells (at + 4) → time ≡ or_zero_at file cells (at + 6) → has_rows ≡ (is_there cells (at + 8) && is_there cells (at + 10)) → first ≡ cond has_rows (natural_at cells (at + 8)) 0 → added ≡ cond has_rows (natural_at cells (at + 10)) 0 → ◌≡◌ {A = R.Snapshot} (record { snapshot_id = record { 0 = id }; has_parent = hasParent; parent_snapshot_id = record { 0 = parent }; sequence_number = record { 0 = sequence }; timestamp_ms = record { 0 = time }; has_rows = has_rows; first_row_id = record { 0 = first }; added_rows = added }) (laid_snapshot (snapshot_at file cells at))
  unfolding laid_snapshot snapshot_at rows_at
  snapshot_laid at {has_rows = has_rows} a b p s t r f d =
      rw (f, d, a, b, p, s, t, ← r, there (at + 2)) (cases has_rows (λ y. rw y) (λ y. rw y))

  pub reference_laid : (at : ℕ) {id min age ref_age : ℤ} {hasMin hasAge hasRefAge : Bool} {kind : ℕ} → id ≡ or_zero_at file cells at → kind ≡ cond (same_bytes (text_at file cells 96 (at + 2)) (bytes "branch")) 1 2 → hasMin ≡ is_there cells (at + 4) → min ≡ or_zero_narrow_at file cells (at + 4) → hasAge ≡ is_there cells (at + 6) → age ≡ or_zero_at file cells (at + 6) → hasRefAge ≡ is_there cells (at + 8) → ref_age ≡ or_zero_at file cells (at + 8) → ◌≡◌ {A = F.SnapshotReference} (record { snapshot_id = record { 0 = id }; kind = kind; has_min = hasMin; min_snapshots_to_keep = record { 0 = min }; has_age = hasAge; max_snapshot_age_ms = record { 0 = age }; has_ref_age = hasRefAge; max_ref_age_ms = record { 0 = ref_age } }) (laid_reference (reference_at file cells at))
  unfolding laid_reference reference_at is_word_at
  reference_laid at i k a b d e f g = rw (i, k, a, b, d, e, f, g, there_narrow (at + 4), there (at + 6), there (at + 8))
