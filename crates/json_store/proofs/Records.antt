-- The records of an update, field by field: a member that may be left out is 0 where it is.
use Prim.Native.Nat.{ℕ}
use mathlib.Core.Path.{◌≡◌}
use mathlib.Core.Bool.{Bool, cond}
use mathlib.Core.List.{List}
use borrow.Table.Steps.{cases}
use lib.IntN.{ℤ}
use Rattle.records.specs.declared.snapshot.Snapshot as R
use Rattle.records.specs.declared.reference.SnapshotReference as F
use Rattle.rules.specs.Layout.{laid_snapshot, laid_reference}
use Rattle.json_members.specs.Slots.{seen_in}
use Rattle.json_store.specs.Numbers.{magnitude_at, number_at, byte_at}
use Rattle.json_store.specs.Made.{or_zero_at, or_zero_narrow_at, snapshot_in, reference_in}

module _ (slots numbers : List ℕ) where
  pub snapshot_laid : {id parent sequence time : ℤ} {hasParent has_rows : Bool} {first added : ℕ} → id ≡ number_at numbers 27 → hasParent ≡ seen_in slots 28 → parent ≡ or_zero_at slots numbers 28 → sequence ≡ or_zero_at slots numbers 29 → time ≡ number_at numbers 30 → has_rows ≡ seen_in slots 31 → first ≡ cond (seen_in slots 31) (magnitude_at numbers 31) 0 → added ≡ cond (seen_in slots 31) (magnitude_at numbers 32) 0 → ◌≡◌ {A = R.Snapshot} (record { snapshot_id = record { 0 = id }; has_parent = hasParent; parent_snapshot_id = record { 0 = parent }; sequence_number = record { 0 = sequence }; timestamp_ms = record { 0 = time }; has_rows = has_rows; first_row_id = record { 0 = first }; added_rows = added }) (laid_snapshot (snapshot_in slots numbers))
  unfolding laid_snapshot snapshot_in
  snapshot_laid a b p s t r f d =
      rw (a, b, p, s, t, r, f, d)
      (cases (seen_in slots 28)
      (λ x. rw x (cases (seen_in slots 31) (λ y. rw y) (λ y. rw y)))
      (λ x. rw x (cases (seen_in slots 31) (λ y. rw y) (λ y. rw y))))

  pub reference_laid : {id min age ref_age : ℤ} {hasMin hasAge hasRefAge : Bool} {kind : ℕ} → id ≡ number_at numbers 11 → kind ≡ byte_at numbers 10 → hasMin ≡ seen_in slots 12 → min ≡ or_zero_narrow_at slots numbers 12 → hasAge ≡ seen_in slots 13 → age ≡ or_zero_at slots numbers 13 → hasRefAge ≡ seen_in slots 14 → ref_age ≡ or_zero_at slots numbers 14 → ◌≡◌ {A = F.SnapshotReference} (record { snapshot_id = record { 0 = id }; kind = kind; has_min = hasMin; min_snapshots_to_keep = record { 0 = min }; has_age = hasAge; max_snapshot_age_ms = record { 0 = age }; has_ref_age = hasRefAge; max_ref_age_ms = record { 0 = ref_age } }) (laid_reference (reference_in slots numbers))
  unfolding laid_reference reference_in
  reference_laid i k a b d e f g =
      rw (i, k, a, b, d, e, f, g)
      (cases (seen_in slots 12)
      (λ x. rw x
      (cases (seen_in slots 13)
      (λ y. rw y (cases (seen_in slots 14) (λ z. rw z) (λ z. rw z)))
      (λ y. rw y (cases (seen_in slots 14) (λ z. rw z) (λ z. rw z)))))
      (λ x. rw x
      (cases (seen_in slots 13)
      (λ y. rw y (cases (seen_in slots 14) (λ z. rw z) (λ z. rw z)))
      (λ y. rw y (cases (seen_in slots 14) (λ z. rw z) (λ z. rw z))))))
