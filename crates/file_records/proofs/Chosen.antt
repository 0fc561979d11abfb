-- The current snapshot: none where it is `null`, absent or -1.
use Prim.Native.Nat.{ℕ}
use mathlib.Core.Path.{◌≡◌, refl, ap, ◌∙◌}
use mathlib.Core.Bool.{true, false, cond}
use mathlib.Core.List.{List}
use mathlib.Core.Option.{Option, none, some}
use borrow.Author.Tests.{eq-eqb, ne_eqb}
use lib.Dec.{eqb}
use lib.IntN.{ℤ, pos, negsuc}
use Rattle.std.specs.Prelude as prelude
use Rattle.std.specs.Option as std
use Rattle.records.specs.declared.counters.SnapshotId.{SnapshotId}
use Rattle.rules.specs.Words.{eq_z, is_some, or_else}
use Rattle.file_records.specs.Current.{laid_current}
use Rattle.file_records.specs.Decoded.{is_there, head_of, maybe_at, or_zero_at, current_in}

-- not -1
abbrev chosen : Option ℤ → Option ℤ
chosen none = none
chosen (some id) = cond (eq_z id (negsuc 0)) none (some id)

module _ (file cells : List ℕ) where
  by_head : current_in file cells ≡ chosen (cond (eqb (head_of file cells 5594) 110) none (maybe_at file cells 5594))
  unfolding current_in
  by_head = refl

  pub null_none : head_of file cells 5594 ≡ 110 → current_in file cells ≡ none
  null_none e = by_head ∙ rw (eq-eqb (head_of file cells 5594) 110 e)

  module _ (n : head_of file cells 5594 ≡ 110 → ⊥) where
    pub absent_none : is_there cells 5594 ≡ false → current_in file cells ≡ none
    unfolding maybe_at
    absent_none f = by_head ∙ rw (ne_eqb (head_of file cells 5594) 110 n, f)

    module _ (t : is_there cells 5594 ≡ true) where
      there : maybe_at file cells 5594 ≡ some (or_zero_at file cells 5594)
      unfolding maybe_at
      there = rw t

      by_number : current_in file cells ≡ chosen (some (or_zero_at file cells 5594))
      by_number = by_head ∙ rw (ne_eqb (head_of file cells 5594) 110 n, there)

      pub minus_none : eq_z (or_zero_at file cells 5594) (negsuc 0) ≡ true → current_in file cells ≡ none
      minus_none m = by_number ∙ rw m

      pub some_current_lem : eq_z (or_zero_at file cells 5594) (negsuc 0) ≡ false → current_in file cells ≡ some (or_zero_at file cells 5594)
      some_current_lem m = by_number ∙ rw m

-- ---- as an `Option`

pub given_told : (o : Option ℤ) {r : prelude.Option SnapshotId} → r ≡ laid_current o → std.is_some r ≡ is_some o
given_told none e = ap (λ (r : prelude.Option SnapshotId). std.is_some r) e
given_told (some id) e = ap (λ (r : prelude.Option SnapshotId). std.is_some r) e

pub id_told : (o : Option ℤ) {r : prelude.Option SnapshotId} → r ≡ laid_current o → (std.unwrap_or r (record { 0 = pos 0 })).0 ≡ or_else o (pos 0)
id_told none e = ap (λ (r : prelude.Option SnapshotId). (std.unwrap_or r (record { 0 = pos 0 })).0) e
id_told (some id) e = ap (λ (r : prelude.Option SnapshotId). (std.unwrap_or r (record { 0 = pos 0 })).0) e
