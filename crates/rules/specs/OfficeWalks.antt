-- Walks from the other office's refs, and what an office cannot change of them: document 02, request (xi).
use Rattle.std.specs.Prelude.{ℕ, ◌≡◌, Bool, true, false, not, List, ◌++◌, eqb, ℤ}
use Rattle.std.proofs.Math.Option.{Option, none, some}
use Rattle.rules.specs.Words.{is_some, some_with, first, last_of, is_in}
use Rattle.rules.specs.Register.{Snapshot}
use Rattle.rules.specs.WellFormed.{has_snapshot}
use Rattle.rules.specs.Walk.{Walk, Listed, Twice, Bad, record_ancestors}
use Rattle.rules.specs.Rows.{Given}

-- the snapshot is held with a record that names no parent
abbrev pub is_parentless : List Snapshot → ℤ → Bool
is_parentless snapshots id = some_with (λ (s : Snapshot). not (is_some s.parent)) (first (has_snapshot id) snapshots)

-- the walk ends "at a parentless snapshot": it lists ids, and the last of them is one
unfoldable pub is_closed : List Snapshot → Walk → Bool
is_closed snapshots (Listed ids) = some_with (is_parentless snapshots) (last_of ids)
is_closed snapshots Twice = false
is_closed snapshots Bad = false

-- the snapshot is held before and after, with an equal record
pub record HeldAlike (before after : List Snapshot) (id : ℤ) : Type 0 where
  pub snapshot : Snapshot
  pub was : first (has_snapshot id) before ≡ some snapshot
  pub is : first (has_snapshot id) after ≡ some snapshot

-- A closed walk from a snapshot stays "as it was": up to any excluded id the walk is the same, all that it lists has an equal record, and it is closed again.
pub record WalkStays (before after : List Snapshot) (start : ℤ) : Type 0 where
  pub same : (excluded : Option ℤ) → record_ancestors after start excluded ≡ record_ancestors before start excluded
  pub records : (ids : List ℤ) → record_ancestors before start none ≡ Listed ids → (id : ℤ) → is_in ids id ≡ true → HeldAlike before after id
  pub closed : is_closed after (record_ancestors after start none) ≡ true

-- What any other walk that listed ids becomes: the same ids first and perhaps more, or it meets a snapshot twice.
pub data Onward (ids : List ℤ) (after : Walk) : Type 0 where
  Further : (more : List ℤ) → after ≡ Listed (ids ++ more) → Onward ids after
  Cyclic : after ≡ Twice → Onward ids after

-- the run of a sequence is the office's
abbrev pub is_of_office : ℕ → Given → Bool
is_of_office office g = eqb g.terms.office office
