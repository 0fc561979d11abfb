-- Adding a snapshot: the rule's checks, one by one, from the pieces of the state that the code has.
use Prim.Native.Nat.{ℕ}
use mathlib.Core.Path.{◌≡◌, refl}
use mathlib.Core.Bool.{Bool, true, false, cond, not}
use mathlib.Core.List.{List, [], ◌∷◌, ◌++◌}
use mathlib.Core.Option.{Option, none, some}
use native.Mathlib.Omega.{arith}
use borrow.Author.Tests.{ltb-true, ne_eqb}
use lib.Dec.{eqb, ltb, leb}
use lib.IntN.{ℤ}
use lib.ListN.{length}
use Rattle.rules.specs.Words.{some_with, first_of, last_of, Check}
use Rattle.rules.specs.Window.{is_before}
use Rattle.rules.specs.Register.{Snapshot, LogEntry, State}
use Rattle.rules.specs.WellFormed.{holds_snapshot}
use Rattle.rules.specs.SnapshotUpdates.{too_low, before_entry, latest, add_snapshot_checks}
use Rattle.rules.proofs.Checks.{numbered, and_left, and_right, passed_before, passed_after}
use Rattle.builder.specs.Pieces.{last_time}
use Rattle.snapshot_updates.specs.Snapshots.{row_checks}

-- the number of some checks, or that of the checks after them where it is 0
pub then : (cs ds : List Check) → numbered cs ≡ true → cond (not (eqb (first_of cs) 0)) (first_of cs) (first_of ds) ≡ first_of (cs ++ ds)
then [] ds p = refl
then (c ∷ cs) ds p = go c.0 (then cs ds (and_right (ltb 0 c.1) (numbered cs) p))
  where
    go : (b : Bool) → cond (not (eqb (first_of cs) 0)) (first_of cs) (first_of ds) ≡ first_of (cs ++ ds)
        → cond (not (eqb (cond b c.1 (first_of cs)) 0)) (cond b c.1 (first_of cs)) (first_of ds) ≡ cond b c.1 (first_of (cs ++ ds))
    go true ih = rw (ne_eqb c.1 0 (λ e. omega (arith, ltb-true 0 c.1 (and_left (ltb 0 c.1) (numbered cs) p))))
    go false ih = ih

-- a test of the last entry's time
pub of_last : (p : ℤ → Bool) (l : List LogEntry) → some_with p (last_time l) ≡ some_with (λ (e : LogEntry). p e.time) (last_of l)
of_last p l = go (last_of l)
  where
    go : (o : Option LogEntry) → some_with p (elim o [ none ↦ none | some e ↦ some e.time ]) ≡ some_with (λ (e : LogEntry). p e.time) o
    go none = refl
    go (some e) = refl

pub number : (tolerance : ℤ) (s : Snapshot) (st : State) {held low early late : Bool} {rows n : ℕ} → held ≡ holds_snapshot st.metadata.snapshots s.id
    → low ≡ too_low s st.metadata.fields
    → early ≡ before_entry tolerance s st.metadata.snapshot_log
    → late ≡ is_before tolerance s.time (latest st)
    → rows ≡ first_of (row_checks s st.metadata.fields)
    → n ≡ length st.metadata.snapshots
    → cond held 5 (cond low 6 (cond early 7 (cond late 8 (cond (not (eqb rows 0)) rows (cond (leb 64 n) 19 0))))) ≡ first_of (add_snapshot_checks tolerance s st)
unfolding add_snapshot_checks
number tolerance s st h5 h6 h7 h8 hr hn =
    rw (h5, h6, h7, h8, hr, hn, then (row_checks s st.metadata.fields) ((leb 64 (length st.metadata.snapshots), 19) ∷ []) refl)

-- where no check fails, none of the row range does
pub rows_passed : (tolerance : ℤ) (s : Snapshot) (st : State) → first_of (add_snapshot_checks tolerance s st) ≡ 0 → first_of (row_checks s st.metadata.fields) ≡ 0
unfolding add_snapshot_checks
rows_passed tolerance s st z =
    let front : List Check =
    (holds_snapshot st.metadata.snapshots s.id, 5)
    ∷ (too_low s st.metadata.fields, 6)
    ∷ (before_entry tolerance s st.metadata.snapshot_log, 7)
    ∷ (is_before tolerance s.time (latest st), 8)
    ∷ [] in
    let rows : List Check = row_checks s st.metadata.fields in
    let full : List Check = (leb 64 (length st.metadata.snapshots), 19) ∷ [] in
    passed_before rows full (passed_after front (rows ++ full) refl z)
