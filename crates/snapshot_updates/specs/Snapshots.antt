-- Adding and removing snapshots: the checks of a row range, and what the two updates decide.
use Rattle.std.specs.Prelude.{◌≡◌, Bool, true, cond, not, ◌&&◌, List, [], ◌∷◌, eqb, ℤ}
use Rattle.rules.specs.Words.{is_some, is_empty, first_of, Check}
use Rattle.rules.specs.Replies.{no_row_range, first_row_behind, rows_overflow, commit_on_tag}
use Rattle.rules.specs.Register.{Snapshot, SingleFields, State, AddSnapshot, RemoveSnapshots}
use Rattle.rules.specs.SnapshotUpdates.{is_version3, first_behind, range_overflows, add_snapshot_checks, add_snapshot, held_snapshots}
use Rattle.rules.specs.Kinds.{laid_update}
use Rattle.builder.specs.declared.decision.Decision.{Decision}
use Rattle.builder.specs.Pieces.{laid_builder}

-- "version 3 only: 10, 9, 11"
abbrev pub row_checks : Snapshot → SingleFields → List Check
row_checks s f =
    (is_version3 f && not (is_some s.rows), no_row_range)
    ∷ (is_version3 f && first_behind s f, first_row_behind)
    ∷ (is_version3 f && range_overflows s, rows_overflow)
    ∷ []

-- an addition, decided: 13 on a tag, then the rule's checks; the builder after it, and what is logged
pub record SnapshotDecided (onTag : Bool) (tolerance : ℤ) (s : Snapshot) (st : State) (d : Decision) : Type 0 where
  pub number : d.number ≡ cond onTag commit_on_tag (first_of (add_snapshot_checks tolerance s st))
  pub logs : d.logs ≡ true
  pub grows : d.grows ≡ eqb d.number 0
  pub builder : d.number ≡ 0 → d.builder ≡ laid_builder (add_snapshot s st)
  pub entry : d.entry ≡ laid_update (AddSnapshot s)

-- a removal, decided: it is logged, with the held ids, if there are any
pub record SnapshotsGone (asked : List ℤ) (st : State) (d : Decision) : Type 0 where
  pub number : d.number ≡ 0
  pub logs : d.logs ≡ not (is_empty (held_snapshots asked st.metadata.snapshots))
  pub builder : d.builder ≡ laid_builder st
  pub entry : d.entry ≡ laid_update (RemoveSnapshots (held_snapshots asked st.metadata.snapshots))
