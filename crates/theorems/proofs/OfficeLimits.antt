-- What is not promised of two offices: of each the smallest runs that show it, computed by the rules. docs/AUDIT.md, section 4, tells them.
use Prim.Native.Nat.{ℕ}
use mathlib.Core.Path.{◌≡◌, refl}
use mathlib.Core.Bool.{true, false}
use mathlib.Core.List.{List, [], ◌∷◌, map}
use mathlib.Core.Option.{Option, none, some}
use lib.IntN.{ℤ, pos}
use Rattle.rules.specs.Register.{Snapshot, Metadata, Update}
use Rattle.rules.specs.Register.Update.{AddSnapshot, SetBranchSnapshot, RemoveSnapshots, SetRef, RemoveRef}
use Rattle.rules.specs.Walk.{Walk, Listed, Twice, ancestors, record_ancestors}
use Rattle.rules.specs.Moment.{is_whole}
use Rattle.rules.specs.Run.{run}
use Rattle.rules.specs.Rows.{answered_from}
use Rattle.rules.specs.Examples.{terms, second_terms, snap, snap_rows, adding, entry, branch_to, draft, extra, main_at, register, three, empty, crowded, number_of}
use Rattle.rules.proofs.Examples.{computed}

-- what office 2 leads to with a list, and then office 1 with others
abbrev by_office₂ : Metadata → List Update → Metadata
by_office₂ m us = answered_from m (run second_terms m us)

abbrev by_office₁ : Metadata → List Update → Metadata
by_office₁ m us = answered_from m (run terms m us)

abbrev ids_of : Metadata → List ℤ
ids_of m = map (λ (s : Snapshot). s.id) m.snapshots

abbrev removal : ℕ → List Update
removal id = RemoveSnapshots (pos id ∷ []) ∷ []

-- ---- open walks

-- `main` is at 1, whose parent 7 is not held
abbrev orphan : Metadata
orphan = register 2 1 0 (pos 0) (snap 1 (some (pos 7)) 1 (pos 0) ∷ []) (some (pos 1)) (main_at 1) (entry 1 0 ∷ []) []

abbrev walk_of : Metadata → Walk
walk_of m = record_ancestors m.snapshots (pos 1) none

-- office 2 adds 7
abbrev seven : Option ℤ → Snapshot
seven parent = snap 7 parent 2 (pos 0)

-- the walk was 1 and is 1, 7
pub open_walk_grows : map walk_of (orphan ∷ by_office₂ orphan (AddSnapshot (seven none) ∷ []) ∷ []) ≡ Listed (pos 1 ∷ []) ∷ Listed (pos 1 ∷ pos 7 ∷ []) ∷ []
unfolding computed ancestors
open_walk_grows = refl

-- where the parent of 7 is 1 the walk is refused
pub open_walk_cycles : walk_of (by_office₂ orphan (AddSnapshot (seven (some (pos 1))) ∷ [])) ≡ Twice
unfolding computed ancestors
open_walk_cycles = refl

-- office 2 commits that 7 to `d`: office 1 can remove neither 1 nor 7, nor drop `d`
abbrev knotted : Metadata
knotted = by_office₂ orphan (SetBranchSnapshot draft (seven (some (pos 1))) ∷ [])

pub knot_holds : map (number_of terms knotted) (RemoveSnapshots (pos 1 ∷ []) ∷ RemoveSnapshots (pos 7 ∷ []) ∷ RemoveRef draft ∷ []) ≡ 35 ∷ 35 ∷ 35 ∷ []
unfolding computed
knot_holds = refl

-- until office 2 drops `d` and office 1 removes 7: then the walk is what it was
pub knot_undone : walk_of (by_office₁ (by_office₂ knotted (RemoveRef draft ∷ [])) (removal 7)) ≡ Listed (pos 1 ∷ [])
unfolding computed ancestors
knot_undone = refl

-- ---- what both share

-- office 2 makes a ref at the tip of `main`: office 1 can remove nothing of the chain, nor drop that ref
pub chain_held : map (number_of terms (by_office₂ three (SetRef draft (branch_to 3) ∷ []))) (RemoveSnapshots (pos 1 ∷ []) ∷ RemoveSnapshots (pos 2 ∷ []) ∷ RemoveSnapshots (pos 3 ∷ []) ∷ RemoveRef draft ∷ []) ≡ 35 ∷ 35 ∷ 35 ∷ 35 ∷ []
unfolding computed
chain_held = refl

-- with room for one more snapshot, or for one more ref, office 2 takes it, and office 1 is refused with 19
pub tables_filled : number_of terms (by_office₂ (crowded 63 0 0 0 1 1 1 1 0 0) (adding 70 0 ∷ [])) (adding 71 0) ∷ number_of terms (by_office₂ (crowded 1 15 0 0 1 1 1 1 0 0) (SetRef draft (branch_to 0) ∷ [])) (SetRef extra (branch_to 0)) ∷ [] ≡ 19 ∷ 19 ∷ []
unfolding computed
tables_filled = refl

-- the largest sequence number, with which no snapshot that names a parent is accepted; one that names none sets it back
abbrev highest : Metadata
highest = by_office₂ three (AddSnapshot (snap 4 none 9223372036854775807 (pos 400000)) ∷ [])

pub sequence_moved : map (number_of terms highest) (AddSnapshot (snap 5 (some (pos 3)) 9223372036854775807 (pos 400000)) ∷ AddSnapshot (snap 5 none 6 (pos 400000)) ∷ []) ≡ 6 ∷ 0 ∷ []
unfolding computed
sequence_moved = refl

-- a time far ahead, after which office 1's snapshots are refused with 8, until a run of its own without snapshots sets the last update to its clock reading
abbrev ahead : Metadata
ahead = by_office₂ three (adding 4 9000000 ∷ [])

pub update_moved : number_of terms ahead (adding 6 500000) ∷ number_of terms (by_office₁ ahead []) (adding 6 500000) ∷ [] ≡ 8 ∷ 0 ∷ []
unfolding computed
update_moved = refl

-- at version 3 the last row id: a further range has no rows, or is refused with 9 or 11
abbrev spent : Metadata
spent = by_office₂ (empty 3 0 (pos 0) []) (AddSnapshot (snap_rows 1 18446744073709551615 0) ∷ [])

pub rows_spent : map (number_of terms spent) (AddSnapshot (snap_rows 2 0 1) ∷ AddSnapshot (snap_rows 2 18446744073709551615 1) ∷ AddSnapshot (snap_rows 2 18446744073709551615 0) ∷ []) ≡ 9 ∷ 11 ∷ 0 ∷ []
unfolding computed
rows_spent = refl

-- what no ref of an office reaches the other may remove, office 2 where the history does not name it: 4, added by the one, goes by the other
pub unnamed_removed : map ids_of (by_office₂ three (adding 4 400000 ∷ []) ∷ by_office₁ (by_office₂ three (adding 4 400000 ∷ [])) (removal 4) ∷ by_office₂ (by_office₁ three (adding 4 400000 ∷ [])) (removal 4) ∷ [])
    ≡ (pos 1 ∷ pos 2 ∷ pos 3 ∷ pos 4 ∷ []) ∷ (pos 1 ∷ pos 2 ∷ pos 3 ∷ []) ∷ (pos 1 ∷ pos 2 ∷ pos 3 ∷ []) ∷ []
unfolding computed
unnamed_removed = refl

-- ---- the history

-- 1 and 2 are held, `main` is at 1, and the history is 5, 1
abbrev gone : Metadata
gone = register 2 2 0 (pos 0) (snap 1 none 1 (pos 0) ∷ snap 2 none 2 (pos 0) ∷ []) (some (pos 1)) (main_at 1) (entry 5 0 ∷ entry 1 0 ∷ []) []

-- office 1 removes 2, and the history is 1; it is 5, 1 where office 2 added 5 before
pub next_rebuild : map (λ (m : Metadata). (by_office₁ m (removal 2)).snapshot_log) (gone ∷ by_office₂ gone (adding 5 0 ∷ []) ∷ []) ≡ (entry 1 0 ∷ []) ∷ (entry 5 0 ∷ entry 1 0 ∷ []) ∷ []
unfolding computed
next_rebuild = refl

-- a removal of office 2 does not make the history whole, as `run_whole_after_removal` says of office 1: 1 is held, the history is 5
abbrev unwhole : Metadata
unwhole = register 2 1 0 (pos 0) (snap 1 none 1 (pos 0) ∷ []) none [] (entry 5 0 ∷ []) []

pub not_whole_after_removal : ((by_office₂ unwhole (removal 1)).snapshots ≡ []) × (is_whole (by_office₂ unwhole (removal 1)) ≡ false) × (is_whole (by_office₁ unwhole (removal 1)) ≡ true)
unfolding computed is_whole
not_whole_after_removal = (refl, refl, refl)
