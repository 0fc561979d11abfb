-- Next row id is above all row ids that were assigned: of metadata that is apart each held range ends by it, and a run from there leaves it at or after the end of each range that it adds.
use Prim.Native.Nat.{◌≤◌}
use native.Mathlib.Omega.{arith}
use mathlib.Core.Path.{◌≡◌, refl}
use mathlib.Core.Bool.{true}
use mathlib.Core.List.{List, [], ◌∷◌}
use Rattle.rules.specs.Register.{Snapshot, Metadata, Update, Terms, Outcome}
use Rattle.rules.specs.Register.Outcome.{Refused, Accepted}
use Rattle.rules.specs.Register.Update.{AddSnapshot}
use Rattle.rules.specs.Run.{run}
use Rattle.rules.specs.Rows.{ranges_of, Given, answered_from, added_over, end_over, next_row_of, has_row, range_at, AboveAll, is_apart}
use Rattle.rules.specs.Examples.{snap_rows, terms, ranged}
use Rattle.rules.proofs.Examples.{computed}
use Rattle.rules.proofs.Rows.Ranges.{reached_grows, ends_by_reached, ends_above}
use Rattle.rules.proofs.Rows.Runs.{Adds, over_adds}
use Rattle.rules.proofs.Rows.Apart.{apart_stays}
use Rattle.rules.proofs.Rows.ApartExactly.{apart_means}

-- from metadata that is apart to metadata that is apart, with snapshots added
pub adds_above : (m m' : Metadata) (new : List Snapshot) → is_apart m ≡ true → is_apart m' ≡ true → Adds m m' new
    → AboveAll (next_row_of m') (ranges_of m.snapshots) (ranges_of new) (ranges_of m'.snapshots)
adds_above m m' new h h' a =
    let grows : next_row_of m ≤ next_row_of m' = rw a.next (reached_grows (next_row_of m) (ranges_of new) a.climb) in
    record {
      of_start = ends_above (next_row_of m') (ranges_of m.snapshots) (λ j l. omega (arith, (apart_means m h).ends j l));
      of_added = rw a.next (ends_above _ (ranges_of new) (ends_by_reached (next_row_of m) (ranges_of new) a.climb));
      of_end = ends_above (next_row_of m') (ranges_of m'.snapshots) (apart_means m' h').ends;
    }

answered_apart : (terms : Terms) (m : Metadata) (us : List Update) (o : Outcome) → run terms m us ≡ o → is_apart m ≡ true → is_apart (answered_from m o) ≡ true
answered_apart terms m us (Refused number place) e h = h
answered_apart terms m us (Accepted m' log expired) e h = apart_stays terms m us m' log expired e h

over_apart : (m : Metadata) (gs : List Given) → is_apart m ≡ true → is_apart (end_over m gs) ≡ true
unfolding end_over
over_apart m [] h = h
over_apart m (g ∷ gs) h = over_apart (answered_from m (run g.terms m g.updates)) gs (answered_apart g.terms m g.updates _ refl h)

-- after any sequence of runs from metadata that is apart next row id is above every row id that was held at the start, was added, removed since or not, or is held
pub next_above_all : (m : Metadata) (gs : List Given) → is_apart m ≡ true
    → AboveAll (next_row_of (end_over m gs)) (ranges_of m.snapshots) (ranges_of (added_over m gs)) (ranges_of (end_over m gs).snapshots)
next_above_all m gs h = adds_above m (end_over m gs) (added_over m gs) h (over_apart m gs h) (over_adds m gs (apart_means m h).version)

-- ---- it needs metadata that is apart

-- next row id is 0 and rows 0 to 3 are held: row 0 is given out again, next row id is then 1, and row 3 is still held
abbrev one_row : List Given
one_row = record { terms = terms; updates = AddSnapshot (snap_rows 2 0 1) ∷ [] } ∷ []

pub not_above_held : (next_row_of (end_over (ranged 3 0) one_row) ≡ 1) × (has_row (range_at (ranges_of (end_over (ranged 3 0) one_row).snapshots) 0) 3 ≡ true)
unfolding computed end_over
not_above_held = (refl, refl)
