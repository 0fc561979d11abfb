-- No row id twice: document 02, request (xiii). At version 3 the version stays, each addition begins at or after next row id, and next row id
-- becomes its end; so over any sequence of runs the ranges that are added climb, and no row id lies in two of them.
use Prim.Native.Nat.{ℕ, suc, ◌<◌}
use mathlib.Core.Path.{◌≡◌, refl, sym, ap, ◌∙◌, subst}
use mathlib.Core.Bool.{Bool, true, not}
use mathlib.Core.List.{List, [], ◌∷◌, ◌++◌, append-nil, append_assoc}
use mathlib.Core.Option.{some}
use lib.Dec.{eqb}
use lib.IntN.{ℤ, pos}
use borrow.Author.Tests.{eqb-true, le-leb}
use Rattle.rules.specs.Words.{all, is_in}
use Rattle.rules.specs.Replies.{accepted}
use Rattle.rules.specs.RowIds.{range_end}
use Rattle.rules.specs.Register.{RowRange, Snapshot, FileEntry, Metadata, Update, Terms, State, Outcome}
use Rattle.rules.specs.Register.Outcome.{Refused, Accepted}
use Rattle.rules.specs.Register.Update.{UpgradeFormatVersion, AddSnapshot, SetBranchSnapshot, RemoveSnapshots}
use Rattle.rules.specs.WellFormed.{snapshot_below}
use Rattle.rules.specs.SnapshotUpdates.{add_snapshot, without_snapshots}
use Rattle.rules.specs.Updates.{update_number, effect}
use Rattle.rules.specs.Close.{closed}
use Rattle.rules.specs.Run.{run_from, started, closing_log, run}
use Rattle.rules.specs.Run.Ran.{Reached}
use Rattle.rules.specs.Rows.{new_snapshots, has_rows, ranges_of, Given, answered_from, added_by, added_over, end_over, next_row_of, end_of, climbs, Ascend, Disjoint}
use Rattle.rules.specs.Examples.{snap_rows, draft, clock_at, terms, file_terms, empty}
use Rattle.rules.proofs.Examples.{computed}
use Rattle.rules.proofs.Checks.{only_then}
use Rattle.rules.proofs.Tables.{all_head, all_append, all_parts, all_keep, all_put}
use Rattle.rules.proofs.Sound.Accepted.{Ends, run_accepted}
use Rattle.rules.proofs.Sound.Run.{not_reached, same_state}
use Rattle.rules.proofs.Rows.Ranges.{reached, ranges_append, reached_append, climbs_append, climbs_ascend, ascend_disjoint}
use Rattle.rules.proofs.Rows.Updates.{View, Keeps, new_none, new_append, Ranged, add_ranged, add_reaches, Step, leaves, removes, adds, effect_step}

-- after an addition next row id is above every row id of its range; of other ranges this says nothing (`next_above_all` does, of metadata that is apart)
pub next_above_range : (s : Snapshot) (st : State) (r : RowRange) → st.metadata.fields.version ≡ 3 → s.rows ≡ some r
    → (row : ℕ) → row < range_end r.first r.added → row < (add_snapshot s st).metadata.fields.next_row.0
next_above_range s st r v e row h = rw (add_reaches s st r v e) h

-- ---- from metadata to metadata, with snapshots added

-- it ends at version 3, each snapshot has a range, the ranges climb from the first next row id, and the last next row id is the number that they reach;
-- what holds of each snapshot held before and of each that is added holds of each held after, so nothing else is held
pub record Adds (m m' : Metadata) (new : List Snapshot) : Type 0 where
  pub version : m'.fields.version ≡ 3
  pub ranged : all has_rows new ≡ true
  pub climb : climbs (next_row_of m) (ranges_of new) ≡ true
  pub next : next_row_of m' ≡ reached (next_row_of m) (ranges_of new)
  pub holds : (p : Snapshot → Bool) → all p m.snapshots ≡ true → all p new ≡ true → all p m'.snapshots ≡ true

pub adds_none : (m : Metadata) → m.fields.version ≡ 3 → Adds m m []
adds_none m v = record { version = v; ranged = refl; climb = refl; next = refl; holds = λ p h n. h }

-- one after the other
pub adds_on : (a b c : Metadata) (xs ys : List Snapshot) → Adds a b xs → Adds b c ys → Adds a c (xs ++ ys)
adds_on a b c xs ys p q =
    record {
      version = q.version;
      ranged = all_append has_rows xs ys p.ranged q.ranged;
      climb = rw (ranges_append xs ys) (climbs_append (next_row_of a) (ranges_of xs) (ranges_of ys) p.climb (rw p.next at q.climb));
      next = q.next ∙ ap (λ (n : ℕ). reached n (ranges_of ys)) p.next ∙ sym (ap (reached (next_row_of a)) (ranges_append xs ys) ∙ reached_append (next_row_of a) (ranges_of xs) (ranges_of ys));
      holds = λ t h n. let k = all_parts t xs ys n in q.holds t (p.holds t h k.0) k.1;
    }

-- ---- from state to state, the snapshots logged

pub record Takes (st st' : State) (new : List Snapshot) : Type 0 where
  pub adds : Adds st.metadata st'.metadata new
  pub logged : new_snapshots st'.log ≡ new_snapshots st.log ++ new

takes_none : (st : State) → st.metadata.fields.version ≡ 3 → Takes st st []
takes_none st v = record { adds = adds_none st.metadata v; logged = sym (append-nil (new_snapshots st.log)) }

takes_on : (a b c : State) (xs ys : List Snapshot) → Takes a b xs → Takes b c ys → Takes a c (xs ++ ys)
takes_on a b c xs ys p q =
    record {
      adds = adds_on a.metadata b.metadata c.metadata xs ys p.adds q.adds;
      logged = q.logged ∙ ap (λ (l : List Snapshot). l ++ ys) p.logged ∙ append_assoc (new_snapshots a.log) xs ys;
    }

-- what is taken to a state is taken to any state with the same version, next row id, snapshots and additions
takes_kept : (a b c : State) (new : List Snapshot) → Takes a b new → Keeps b c → Takes a c new
takes_kept a b c new p k =
    record {
      adds = record {
        version = ap (λ (v : View). v.version) k ∙ p.adds.version;
        ranged = p.adds.ranged;
        climb = p.adds.climb;
        next = ap (λ (v : View). v.next_row.0) k ∙ p.adds.next;
        holds = λ t h n. subst (λ (v : View). all t v.held ≡ true) (sym k) (p.adds.holds t h n);
      };
      logged = ap (λ (v : View). v.added) k ∙ p.logged;
    }

-- ---- the updates

without_takes : (ids : List ℤ) (st : State) → st.metadata.fields.version ≡ 3 → Takes st (without_snapshots ids st) []
without_takes ids st v =
    record {
      adds = record { version = v; ranged = refl; climb = refl; next = refl; holds = λ p h n. all_keep p (λ s. not (is_in ids s.id)) st.metadata.snapshots h };
      logged = sym (append-nil (new_snapshots st.log));
    }

ranged_takes : (s : Snapshot) (st : State) → st.metadata.fields.version ≡ 3 → Ranged s (next_row_of st.metadata) → Takes st (add_snapshot s st) (s ∷ [])
unfolding add_snapshot new_snapshots
ranged_takes s st v k =
    let r : RowRange = k.range in
    record {
      adds = record {
        version = v;
        ranged = rw k.has;
        climb = rw (k.has, le-leb (next_row_of st.metadata) r.first.0 k.begins, le-leb (end_of r) _ k.ends);
        next = add_reaches s st r v k.has ∙ (rw k.has);
        holds = λ p h n. all_put snapshot_below p s st.metadata.snapshots (all_head p s [] n) h;
      };
      logged = new_append st.log (AddSnapshot s ∷ []);
    }

step_takes : (st st' : State) (new : List Snapshot) → st.metadata.fields.version ≡ 3 → Step st st' new → Takes st st' new
step_takes st st' new v (leaves k) = takes_kept st st st' [] (takes_none st v) k
step_takes st st' new v (removes ids k) = takes_kept st (without_snapshots ids st) st' [] (without_takes ids st v) k
step_takes st st' new v (adds tolerance s e k) = takes_kept st (add_snapshot s st) st' (s ∷ []) (ranged_takes s st v (add_ranged tolerance s st v e)) k

-- ---- a run

run_takes : (terms : Terms) (us : List Update) (place : ℕ) (st st' : State) → run_from terms us place st ≡ Reached st' → st.metadata.fields.version ≡ 3 → Takes st st' (new_snapshots us)
unfolding run_from
run_takes terms [] place st st' e v = subst (λ (x : State). Takes st x (new_snapshots [])) (same_state st st' e) (rw new_none (takes_none st v))
run_takes terms (u ∷ us) place st st' e v =
    let k = only_then (eqb (update_number terms u st) accepted) (not_reached (update_number terms u st) place st') e in
    let next : State = effect terms u st in
    let t : Takes st next (new_snapshots (u ∷ [])) = step_takes st next (new_snapshots (u ∷ [])) v (effect_step terms u st (eqb-true (update_number terms u st) accepted k.0) v) in
    subst (Takes st st') (sym (new_append (u ∷ []) us))
    (takes_on st next st' (new_snapshots (u ∷ [])) (new_snapshots us) t (run_takes terms us (suc place) next st' k.1 t.adds.version))

-- the close leaves version and next row id
closed_adds : (terms : Terms) (log : List Update) (m : Metadata) (st : State) (new : List Snapshot) → Adds m st.metadata new → Adds m (closed terms log st) new
unfolding closed
closed_adds terms log m st new a = record { version = a.version; ranged = a.ranged; climb = a.climb; next = a.next; holds = a.holds }

module _ (terms : Terms) (m : Metadata) (us : List Update) (m' : Metadata) (log : List Update) (expired : List FileEntry) (e : run terms m us ≡ Accepted m' log expired) (v : m.fields.version ≡ 3) where
  ends : Ends terms m' log expired m us
  ends = run_accepted terms m' log expired m us e

  taken : Takes (started m) ends.end (new_snapshots us)
  taken = run_takes terms us 0 (started m) ends.end ends.reached v

  -- the snapshots that an accepted run logs are those of the additions and branch commits of its list, in order
  pub logs_new : new_snapshots log ≡ new_snapshots us
  logs_new = ap new_snapshots (sym ends.closes.logged) ∙ taken.logged ∙ ap (λ (l : List Snapshot). l ++ new_snapshots us) new_none

  -- and these it adds
  pub run_adds : Adds m m' (new_snapshots log)
  run_adds = rw logs_new (subst (λ (x : Metadata). Adds m x (new_snapshots us)) ends.closes.metadata (closed_adds terms (closing_log terms ends.end) m ends.end (new_snapshots us) taken.adds))

-- ---- a sequence of runs

-- an accepted run adds what it logs; a refused one adds none and answers its start
answered_adds : (terms : Terms) (m : Metadata) (us : List Update) (o : Outcome) → run terms m us ≡ o → m.fields.version ≡ 3 → Adds m (answered_from m o) (added_by o)
answered_adds terms m us (Refused number place) e v = adds_none m v
answered_adds terms m us (Accepted m' log expired) e v = run_adds terms m us m' log expired e v

pub over_adds : (m : Metadata) (gs : List Given) → m.fields.version ≡ 3 → Adds m (end_over m gs) (added_over m gs)
unfolding added_over end_over
over_adds m [] v = adds_none m v
over_adds m (g ∷ gs) v =
    let o : Outcome = run g.terms m g.updates in
    let next : Metadata = answered_from m o in
    let a : Adds m next (added_by o) = answered_adds g.terms m g.updates o refl v in
    adds_on m next (end_over next gs) (added_by o) (added_over next gs) a (over_adds next gs a.version)

-- Over any sequence of runs from a start of version 3:
module _ (m : Metadata) (gs : List Given) (v : m.fields.version ≡ 3) where
  -- what holds of each snapshot that is held at the start and of each that is added holds of each that is held at the end: nothing else is held,
  pub held_or_added : (p : Snapshot → Bool) → all p m.snapshots ≡ true → all p (added_over m gs) ≡ true → all p (end_over m gs).snapshots ≡ true
  held_or_added = (over_adds m gs v).holds

  -- every snapshot that is added has a row range,
  pub rows_given : all has_rows (added_over m gs) ≡ true
  rows_given = (over_adds m gs v).ranged

  -- the ranges climb from the starting next row id: each begins at or after it and the end of every earlier one, and ends by 2^64 - 1,
  pub rows_climb : climbs (next_row_of m) (ranges_of (added_over m gs)) ≡ true
  rows_climb = (over_adds m gs v).climb

  pub rows_ascend : Ascend (next_row_of m) (ranges_of (added_over m gs))
  rows_ascend = climbs_ascend (next_row_of m) (ranges_of (added_over m gs)) rows_climb

  -- so no row id lies in two of them, nor in one of them and in a range that ends by the starting next row id
  pub rows_disjoint_lem : Disjoint (next_row_of m) (ranges_of (added_over m gs))
  rows_disjoint_lem = ascend_disjoint (next_row_of m) (ranges_of (added_over m gs)) rows_ascend

-- ---- it is not empty

-- the number of a run's answer
abbrev number_of : Outcome → ℕ
number_of (Refused number place) = number
number_of (Accepted m log expired) = accepted

-- the numbers of the runs of a sequence
abbrev numbers_over : Metadata → List Given → List ℕ
numbers_over m [] = []
numbers_over m (g ∷ gs) = let o : Outcome = run g.terms m g.updates in number_of o ∷ numbers_over (answered_from m o) gs

-- version 3 and next row id 10
abbrev pub from10 : Metadata
from10 = empty 3 10 (pos 0) []

-- rows 10 to 19 and an empty range at 25; version 3 again and rows from 20, which are now behind; the first snapshot removed, and a branch commit of rows 25 to 29
abbrev pub three_runs : List Given
three_runs =
    record { terms = terms; updates = AddSnapshot (snap_rows 1 10 10) ∷ AddSnapshot (snap_rows 2 25 0) ∷ [] }
    ∷ record { terms = clock_at (pos 600000); updates = UpgradeFormatVersion 3 ∷ AddSnapshot (snap_rows 3 20 4) ∷ [] }
    ∷ record { terms = file_terms; updates = RemoveSnapshots (pos 1 ∷ []) ∷ SetBranchSnapshot draft (snap_rows 4 25 5) ∷ [] }
    ∷ []

-- the first and the last are accepted, the second is refused with 9, and the ranges are three, of which one is empty and one of a removed snapshot
pub three_runs_numbers : numbers_over from10 three_runs ≡ 0 ∷ 9 ∷ 0 ∷ []
unfolding computed
three_runs_numbers = refl

pub three_runs_add : added_over from10 three_runs ≡ snap_rows 1 10 10 ∷ snap_rows 2 25 0 ∷ snap_rows 4 25 5 ∷ []
unfolding computed added_over new_snapshots
three_runs_add = refl

pub three_runs_disjoint : Disjoint 10 (ranges_of (snap_rows 1 10 10 ∷ snap_rows 2 25 0 ∷ snap_rows 4 25 5 ∷ []))
three_runs_disjoint = subst (λ (l : List Snapshot). Disjoint 10 (ranges_of l)) three_runs_add (rows_disjoint_lem from10 three_runs refl)
