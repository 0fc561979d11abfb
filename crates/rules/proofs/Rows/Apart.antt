-- Metadata that is apart stays so: an addition at version 3 begins at or after next row id, by which every held range ends.
use Prim.Native.Nat.{ℕ, suc, ◌≤◌}
use native.Mathlib.Omega.{arith}
use mathlib.Core.Path.{◌≡◌, refl, sym, ap, ◌∙◌, subst}
use mathlib.Core.Bool.{Bool, true, not, ◌||◌}
use mathlib.Core.List.{List, [], ◌∷◌}
use mathlib.Core.Option.{Option, none, some}
use lib.Dec.{eqb, leb}
use lib.IntN.{ℤ}
use borrow.Author.Tests.{leb-true, le-leb, eqb-true, eq-eqb}
use Rattle.rules.specs.Words.{if_some, all, is_in, each_pair}
use Rattle.rules.specs.Replies.{accepted}
use Rattle.rules.specs.Register.{RowRange, Snapshot, FileEntry, Metadata, Update, Terms, State}
use Rattle.rules.specs.Register.Outcome.{Accepted}
use Rattle.rules.specs.WellFormed.{snapshot_below}
use Rattle.rules.specs.SnapshotUpdates.{is_version3, add_snapshot, without_snapshots}
use Rattle.rules.specs.Updates.{update_number, effect}
use Rattle.rules.specs.Close.{closed}
use Rattle.rules.specs.Run.{run_from, started, closing_log, run}
use Rattle.rules.specs.Run.Ran.{Reached}
use Rattle.rules.specs.Rows.{next_row_of, end_of, are_disjoint, rows_disjoint, rows_end_by, is_apart}
use Rattle.rules.proofs.Checks.{only_then, or_left, or_right, Hold, parts, whole}
use Rattle.rules.proofs.Tables.{all_then, all_keep, all_put, pairs_keep, pairs_put}
use Rattle.rules.proofs.Sound.Accepted.{Ends, run_accepted}
use Rattle.rules.proofs.Sound.Run.{not_reached, same_state}
use Rattle.rules.proofs.Rows.Updates.{View, Keeps, Ranged, add_ranged, add_reaches, Step, leaves, removes, adds, effect_step}

-- the test passed, part by part
pub record Passes (m : Metadata) : Type 0 where
  pub version : m.fields.version ≡ 3
  pub ranges : each_pair rows_disjoint m.snapshots ≡ true
  pub ends : all (rows_end_by (next_row_of m)) m.snapshots ≡ true

-- the parts of the test after the first
abbrev further_parts : Metadata → List Bool
further_parts m = each_pair rows_disjoint m.snapshots ∷ all (rows_end_by (next_row_of m)) m.snapshots ∷ []

pub apart_passes : (m : Metadata) → is_apart m ≡ true → Passes m
unfolding is_apart
apart_passes m h =
    let k : Hold (is_version3 m.fields ∷ further_parts m) = parts (is_version3 m.fields) (further_parts m) h in
    record { version = eqb-true m.fields.version 3 k.0; ranges = k.1.0; ends = k.1.1.0 }

pub passes_apart : (m : Metadata) → Passes m → is_apart m ≡ true
unfolding is_apart
passes_apart m a = whole (is_version3 m.fields) (further_parts m) (eq-eqb m.fields.version 3 a.version, (a.ranges, (a.ends, tt)))

apart_kept : (a b : State) → Keeps a b → Passes a.metadata → Passes b.metadata
apart_kept a b k p =
    record {
      version = ap (λ (v : View). v.version) k ∙ p.version;
      ranges = subst (λ (v : View). each_pair rows_disjoint v.held ≡ true) (sym k) p.ranges;
      ends = subst (λ (v : View). all (rows_end_by v.next_row.0) v.held ≡ true) (sym k) p.ends;
    }

-- ---- a removal

without_apart : (ids : List ℤ) (st : State) → Passes st.metadata → Passes (without_snapshots ids st).metadata
without_apart ids st p =
    let m : Metadata = st.metadata in
    let stays : Snapshot → Bool = λ s. not (is_in ids s.id) in
    record { version = p.version; ranges = pairs_keep rows_disjoint stays m.snapshots p.ranges; ends = all_keep (rows_end_by (next_row_of m)) stays m.snapshots p.ends }

-- ---- an addition

-- a range that ends by the beginning of another is disjoint from it, either way round
after_disjoint : (a b : RowRange) → end_of a ≤ b.first.0 → (are_disjoint a b ≡ true) × (are_disjoint b a ≡ true)
after_disjoint a b h =
    let e : leb (end_of a) b.first.0 ≡ true = le-leb (end_of a) b.first.0 h in
    (or_left (leb (end_of b) a.first.0) (or_right (eqb a.added 0 || eqb b.added 0) e), or_right (eqb b.added 0 || eqb a.added 0 || leb (end_of b) a.first.0) e)

module _ (s : Snapshot) (next : ℕ) (k : Ranged s next) where
  -- the new snapshot and a held one, whose range ends by next row id
  new_disjoint : (t : Snapshot) → rows_end_by next t ≡ true → (rows_disjoint s t ≡ true) × (rows_disjoint t s ≡ true)
  new_disjoint t h = rw k.has (by_rows t.rows h)
    where
      by_rows : (o : Option RowRange) → if_some (λ (a : RowRange). leb (end_of a) next) o ≡ true
          → (if_some (are_disjoint k.range) o ≡ true) × (if_some (λ (a : RowRange). if_some (are_disjoint a) (some k.range)) o ≡ true)
      by_rows none h = (refl, refl)
      by_rows (some a) h = let p = after_disjoint a k.range (omega (arith, leb-true (end_of a) next h, k.begins)) in (p.1, p.0)

  -- a held range ends by the new next row id too
  ends_later : (t : Snapshot) → rows_end_by next t ≡ true → rows_end_by (end_of k.range) t ≡ true
  ends_later t h = by_rows t.rows h
    where
      by_rows : (o : Option RowRange) → if_some (λ (a : RowRange). leb (end_of a) next) o ≡ true → if_some (λ (a : RowRange). leb (end_of a) (end_of k.range)) o ≡ true
      by_rows none h = refl
      by_rows (some a) h = le-leb (end_of a) (end_of k.range) (omega (arith, leb-true (end_of a) next h, k.begins))

  new_ends : rows_end_by (end_of k.range) s ≡ true
  new_ends = rw k.has (le-leb (end_of k.range) (end_of k.range) (omega arith))

add_apart : (s : Snapshot) (st : State) → Ranged s (next_row_of st.metadata) → Passes st.metadata → Passes (add_snapshot s st).metadata
unfolding add_snapshot
add_apart s st k p =
    let l : List Snapshot = st.metadata.snapshots in
    let next : ℕ = next_row_of st.metadata in
    record {
      version = p.version;
      ranges =
          pairs_put rows_disjoint snapshot_below s l
          (all_then (rows_end_by next) (rows_disjoint s) (λ t h. (new_disjoint s next k t h).0) l p.ends)
          (all_then (rows_end_by next) (λ t. rows_disjoint t s) (λ t h. (new_disjoint s next k t h).1) l p.ends)
          p.ranges;
      ends =
          rw (add_reaches s st k.range p.version k.has)
          (all_put snapshot_below (rows_end_by (end_of k.range)) s l (new_ends s next k) (all_then (rows_end_by next) (rows_end_by (end_of k.range)) (ends_later s next k) l p.ends));
    }

-- ---- a run

step_apart : (st st' : State) (new : List Snapshot) → Step st st' new → Passes st.metadata → Passes st'.metadata
step_apart st st' new (leaves k) p = apart_kept st st' k p
step_apart st st' new (removes ids k) p = apart_kept (without_snapshots ids st) st' k (without_apart ids st p)
step_apart st st' new (adds tolerance s e k) p = apart_kept (add_snapshot s st) st' k (add_apart s st (add_ranged tolerance s st p.version e) p)

run_apart : (terms : Terms) (us : List Update) (place : ℕ) (st st' : State) → run_from terms us place st ≡ Reached st' → Passes st.metadata → Passes st'.metadata
unfolding run_from
run_apart terms [] place st st' e p = subst (λ (x : State). Passes x.metadata) (same_state st st' e) p
run_apart terms (u ∷ us) place st st' e p =
    let k = only_then (eqb (update_number terms u st) accepted) (not_reached (update_number terms u st) place st') e in
    let next : State = effect terms u st in
    run_apart terms us (suc place) next st' k.1 (step_apart st next _ (effect_step terms u st (eqb-true (update_number terms u st) accepted k.0) p.version) p)

-- the close leaves version, next row id and snapshots
closed_apart : (terms : Terms) (log : List Update) (st : State) → Passes st.metadata → Passes (closed terms log st)
unfolding closed
closed_apart terms log st p = record { version = p.version; ranges = p.ranges; ends = p.ends }

-- an accepted run from metadata that is apart answers metadata that is apart
pub apart_stays : (terms : Terms) (m : Metadata) (us : List Update) (m' : Metadata) (log : List Update) (expired : List FileEntry) → run terms m us ≡ Accepted m' log expired → is_apart m ≡ true → is_apart m' ≡ true
apart_stays terms m us m' log expired e h =
    let k : Ends terms m' log expired m us = run_accepted terms m' log expired m us e in
    passes_apart m' (subst Passes k.closes.metadata (closed_apart terms (closing_log terms k.end) k.end (run_apart terms us 0 (started m) k.end k.reached (apart_passes m h))))
