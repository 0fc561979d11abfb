-- What the test of metadata that is apart says: it passes exactly if the version is 3, no row id lies in two held ranges, and each ends by next row id.
-- It passes and fails: at the start and the end of three runs, and where a held range reaches past next row id.
use Prim.Native.Nat.{ℕ, zero, suc, ◌<◌}
use native.Mathlib.Omega.{arith}
use mathlib.Core.Path.{◌≡◌, refl, sym, ◌∙◌}
use mathlib.Core.Bool.{Bool, true, false, ◌&&◌}
use mathlib.Core.List.{List, [], ◌∷◌, map}
use mathlib.Core.Option.{Option, none, some}
use lib.Dec.{leb}
use lib.IntN.{pos}
use lib.ListN.{length, get_or}
use borrow.Author.Tests.{leb-true, le-leb}
use Rattle.rules.specs.Words.{if_some, all, collect, each_pair}
use Rattle.rules.specs.Register.{RowRange, Snapshot, Metadata}
use Rattle.rules.specs.Run.{run}
use Rattle.rules.specs.Rows.{ranges_of, Given, answered_from, added_over, next_row_of, end_of, has_row, range_at, NoRowTwice, Disjoint, are_disjoint, rows_disjoint, is_apart, MeansApart}
use Rattle.rules.specs.Examples.{snap_rows, register, ranged}
use Rattle.rules.proofs.Examples.{computed}
use Rattle.rules.proofs.Checks.{both}
use Rattle.rules.proofs.Tables.{all_at, pairs_head, pairs_tail}
use Rattle.rules.proofs.Rows.Ranges.{row_placed, earlier_later, disjoint_shares_none, shares_none_disjoint}
use Rattle.rules.proofs.Rows.Runs.{rows_disjoint_lem, from10, three_runs}
use Rattle.rules.proofs.Rows.Apart.{Passes, apart_passes, passes_apart}

-- ---- lists by position

module _ {A : Type 0} (p : A → Bool) (d : A) where
  at_all : (l : List A) → ((i : ℕ) → i < length l → p (get_or l i d) ≡ true) → all p l ≡ true
  at_all [] f = refl
  at_all (x ∷ l) f = both (f 0 (omega arith)) (at_all l (λ i k. f (suc i) (omega arith)))

all_true : {A : Type 0} (l : List A) → all (λ (x : A). true) l ≡ true
all_true [] = refl
all_true (x ∷ l) = all_true l

-- what holds of all that is collected holds of each, where it gives something
all_collect : {A B : Type 0} (f : A → Option B) (p : B → Bool) (l : List A) → all p (collect f l) ≡ all (λ (x : A). if_some p (f x)) l
all_collect f p [] = refl
all_collect {A} {B} f p (x ∷ l) = go (f x) (all_collect f p l)
  where
    go : (o : Option B) → all p (collect f l) ≡ all (λ (y : A). if_some p (f y)) l → all p (elim o [ none ↦ collect f l | some y ↦ y ∷ collect f l ]) ≡ (if_some p o && all (λ (y : A). if_some p (f y)) l)
    go none ih = ih
    go (some b) ih = rw ih

-- ---- the ranges of the snapshots are asked as the snapshots are

ranges_disjoint : (l : List Snapshot) → each_pair are_disjoint (ranges_of l) ≡ each_pair rows_disjoint l
ranges_disjoint [] = refl
ranges_disjoint (s ∷ l) = go s.rows (ranges_disjoint l)
  where
    go : (o : Option RowRange) → each_pair are_disjoint (ranges_of l) ≡ each_pair rows_disjoint l
        → each_pair are_disjoint (elim o [ none ↦ ranges_of l | some r ↦ r ∷ ranges_of l ]) ≡ (all (λ (t : Snapshot). if_some (λ (a : RowRange). if_some (are_disjoint a) t.rows) o) l && each_pair rows_disjoint l)
    go none ih = rw (all_true l) ih
    go (some r) ih = rw (ih, all_collect (λ (t : Snapshot). t.rows) (are_disjoint r) l)

-- ---- ranges by position

-- an earlier range is apart from a later one
disjoint_at : (rs : List RowRange) → each_pair are_disjoint rs ≡ true → (i j : ℕ) → i < j → j < length rs → are_disjoint (range_at rs i) (range_at rs j) ≡ true
disjoint_at [] h i j k l = absurd (omega arith)
disjoint_at (r ∷ rs) h i zero k l = absurd (omega arith)
disjoint_at (r ∷ rs) h zero (suc j) k l = all_at (are_disjoint r) _ rs (pairs_head are_disjoint r rs h) j (omega arith)
disjoint_at (r ∷ rs) h (suc i) (suc j) k l = disjoint_at rs (pairs_tail are_disjoint r rs h) i j (omega arith) (omega arith)

disjoint_no_row_twice : (rs : List RowRange) → each_pair are_disjoint rs ≡ true → NoRowTwice rs
disjoint_no_row_twice rs h = earlier_later rs (λ i j row k l. disjoint_shares_none (range_at rs i) (range_at rs j) (disjoint_at rs h i j k l) row)

no_row_twice_disjoint : (rs : List RowRange) → NoRowTwice rs → each_pair are_disjoint rs ≡ true
no_row_twice_disjoint [] f = refl
no_row_twice_disjoint (r ∷ rs) f =
    both
    (at_all (are_disjoint r) _ rs (λ j k. shares_none_disjoint r (range_at rs j) (λ row p q. let z : ◌≡◌ {A = ℕ} 0 (suc j) = f 0 (suc j) row p q in omega arith)))
    (no_row_twice_disjoint rs (λ i j row p q. let e : suc i ≡ suc j = f (suc i) (suc j) row p q in omega arith))

-- ---- the test

module _ (m : Metadata) where
  abbrev ends_by : RowRange → Bool
  ends_by r = leb (end_of r) (next_row_of m)

  pub apart_means : is_apart m ≡ true → MeansApart m
  apart_means h =
      let k : Passes m = apart_passes m h in
      let rs : List RowRange = ranges_of m.snapshots in
      record {
        version = k.version;
        no_row_twice = disjoint_no_row_twice rs (ranges_disjoint m.snapshots ∙ k.ranges);
        ends = λ i l. leb-true (end_of (range_at rs i)) (next_row_of m) (all_at ends_by _ rs (all_collect (λ (s : Snapshot). s.rows) ends_by m.snapshots ∙ k.ends) i l);
      }

  pub means_apart : MeansApart m → is_apart m ≡ true
  means_apart a =
      let rs : List RowRange = ranges_of m.snapshots in
      passes_apart m
      (record {
        version = a.version;
        ranges = sym (ranges_disjoint m.snapshots) ∙ no_row_twice_disjoint rs a.no_row_twice;
        ends = sym (all_collect (λ (s : Snapshot). s.rows) ends_by m.snapshots) ∙ at_all ends_by _ rs (λ i l. le-leb (end_of (range_at rs i)) (next_row_of m) (a.ends i l));
      })

-- what shares no row with a range that ends by next row id shares none with a held one, where metadata is apart
pub disjoint_from_held : (m : Metadata) (rs : List RowRange) → is_apart m ≡ true → Disjoint (next_row_of m) rs
    → (i j row : ℕ) → has_row (range_at rs i) row ≡ true → has_row (range_at (ranges_of m.snapshots) j) row ≡ true → ⊥
disjoint_from_held m rs h d i j row p q =
    let held : List RowRange = ranges_of m.snapshots in
    d.from_below (range_at held j) ((apart_means m h).ends j (row_placed held j row q)) i row p q

-- so from metadata that is apart no run of a sequence gives out a row id that was held at the start
pub rows_never_held : (m : Metadata) (gs : List Given) → is_apart m ≡ true
    → (i j row : ℕ) → has_row (range_at (ranges_of (added_over m gs)) i) row ≡ true → has_row (range_at (ranges_of m.snapshots) j) row ≡ true → ⊥
rows_never_held m gs h = disjoint_from_held m (ranges_of (added_over m gs)) h (rows_disjoint_lem m gs (apart_means m h).version)

-- ---- it passes and fails

-- the test of a start and of what each run of a sequence answers
abbrev apart_over : Metadata → List Given → List Bool
apart_over m [] = is_apart m ∷ []
apart_over m (g ∷ gs) = is_apart m ∷ apart_over (answered_from m (run g.terms m g.updates)) gs

pub three_runs_apart : apart_over from10 three_runs ≡ true ∷ true ∷ true ∷ true ∷ []
unfolding computed is_apart
three_runs_apart = refl

-- version 3 and next row id 9, with snapshots of these ranges
abbrev holding : Snapshot → Snapshot → Metadata
holding s t = register 3 2 9 (pos 0) (s ∷ t ∷ []) none [] [] []

-- Rows 0 to 3 are held: apart if next row id is 4, not if it is 0, nor at version 2. Next row id is 9: rows 0 to 3 and rows 4 to 8, in either order of
-- the table; not rows 0 to 3 and rows 3 to 8, in either order; rows 0 to 3 and an empty range among them; not rows 0 to 3 and rows 4 to 9.
pub apart_examples :
    map is_apart
    (ranged 3 4
    ∷ ranged 3 0
    ∷ ranged 2 4
    ∷ holding (snap_rows 1 0 4) (snap_rows 2 4 5)
    ∷ holding (snap_rows 1 4 5) (snap_rows 2 0 4)
    ∷ holding (snap_rows 1 0 4) (snap_rows 2 3 6)
    ∷ holding (snap_rows 1 3 6) (snap_rows 2 0 4)
    ∷ holding (snap_rows 1 0 4) (snap_rows 2 2 0)
    ∷ holding (snap_rows 1 0 4) (snap_rows 2 4 6)
    ∷ [])
    ≡ true ∷ false ∷ false ∷ true ∷ true ∷ false ∷ false ∷ true ∷ false ∷ []
unfolding is_apart
apart_examples = refl
