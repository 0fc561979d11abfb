-- The schema of the file, and the records by their numbers.
use Prim.Native.Nat.{ℕ, ◌-◌, ◌<◌, ◌≤◌}
use mathlib.Core.Path.{◌≡◌, refl, sym, ap}
use mathlib.Core.Bool.{◌||◌}
use mathlib.Core.List.{[], ◌∷◌}
use borrow.Author.Tests.{eqb-true, le-ltb}
use lib.Dec.{eqb, ltb}
use Rattle.json_members.proofs.Cases.{all_below_lem}
use Rattle.file_cells.specs.Wants.{kind_at, row_at, shape_of, record_in, record_at}
use Rattle.file_members.proofs.Numbers.{or_right, below_at, one_key, shape_past}
use Rattle.file_members.proofs.want.record_of.Statement.{statement}
use Rattle.file_members.proofs.want.record_of.Tie as tie

-- the records follow each other
kind_here : (want : ℕ) → 100 ≤ want → want < 113 → want - 100 ≡ record_at want
unfolding record_at shape_of row_at kind_at
kind_here want h l =
    sym (eqb-true (record_at want) (want - 100) (or_right (ltb want 100) _ (le-ltb want 100 h) (all_below_lem 113 (λ k. ltb k 100 || eqb (record_at k) (k - 100)) refl want l)))

returns_2 : tie.Need-returns-then-want-lt-RECORDS
unfolding record_at shape_of row_at kind_at
returns_2 c =
    let want = c.args.want in
    sym (below_at record_at 13 100 ((7 ∷ []) ∷ []) refl want c.if-want-lt-RECORDS.true (one_key 7 want c.if-want-eq-SCHEMA.false))

returns_3 : tie.Need-returns-then-want-ge-WANTS
unfolding record_at
returns_3 c = sym (ap record_in (shape_past _ c.if-want-ge-WANTS.true))

pub record_of_spec : {M : Type 1} → statement M
unfolding record_at shape_of row_at
record_of_spec =
    tie.close
    (tie.spec
    (λ c. rw c.if-want-eq-SCHEMA.true)
    returns_2
    returns_3
    (λ c. kind_here _ c.if-want-lt-RECORDS.false c.if-want-ge-WANTS.false))
