-- The numbers of members, records and wants: past the last there is nothing, so what holds of all is one test of those before.
use Prim.Native.Nat.{ℕ, zero, suc, ◌-◌, ◌≤◌, ◌<◌}
use mathlib.Core.Path.{◌≡◌, refl, ap}
use mathlib.Core.Bool.{Bool, true, false, ◌||◌, true≢false}
use mathlib.Core.List.{List, [], ◌∷◌}
use mathlib.Core.Option.{none}
use native.Mathlib.Omega.{arith}
use borrow.Author.Tests.{eqb-true, ne_eqb, le-ltb, leb-true, leb-false}
use borrow.Table.Steps.{cases}
use lib.Dec.{eqb, leb}
use lib.ListN.{length}
use Rattle.json_members.proofs.Cases.{is_key, all_below, all_below_lem}
use Rattle.file_rule.specs.Tables.{anything}
use Rattle.file_members.specs.Names.{first_in, first_of, count_in, count_of, size_in, kind_size_at}
use Rattle.file_cells.specs.Wants.{nth, kinds, kind_at, all_rows_of, row_at, shape_of_kind, shape_of}

-- ---- past the last

nth_past : {A : Type 0} (n : ℕ) (xs : List A) → length xs ≤ n → nth n xs ≡ none
nth_past n [] h = refl
nth_past zero (x ∷ xs) h = absurd (omega arith)
nth_past (suc n) (x ∷ xs) h = nth_past n xs (omega arith)

pub kind_past : (n : ℕ) → 13 ≤ n → kind_at n ≡ none
unfolding kind_at
kind_past n h = nth_past n kinds h

pub row_past : (spot : ℕ) → 69 ≤ spot → row_at spot ≡ none
unfolding row_at
row_past zero h = absurd (omega arith)
row_past (suc n) h = let less : 68 ≤ n = omega arith in nth_past n (all_rows_of kinds) less

pub shape_past : (want : ℕ) → 113 ≤ want → shape_of want ≡ anything
unfolding shape_of
shape_past want h = rw (le-ltb want 100 (omega arith)) (ap shape_of_kind (kind_past (want - 100) (omega arith)))

-- ---- by the last arm of a `match`

pub or_right : (a b : Bool) → a ≡ false → a || b ≡ true → b ≡ true
or_right true b e t = absurd (true≢false e)
or_right false b e t = t

-- a number that all have but the keys, below a bound
pub below_at : (f : ℕ → ℕ) (y n : ℕ) (arms : List (List ℕ)) → all_below n (λ k. is_key arms k || eqb (f k) y) ≡ true → (x : ℕ) → x < n → is_key arms x ≡ false → f x ≡ y
below_at f y n arms a x h m = eqb-true (f x) y (or_right (is_key arms x) (eqb (f x) y) m (all_below_lem n (λ k. is_key arms k || eqb (f k) y) a x h))

-- and past it
pub else_at : (f : ℕ → ℕ) (y n : ℕ) (arms : List (List ℕ)) → all_below n (λ k. is_key arms k || eqb (f k) y) ≡ true → ((x : ℕ) → n ≤ x → f x ≡ y) → (x : ℕ) → is_key arms x ≡ false → f x ≡ y
else_at f y n arms a past x m = cases (leb n x) (λ t. past x (leb-true n x t)) (λ t. below_at f y n arms a x (leb-false n x t) m)

pub one_key : (k x : ℕ) → (x ≡ k → ⊥) → is_key ((k ∷ []) ∷ []) x ≡ false
one_key k x n = rw (ne_eqb x k n)

-- ---- what is no record, and what is no member

pub first_past : (n : ℕ) → 13 ≤ n → first_of n ≡ 0
unfolding first_of
first_past n h = ap first_in (kind_past n h)

pub count_past : (n : ℕ) → 13 ≤ n → count_of n ≡ 0
unfolding count_of
count_past n h = ap count_in (kind_past n h)

pub kind_size_past : (n : ℕ) → 13 ≤ n → kind_size_at n ≡ 0
unfolding kind_size_at
kind_size_past n h = ap size_in (kind_past n h)
