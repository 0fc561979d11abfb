-- Lists of row ranges that climb: two of them joined, what it says of positions, and that no row id lies in two of the ranges.
use Prim.Native.Nat.{ℕ, zero, suc, ◌≤◌, ◌<◌}
use native.Mathlib.Omega.{arith}
use mathlib.Core.Path.{◌≡◌, refl}
use mathlib.Core.Bool.{Bool, true, false, ◌||◌}
use mathlib.Core.List.{List, [], ◌∷◌, ◌++◌}
use lib.Dec.{eqb, leb, ltb}
use lib.ListN.{length}
use borrow.Author.Tests.{ltb-true, ltb-false, leb-true, leb-false, eqb-true, eqb-false, le-leb, lt-ltb}
use Rattle.rules.specs.Capacities.{largest_unsigned}
use Rattle.rules.specs.Register.{RowRange, Snapshot}
use Rattle.rules.specs.Rows.{ranges_of, end_of, has_row, range_at, climbs, Ascend, NoRowTwice, Disjoint, Above, are_disjoint}
use Rattle.rules.proofs.Checks.{Hold, both, and_left, and_right, by_either, neither, parts}
use Rattle.rules.proofs.Replay.Lists.{collect_append}

-- the number that a list of ranges reaches: the end of the last, or where it began
abbrev pub reached : ℕ → List RowRange → ℕ
reached n [] = n
reached n (r ∷ rs) = reached (end_of r) rs

-- ---- two lists joined

pub ranges_append : (xs ys : List Snapshot) → ranges_of (xs ++ ys) ≡ ranges_of xs ++ ranges_of ys
ranges_append xs ys = collect_append (λ (s : Snapshot). s.rows) xs ys

pub reached_append : (n : ℕ) (rs ts : List RowRange) → reached n (rs ++ ts) ≡ reached (reached n rs) ts
reached_append n [] ts = refl
reached_append n (r ∷ rs) ts = reached_append (end_of r) rs ts

module _ (n : ℕ) (r : RowRange) (rs : List RowRange) (h : climbs n (r ∷ rs) ≡ true) where
  climb_parts : Hold (leb n r.first.0 ∷ leb (end_of r) largest_unsigned ∷ climbs (end_of r) rs ∷ [])
  climb_parts = parts (leb n r.first.0) (leb (end_of r) largest_unsigned ∷ climbs (end_of r) rs ∷ []) h

  head_begins : n ≤ r.first.0
  head_begins = leb-true n r.first.0 climb_parts.0

  head_ends : end_of r ≤ largest_unsigned
  head_ends = leb-true (end_of r) largest_unsigned climb_parts.1.0

  tail_climbs : climbs (end_of r) rs ≡ true
  tail_climbs = climb_parts.1.1.0

pub climbs_append : (n : ℕ) (rs ts : List RowRange) → climbs n rs ≡ true → climbs (reached n rs) ts ≡ true → climbs n (rs ++ ts) ≡ true
climbs_append n [] ts h k = k
climbs_append n (r ∷ rs) ts h k = both (both (climb_parts n r rs h).0 (climb_parts n r rs h).1.0) (climbs_append (end_of r) rs ts (tail_climbs n r rs h) k)

-- ---- positions

-- each range begins at or after the number from which the list climbs
begins_after : (n : ℕ) (rs : List RowRange) → climbs n rs ≡ true → (j : ℕ) → j < length rs → n ≤ (range_at rs j).first.0
begins_after n [] h j l = absurd (omega arith)
begins_after n (r ∷ rs) h zero l = head_begins n r rs h
begins_after n (r ∷ rs) h (suc j) l =
    let ih : end_of r ≤ (range_at rs j).first.0 = begins_after (end_of r) rs (tail_climbs n r rs h) j (omega arith) in
    let b : n ≤ r.first.0 = head_begins n r rs h in
    omega arith

-- and at or after the end of every earlier one
begins_after_earlier : (n : ℕ) (rs : List RowRange) → climbs n rs ≡ true → (i j : ℕ) → i < j → j < length rs → end_of (range_at rs i) ≤ (range_at rs j).first.0
begins_after_earlier n [] h i j k l = absurd (omega arith)
begins_after_earlier n (r ∷ rs) h i zero k l = absurd (omega arith)
begins_after_earlier n (r ∷ rs) h zero (suc j) k l = begins_after (end_of r) rs (tail_climbs n r rs h) j (omega arith)
begins_after_earlier n (r ∷ rs) h (suc i) (suc j) k l = begins_after_earlier (end_of r) rs (tail_climbs n r rs h) i j (omega arith) (omega arith)

-- and ends by 2^64 - 1
ends_by_largest : (n : ℕ) (rs : List RowRange) → climbs n rs ≡ true → (j : ℕ) → j < length rs → end_of (range_at rs j) ≤ largest_unsigned
ends_by_largest n [] h j l = absurd (omega arith)
ends_by_largest n (r ∷ rs) h zero l = head_ends n r rs h
ends_by_largest n (r ∷ rs) h (suc j) l = ends_by_largest (end_of r) rs (tail_climbs n r rs h) j (omega arith)

pub climbs_ascend : (n : ℕ) (rs : List RowRange) → climbs n rs ≡ true → Ascend n rs
climbs_ascend n rs h = record { from_start = begins_after n rs h; from_earlier = begins_after_earlier n rs h; ends = ends_by_largest n rs h }

-- what they reach is at or after where they begin, and each ends by it
pub reached_grows : (n : ℕ) (rs : List RowRange) → climbs n rs ≡ true → n ≤ reached n rs
reached_grows n [] h = omega arith
reached_grows n (r ∷ rs) h = omega (arith, head_begins n r rs h, reached_grows (end_of r) rs (tail_climbs n r rs h))

pub ends_by_reached : (n : ℕ) (rs : List RowRange) → climbs n rs ≡ true → (j : ℕ) → j < length rs → end_of (range_at rs j) ≤ reached n rs
ends_by_reached n [] h j l = absurd (omega arith)
ends_by_reached n (r ∷ rs) h zero l = reached_grows (end_of r) rs (tail_climbs n r rs h)
ends_by_reached n (r ∷ rs) h (suc j) l = ends_by_reached (end_of r) rs (tail_climbs n r rs h) j (omega arith)

-- ---- row ids

pub row_lies : (r : RowRange) (row : ℕ) → has_row r row ≡ true → (r.first.0 ≤ row) × (row < end_of r)
row_lies r row h =
    (leb-true r.first.0 row (and_left (leb r.first.0 row) (ltb row (end_of r)) h), ltb-true row (end_of r) (and_right (leb r.first.0 row) (ltb row (end_of r)) h))

-- a position whose range has a row is one of the list
pub row_placed : (rs : List RowRange) (i row : ℕ) → has_row (range_at rs i) row ≡ true → i < length rs
row_placed [] i row h = absurd (let k = row_lies (range_at [] i) row h in omega arith)
row_placed (r ∷ rs) zero row h = omega arith
row_placed (r ∷ rs) (suc i) row h = let ih : i < length rs = row_placed rs i row h in omega arith

-- a number by which every range ends is above every row id of them
pub ends_above : (number : ℕ) (rs : List RowRange) → ((j : ℕ) → j < length rs → end_of (range_at rs j) ≤ number) → Above number rs
ends_above number rs f i row h = omega (arith, (row_lies (range_at rs i) row h).1, f i (row_placed rs i row h))

-- it is enough that an earlier range shares no row with a later one
pub earlier_later : (rs : List RowRange) → ((i j row : ℕ) → i < j → j < length rs → has_row (range_at rs i) row ≡ true → has_row (range_at rs j) row ≡ true → ⊥) → NoRowTwice rs
earlier_later rs f i j row p q = in_order (ltb i j) (ltb j i) refl refl
  where
    in_order : (b c : Bool) → ltb i j ≡ b → ltb j i ≡ c → i ≡ j
    in_order true c e g = absurd (f i j row (ltb-true i j e) (row_placed rs j row q) p q)
    in_order false true e g = absurd (f j i row (ltb-true j i g) (row_placed rs i row p) q p)
    in_order false false e g = omega (arith, ltb-false i j e, ltb-false j i g)

pub ascend_disjoint : (n : ℕ) (rs : List RowRange) → Ascend n rs → Disjoint n rs
ascend_disjoint n rs a = record {
  from_others = earlier_later rs (λ i j row k l p q. omega (arith, (row_lies (range_at rs i) row p).1, (row_lies (range_at rs j) row q).0, a.from_earlier i j k l));
  from_below = λ r e i row p q. omega (arith, (row_lies (range_at rs i) row p).0, (row_lies r row q).1, a.from_start i (row_placed rs i row p));
}

-- ---- two ranges

-- ranges are disjoint exactly if no row id lies in both
module _ (a b : RowRange) where
  pub disjoint_shares_none : are_disjoint a b ≡ true → (row : ℕ) → has_row a row ≡ true → has_row b row ≡ true → ⊥
  disjoint_shares_none h row p q =
      let k = row_lies a row p in
      let l = row_lies b row q in
      by_either (eqb a.added 0 || eqb b.added 0 || leb (end_of a) b.first.0) (leb (end_of b) a.first.0)
      (by_either (eqb a.added 0 || eqb b.added 0) (leb (end_of a) b.first.0)
      (by_either (eqb a.added 0) (eqb b.added 0) (λ e. omega (arith, eqb-true a.added 0 e)) (λ e. omega (arith, eqb-true b.added 0 e)))
      (λ e. omega (arith, leb-true (end_of a) b.first.0 e)))
      (λ e. omega (arith, leb-true (end_of b) a.first.0 e))
      h

  pub shares_none_disjoint : ((row : ℕ) → has_row a row ≡ true → has_row b row ≡ true → ⊥) → are_disjoint a b ≡ true
  shares_none_disjoint f = go (are_disjoint a b) refl
    where
      lies : (r : RowRange) (row : ℕ) → r.first.0 ≤ row → row < end_of r → has_row r row ≡ true
      lies r row p q = both (le-leb r.first.0 row p) (lt-ltb row (end_of r) q)

      -- the later of the two first rows lies in both
      meets : a.first.0 < end_of b → b.first.0 < end_of a → (a.added ≡ 0 → ⊥) → (b.added ≡ 0 → ⊥) → (d : Bool) → leb a.first.0 b.first.0 ≡ d → ⊥
      meets p q x y true e = f b.first.0 (lies a b.first.0 (leb-true a.first.0 b.first.0 e) q) (lies b b.first.0 (omega arith) (omega arith))
      meets p q x y false e = f a.first.0 (lies a a.first.0 (omega arith) (omega arith)) (lies b a.first.0 (omega (arith, leb-false a.first.0 b.first.0 e)) p)

      go : (d : Bool) → are_disjoint a b ≡ d → d ≡ true
      go true e = refl
      go false e =
          let k = neither (eqb a.added 0 || eqb b.added 0 || leb (end_of a) b.first.0) (leb (end_of b) a.first.0) e in
          let l = neither (eqb a.added 0 || eqb b.added 0) (leb (end_of a) b.first.0) k.0 in
          let o = neither (eqb a.added 0) (eqb b.added 0) l.0 in
          absurd (meets (leb-false (end_of b) a.first.0 k.1) (leb-false (end_of a) b.first.0 l.1) (eqb-false a.added 0 o.0) (eqb-false b.added 0 o.1) (leb a.first.0 b.first.0) refl)
