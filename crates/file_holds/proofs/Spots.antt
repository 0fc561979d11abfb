-- Where the members of a record stand among all members, and their cells among those of the record.
use Prim.Native.Nat.{ℕ, zero, suc, ◌+◌, ◌-◌, ◌<◌}
use native.Mathlib.Omega.{arith}
use native.Mathlib.Nat.{suc-add}
use mathlib.Core.Path.{◌≡◌, refl, sym, ap, ◌∙◌}
use mathlib.Core.List.{List, [], ◌∷◌, ◌++◌, append_assoc}
use mathlib.Core.Option.{some}
use borrow.Author.Tests.{lt-ltb, le-ltb}
use lib.ListN.{length, length-append}
use Rattle.file_rule.specs.Tables.{FileKind, TheFile, HeldSnapshot, HeldSchema, HeldField, HeldSpec, HeldPartitionField, HeldOrder, HeldSortField, HeldRef, HeldLogEntry, HeldFileEntry, HeldStatistics, HeldPartitionStatistics, Row, rows_of}
use Rattle.file_cells.specs.Wants.{nth, kinds, first_spot, all_rows_of, row_at}
use Rattle.file_cells.specs.Cells.{before, before_among, offset_at}

-- ---- the element at a place

pub nth_bound : {A : Type 0} (xs : List A) (p : ℕ) (x : A) → nth p xs ≡ some x → p < length xs
nth_bound [] p x e = let z : ◌≡◌ {A = ℕ} 0 1 = cc in omega arith
nth_bound (y ∷ ys) zero x e = omega arith
nth_bound (y ∷ ys) (suc p) x e = let h : p < length ys = nth_bound ys p x e in omega arith

nth_left : {A : Type 0} (xs ys : List A) (p : ℕ) (x : A) → nth p xs ≡ some x → nth p (xs ++ ys) ≡ some x
nth_left [] ys p x e = cc
nth_left (y ∷ xs) ys zero x e = e
nth_left (y ∷ xs) ys (suc p) x e = nth_left xs ys p x e

nth_right : {A : Type 0} (xs ys : List A) (p : ℕ) → nth (length xs + p) (xs ++ ys) ≡ nth p ys
nth_right [] ys p = let z : 0 + p ≡ p = omega arith in rw z
nth_right (x ∷ xs) ys p = rw (suc-add (length xs) p) (nth_right xs ys p)

-- ---- the place of a record among the records

record Among (k : FileKind) : Type 0 where
  front : List FileKind
  back : List FileKind
  whole : kinds ≡ front ++ k ∷ back
  first : first_spot k ≡ suc (length (all_rows_of front))

among : (k : FileKind) → Among k
among TheFile = record { front = []; back = _; whole = refl; first = refl }
among HeldSnapshot = record { front = TheFile ∷ []; back = _; whole = refl; first = refl }
among HeldSchema = record { front = TheFile ∷ HeldSnapshot ∷ []; back = _; whole = refl; first = refl }
among HeldField = record { front = TheFile ∷ HeldSnapshot ∷ HeldSchema ∷ []; back = _; whole = refl; first = refl }
among HeldSpec = record { front = TheFile ∷ HeldSnapshot ∷ HeldSchema ∷ HeldField ∷ []; back = _; whole = refl; first = refl }
among HeldPartitionField = record { front = TheFile ∷ HeldSnapshot ∷ HeldSchema ∷ HeldField ∷ HeldSpec ∷ []; back = _; whole = refl; first = refl }
among HeldOrder = record { front = TheFile ∷ HeldSnapshot ∷ HeldSchema ∷ HeldField ∷ HeldSpec ∷ HeldPartitionField ∷ []; back = _; whole = refl; first = refl }
among HeldSortField = record { front = TheFile ∷ HeldSnapshot ∷ HeldSchema ∷ HeldField ∷ HeldSpec ∷ HeldPartitionField ∷ HeldOrder ∷ []; back = _; whole = refl; first = refl }
among HeldRef = record { front = TheFile ∷ HeldSnapshot ∷ HeldSchema ∷ HeldField ∷ HeldSpec ∷ HeldPartitionField ∷ HeldOrder ∷ HeldSortField ∷ []; back = _; whole = refl; first = refl }
among HeldLogEntry = record { front = TheFile ∷ HeldSnapshot ∷ HeldSchema ∷ HeldField ∷ HeldSpec ∷ HeldPartitionField ∷ HeldOrder ∷ HeldSortField ∷ HeldRef ∷ []; back = _; whole = refl; first = refl }
among HeldFileEntry =
    record { front = TheFile ∷ HeldSnapshot ∷ HeldSchema ∷ HeldField ∷ HeldSpec ∷ HeldPartitionField ∷ HeldOrder ∷ HeldSortField ∷ HeldRef ∷ HeldLogEntry ∷ []; back = _; whole = refl; first = refl }
among HeldStatistics =
    record { front = TheFile ∷ HeldSnapshot ∷ HeldSchema ∷ HeldField ∷ HeldSpec ∷ HeldPartitionField ∷ HeldOrder ∷ HeldSortField ∷ HeldRef ∷ HeldLogEntry ∷ HeldFileEntry ∷ []; back = _; whole = refl; first = refl }
among HeldPartitionStatistics =
    record {
      front = TheFile ∷ HeldSnapshot ∷ HeldSchema ∷ HeldField ∷ HeldSpec ∷ HeldPartitionField ∷ HeldOrder ∷ HeldSortField ∷ HeldRef ∷ HeldLogEntry ∷ HeldFileEntry ∷ HeldStatistics ∷ [];
      back = _;
      whole = refl;
      first = refl;
    }

all_rows : (xs ys : List FileKind) → all_rows_of (xs ++ ys) ≡ all_rows_of xs ++ all_rows_of ys
all_rows [] ys = refl
all_rows (x ∷ xs) ys = ap (λ (l : List Row). rows_of x ++ l) (all_rows xs ys) ∙ sym (append_assoc (rows_of x) (all_rows_of xs) (all_rows_of ys))

-- the row of a member's number
pub row_at_lem : (k : FileKind) (p : ℕ) (r : Row) → nth p (rows_of k) ≡ some r → row_at (first_spot k + p) ≡ some r
unfolding row_at
row_at_lem k p r e = go (among k)
  where
    go : Among k → row_at (first_spot k + p) ≡ some r
    go a =
        let s : first_spot k + p ≡ suc (length (all_rows_of a.front) + p) = omega (arith, a.first) in
        let w : all_rows_of kinds ≡ all_rows_of a.front ++ all_rows_of (k ∷ a.back) = ap all_rows_of a.whole ∙ all_rows a.front (k ∷ a.back) in
        ap row_at s
        ∙ ap (λ (l : List Row). nth (length (all_rows_of a.front) + p) l) w
        ∙ nth_right (all_rows_of a.front) (all_rows_of (k ∷ a.back)) p
        ∙ nth_left (rows_of k) (all_rows_of a.back) p r e

before_among_lem : (front : List FileKind) (k : FileKind) (back : List FileKind) (p : ℕ) → p < length (rows_of k)
    → before_among (front ++ k ∷ back) (length (all_rows_of front) + p) ≡ before p (rows_of k)
before_among_lem [] k back p h = let z : 0 + p ≡ p = omega arith in rw (z, lt-ltb p (length (rows_of k)) h)
before_among_lem (j ∷ front) k back p h =
    let n : length (rows_of j ++ all_rows_of front) ≡ length (rows_of j) + length (all_rows_of front) = length-append (rows_of j) (all_rows_of front) in
    let s : length (rows_of j ++ all_rows_of front) + p - length (rows_of j) ≡ length (all_rows_of front) + p = omega arith in
    rw (le-ltb (length (rows_of j ++ all_rows_of front) + p) (length (rows_of j)) (omega arith), s) (before_among_lem front k back p h)

-- where its cells begin
pub offset_at_lem : (k : FileKind) (p : ℕ) → p < length (rows_of k) → offset_at (first_spot k + p) ≡ before p (rows_of k)
unfolding offset_at
offset_at_lem k p h = go (among k)
  where
    go : Among k → offset_at (first_spot k + p) ≡ before p (rows_of k)
    go a =
        let s : first_spot k + p ≡ suc (length (all_rows_of a.front) + p) = omega (arith, a.first) in
        ap offset_at s ∙ ap (λ (ks : List FileKind). before_among ks (length (all_rows_of a.front) + p)) a.whole ∙ before_among_lem a.front k a.back p h
