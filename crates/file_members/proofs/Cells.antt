-- Where cells begin, and how many there are: past the last member there is nothing, and the size of a record is that of its shape.
use Prim.Native.Nat.{ℕ, zero, suc, ◌+◌, ◌-◌, ◌≤◌}
use mathlib.Core.Path.{◌≡◌, refl, ap}
use mathlib.Core.Bool.{true}
use mathlib.Core.List.{List, [], ◌∷◌}
use mathlib.Core.Option.{Option, none, some}
use native.Mathlib.Omega.{arith}
use borrow.Author.Tests.{le-ltb, leb-true}
use borrow.Table.Steps.{cases}
use lib.Dec.{leb}
use lib.ListN.{length, length-append}
use Rattle.json_members.proofs.Cases.{all_below, all_below_lem}
use Rattle.file_rule.specs.Tables.{FileKind, TheFile, HeldSnapshot, HeldSchema, HeldField, HeldSpec, HeldPartitionField, HeldOrder, HeldSortField, HeldRef, HeldLogEntry, HeldFileEntry, HeldStatistics, HeldPartitionStatistics, rows_of}
use Rattle.file_cells.specs.Wants.{kinds, first_spot, all_rows_of, row_at, is_passed, want_in, shape_of_row, shape_of_kind, shape_of}
use Rattle.file_cells.specs.Cells.{kind_size, size_of, size_at, before_among, offset_at}
use Rattle.file_members.specs.Names.{size_in}
use Rattle.file_members.proofs.Numbers.{row_past}
use Rattle.file_members.proofs.Flags.{PlaceIn}

none_past : (ks : List FileKind) (n : ℕ) → length (all_rows_of ks) ≤ n → before_among ks n ≡ 0
none_past [] n h = refl
none_past (k ∷ ks) n h =
    let sum = length-append (rows_of k) (all_rows_of ks) in
    rw (le-ltb n (length (rows_of k)) (omega arith)) (none_past ks (n - length (rows_of k)) (omega arith))

pub offset_past : (spot : ℕ) → 69 ≤ spot → offset_at spot ≡ 0
unfolding offset_at
offset_past zero h = refl
offset_past (suc n) h = let less : 68 ≤ n = omega arith in none_past kinds n less

pub member_size_past : (spot : ℕ) → 69 ≤ spot → size_of (shape_of_row (row_at spot)) ≡ 0
unfolding size_of
member_size_past spot h = ap (λ o. size_of (shape_of_row o)) (row_past spot h)

pub kind_size_is : (o : Option FileKind) → size_in o ≡ size_of (shape_of_kind o)
unfolding size_of
kind_size_is none = refl
kind_size_is (some k) = refl

-- ---- the cells of a member stand in those of its record

fits_at_lem : (k : FileKind) → all_below (length (rows_of k)) (λ i. leb (offset_at (first_spot k + i) + size_at (first_spot k + i)) (kind_size k)) ≡ true
unfolding offset_at size_at size_of shape_of row_at
fits_at_lem TheFile = refl
fits_at_lem HeldSnapshot = refl
fits_at_lem HeldSchema = refl
fits_at_lem HeldField = refl
fits_at_lem HeldSpec = refl
fits_at_lem HeldPartitionField = refl
fits_at_lem HeldOrder = refl
fits_at_lem HeldSortField = refl
fits_at_lem HeldRef = refl
fits_at_lem HeldLogEntry = refl
fits_at_lem HeldFileEntry = refl
fits_at_lem HeldStatistics = refl
fits_at_lem HeldPartitionStatistics = refl

pub member_fits : (k : FileKind) (spot : ℕ) → PlaceIn k spot → offset_at spot + size_at spot ≤ kind_size k
member_fits k spot p =
    rw p.is (leb-true _ (kind_size k) (all_below_lem (length (rows_of k)) (λ i. leb (offset_at (first_spot k + i) + size_at (first_spot k + i)) (kind_size k)) (fits_at_lem k) p.place p.below))

-- what is passed over takes none
nothing_size : size_at 0 ≡ 0
unfolding size_at size_of shape_of row_at
nothing_size = refl

pub want_fits : (version spot : ℕ) → size_at (want_in version spot) ≤ size_at spot
unfolding want_in
want_fits version spot = cases (is_passed version spot) (λ t. rw t (omega (arith, nothing_size))) (λ f. rw f (omega arith))
