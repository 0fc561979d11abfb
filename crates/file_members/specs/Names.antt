-- The names of the members of each record, with their numbers.
use Rattle.std.specs.Prelude.{ℕ, suc, ◌-◌, Bool, cond, List, [], ◌∷◌, ltb, length}
use Rattle.std.proofs.Math.Option.{Option, none, some}
use Rattle.rules.specs.Words.{is_some}
use Rattle.json_members.specs.Words.{Entry, entry, number_of}
use Rattle.file_rule.specs.Tables.{FileKind, Row, rows_of}
use Rattle.file_cells.specs.Wants.{kind_at, first_spot, row_at}
use Rattle.file_cells.specs.Cells.{kind_size}

-- those of rows whose numbers follow each other
abbrev pub entries_from : ℕ → List Row → List Entry
entries_from n [] = []
entries_from n (r ∷ rs) = entry r.name n ∷ entries_from (suc n) rs

abbrev pub entries_of : FileKind → List Entry
entries_of k = entries_from (first_spot k) (rows_of k)

abbrev pub entries_among : Option FileKind → List Entry
entries_among none = []
entries_among (some k) = entries_of k

-- the member of a record that a name is, in whatever version; 0 where it is none
unfoldable pub named_in : ℕ → List ℕ → ℕ
named_in kind text = number_of 0 (entries_among (kind_at kind)) text

-- ---- of a record's number; 0 of what is none

abbrev pub first_in : Option FileKind → ℕ
first_in none = 0
first_in (some k) = first_spot k

-- the number of its first member
unfoldable pub first_of : ℕ → ℕ
first_of kind = first_in (kind_at kind)

abbrev pub count_in : Option FileKind → ℕ
count_in none = 0
count_in (some k) = length (rows_of k)

-- how many members it has
unfoldable pub count_of : ℕ → ℕ
count_of kind = count_in (kind_at kind)

abbrev pub size_in : Option FileKind → ℕ
size_in none = 0
size_in (some k) = kind_size k

-- how many cells it takes
unfoldable pub kind_size_at : ℕ → ℕ
kind_size_at kind = size_in (kind_at kind)

-- a number that is that of a member or of a record
unfoldable pub is_something : ℕ → Bool
is_something want = cond (ltb want 100) (is_some (row_at want)) (is_some (kind_at (want - 100)))
