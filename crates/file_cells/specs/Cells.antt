-- How many cells are taken by what may be wanted, and where: a text, a number or a word takes two (one more than its place, and the magnitude of a number), what
-- is passed over none; a list one for its count, and those of each element; a record those of its members, in the order of its table.
use Rattle.std.specs.Prelude.{ℕ, zero, suc, ◌+◌, ◌*◌, ◌-◌, cond, List, [], ◌∷◌, ltb, length}
use Rattle.json_rule.specs.Defects.{is_anything}
use Rattle.file_rule.specs.Tables.{FileKind, TheFile, HeldSnapshot, HeldSchema, HeldField, HeldSpec, HeldPartitionField, HeldOrder, HeldSortField, HeldRef, HeldLogEntry, HeldFileEntry, HeldStatistics, HeldPartitionStatistics, FileShape, Single, IdOrNull, Several, ByName, OfKind, Row, rows_of}
use Rattle.file_cells.specs.Wants.{kinds, shape_of}

-- of a record, as a number; that they are the sums over the members is proved
abbrev pub kind_size : FileKind → ℕ
kind_size TheFile = 9047
kind_size HeldSnapshot = 12
kind_size HeldSchema = 261
kind_size HeldField = 8
kind_size HeldSpec = 67
kind_size HeldPartitionField = 8
kind_size HeldOrder = 67
kind_size HeldSortField = 8
kind_size HeldRef = 10
kind_size HeldLogEntry = 4
kind_size HeldFileEntry = 4
kind_size HeldStatistics = 6
kind_size HeldPartitionStatistics = 6

unfoldable pub size_of : FileShape → ℕ
size_of (Single shape) = cond (is_anything shape) 0 2
size_of IdOrNull = 2
size_of (Several room each) = suc (room * size_of each)
size_of (ByName room each) = suc (room * (2 + size_of each))
size_of (OfKind kind) = kind_size kind

abbrev pub sizes_of : List Row → ℕ
sizes_of [] = 0
sizes_of (r ∷ rs) = size_of r.shape + sizes_of rs

-- all cells of a file
abbrev pub cell_room : ℕ
cell_room = 9047

unfoldable pub size_at : ℕ → ℕ
size_at want = size_of (shape_of want)

-- those of the rows before so many
abbrev pub before : ℕ → List Row → ℕ
before zero rs = 0
before (suc n) [] = 0
before (suc n) (r ∷ rs) = size_of r.shape + before n rs

abbrev pub before_among : List FileKind → ℕ → ℕ
before_among [] n = 0
before_among (k ∷ ks) n = cond (ltb n (length (rows_of k))) (before n (rows_of k)) (before_among ks (n - length (rows_of k)))

-- where the cells of a member begin, counted from those of its record
unfoldable pub offset_at : ℕ → ℕ
offset_at zero = 0
offset_at (suc n) = before_among kinds n
