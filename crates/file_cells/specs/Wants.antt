-- What may be wanted at a place of a metadata file, as numbers: 0 is anything; from 1 on stand the members, record by record and row by row as the tables have
-- them; from 100 on the records themselves.
use Rattle.std.specs.Prelude.{ℕ, zero, suc, ◌+◌, ◌-◌, Bool, true, false, cond, List, [], ◌∷◌, ◌++◌, eqb, ltb}
use Rattle.std.proofs.Math.Option.{Option, none, some}
use Rattle.rules.specs.Words.{is_some, same_bytes}
use Rattle.json_rule.specs.Lexemes.{Lexeme}
use Rattle.json_rule.specs.Values.{text_of}
use Rattle.json_rule.specs.Defects.{is_anything}
use Rattle.file_rule.specs.Tables.{FileKind, TheFile, HeldSnapshot, HeldSchema, HeldField, HeldSpec, HeldPartitionField, HeldOrder, HeldSortField, HeldRef, HeldLogEntry, HeldFileEntry, HeldStatistics, HeldPartitionStatistics, FileShape, Single, IdOrNull, Several, ByName, OfKind, Row, Published, anything, rows_of, row_in, rows_in}
use Rattle.file_rule.specs.FileDefects.{published_as, is_repeated}

-- ---- records

abbrev pub kind_number : FileKind → ℕ
kind_number TheFile = 0
kind_number HeldSnapshot = 1
kind_number HeldSchema = 2
kind_number HeldField = 3
kind_number HeldSpec = 4
kind_number HeldPartitionField = 5
kind_number HeldOrder = 6
kind_number HeldSortField = 7
kind_number HeldRef = 8
kind_number HeldLogEntry = 9
kind_number HeldFileEntry = 10
kind_number HeldStatistics = 11
kind_number HeldPartitionStatistics = 12

-- what is no record
abbrev pub no_kind : ℕ
no_kind = 13

abbrev pub nth : {A : Type 0} → ℕ → List A → Option A
nth n [] = none
nth zero (x ∷ xs) = some x
nth (suc n) (x ∷ xs) = nth n xs

abbrev pub kinds : List FileKind
kinds =
    TheFile
    ∷ HeldSnapshot
    ∷ HeldSchema
    ∷ HeldField
    ∷ HeldSpec
    ∷ HeldPartitionField
    ∷ HeldOrder
    ∷ HeldSortField
    ∷ HeldRef
    ∷ HeldLogEntry
    ∷ HeldFileEntry
    ∷ HeldStatistics
    ∷ HeldPartitionStatistics
    ∷ []

-- the record of a number; none of 13 and above
unfoldable pub kind_at : ℕ → Option FileKind
kind_at n = nth n kinds

-- ---- members

-- the number of the first member of a record
abbrev pub first_spot : FileKind → ℕ
first_spot TheFile = 1
first_spot HeldSnapshot = 24
first_spot HeldSchema = 33
first_spot HeldField = 36
first_spot HeldSpec = 40
first_spot HeldPartitionField = 42
first_spot HeldOrder = 46
first_spot HeldSortField = 48
first_spot HeldRef = 52
first_spot HeldLogEntry = 57
first_spot HeldFileEntry = 59
first_spot HeldStatistics = 61
first_spot HeldPartitionStatistics = 66

abbrev pub all_rows_of : List FileKind → List Row
all_rows_of [] = []
all_rows_of (k ∷ ks) = rows_of k ++ all_rows_of ks

-- the row of a member's number
unfoldable pub row_at : ℕ → Option Row
row_at zero = none
row_at (suc n) = nth n (all_rows_of kinds)

-- where a name stands among rows; as many as there are where it does not
abbrev pub position : List ℕ → List Row → ℕ
position name [] = 0
position name (r ∷ rs) = cond (same_bytes r.name name) 0 (suc (position name rs))

-- the number of the member that a version publishes under a name; 0 where it publishes none
unfoldable pub spot_in : ℕ → FileKind → Option (List ℕ) → ℕ
spot_in version kind none = 0
spot_in version kind (some name) = cond (is_some (published_as name (rows_in version kind))) (first_spot kind + position name (rows_of kind)) 0

-- of what is no record no member is known
unfoldable pub spot_by : ℕ → ℕ → Option (List ℕ) → ℕ
spot_by version kind name = elim (kind_at kind) [ none ↦ 0 | some k ↦ spot_in version k name ]

-- ---- what is wanted

abbrev pub passes_over : FileShape → Bool
passes_over (Single shape) = is_anything shape
passes_over IdOrNull = false
passes_over (Several room each) = false
passes_over (ByName room each) = false
passes_over (OfKind kind) = false

abbrev pub is_passed_by : Option Published → Bool
is_passed_by none = true
is_passed_by (some p) = passes_over p.shape

-- a member whose value a version passes over
unfoldable pub is_passed : ℕ → ℕ → Bool
is_passed version spot = elim (row_at spot) [ none ↦ true | some r ↦ is_passed_by (row_in version r) ]

-- what the value of a member is to be
unfoldable pub want_in : ℕ → ℕ → ℕ
want_in version spot = cond (is_passed version spot) 0 spot

-- the number of the member behind a name; 0 where it is unknown, or was there before
unfoldable pub spot_for : ℕ → ℕ → List (List ℕ) → Lexeme → ℕ
spot_for version kind seen t = cond (is_repeated seen (text_of t)) 0 (spot_by version kind (text_of t))

abbrev pub shape_of_row : Option Row → FileShape
shape_of_row none = anything
shape_of_row (some r) = r.shape

abbrev pub shape_of_kind : Option FileKind → FileShape
shape_of_kind none = anything
shape_of_kind (some k) = OfKind k

unfoldable pub shape_of : ℕ → FileShape
shape_of want = cond (ltb want 100) (shape_of_row (row_at want)) (shape_of_kind (kind_at (want - 100)))

-- what is wrong with the value of a field's `required` and of its `type` stands at the schema
unfoldable pub stands_at_schema : ℕ → Bool
stands_at_schema want = cond (ltb want 100) (elim (row_at want) [ none ↦ false | some r ↦ r.of_schema ]) false

-- ---- of a shape: what its elements are to be, of a list and of an object under names of their own; how many; and which record it is

abbrev pub record_in : FileShape → ℕ
record_in (Single shape) = no_kind
record_in IdOrNull = no_kind
record_in (Several room each) = no_kind
record_in (ByName room each) = no_kind
record_in (OfKind kind) = kind_number kind

abbrev pub want_of_record : FileShape → ℕ
want_of_record (Single shape) = 0
want_of_record IdOrNull = 0
want_of_record (Several room each) = 0
want_of_record (ByName room each) = 0
want_of_record (OfKind kind) = 100 + kind_number kind

abbrev pub item_in : FileShape → ℕ
item_in (Single shape) = 0
item_in IdOrNull = 0
item_in (Several room each) = want_of_record each
item_in (ByName room each) = 0
item_in (OfKind kind) = 0

abbrev pub named_in : FileShape → ℕ
named_in (Single shape) = 0
named_in IdOrNull = 0
named_in (Several room each) = 0
named_in (ByName room each) = want_of_record each
named_in (OfKind kind) = 0

abbrev pub room_in : FileShape → ℕ
room_in (Single shape) = 0
room_in IdOrNull = 0
room_in (Several room each) = room
room_in (ByName room each) = room
room_in (OfKind kind) = 0

unfoldable pub item_at : ℕ → ℕ
item_at want = item_in (shape_of want)

unfoldable pub named_at : ℕ → ℕ
named_at want = named_in (shape_of want)

unfoldable pub room_at : ℕ → ℕ
room_at want = room_in (shape_of want)

unfoldable pub record_at : ℕ → ℕ
record_at want = record_in (shape_of want)
