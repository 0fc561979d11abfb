-- What is wrong with the tree of a metadata file, by the tables: document 02, request (vii): "27, 28 and 29 as above, but 30 for a missing held member that the
-- public document requires". All defects are gathered, of as much as was read.
use Rattle.std.specs.Prelude.{ℕ, suc, Bool, true, false, cond, not, ◌&&◌, ◌||◌, List, [], ◌∷◌, ◌++◌, map, eqb, leb, ℤ, pos, length}
use Rattle.std.proofs.Math.Option.{Option, none, some}
use Rattle.std.specs.Int.Signed.{le_z}
use Rattle.rules.specs.Words.{is_some, some_with, all, keep, first, same_bytes, or_else}
use Rattle.rules.specs.Capacities.{name_room}
use Rattle.json_rule.specs.Letters.{bytes}
use Rattle.json_rule.specs.Lexemes.{Lexeme}
use Rattle.json_rule.specs.Values.{text_of, whole_number_of}
use Rattle.json_rule.specs.Tree.{Defect, over_capacity, Json, Scalar, Array, Object, Items, no_item, item, Members, no_member, bare_name, member, Text}
use Rattle.json_rule.specs.Members.{is_one_of, names_of, value_of, number_in, members_in}
use Rattle.json_rule.specs.Records.{natural_of}
use Rattle.json_rule.specs.Shapes.{Shape, TextUpTo, i64}
use Rattle.json_rule.specs.Defects.{not_published, refused_at, unless, is_number_in, scalar_defects, with_name, both_or_neither, count_of, stands_at, misplaced, stop_defects}
use Rattle.file_rule.specs.Tables.{FileKind, TheFile, HeldSnapshot, HeldSchema, HeldField, HeldSpec, HeldPartitionField, HeldOrder, HeldSortField, HeldRef, HeldLogEntry, HeldFileEntry, HeldStatistics, HeldPartitionStatistics, FileShape, Single, IdOrNull, Several, ByName, OfKind, Published, rows_in}

abbrev pub missing_member : ℕ
missing_member = 30

-- ---- the version

-- 1, 2 or 3; 0 where it is none of them
abbrev pub known_version : ℤ → ℕ
known_version n = cond (le_z (pos 1) n && le_z n (pos 3)) (natural_of n) 0

-- the first `format-version` decides, wherever it stands
unfoldable pub version_of : Members → ℕ
version_of ms = elim (value_of (bytes "format-version") ms) [ none ↦ 0 | some x ↦ elim (number_in x) [ none ↦ 0 | some n ↦ known_version n ] ]

-- ---- values that are no list and no object

abbrev pub is_null : Lexeme → Bool
is_null t = eqb t.head 110

abbrev pub single_defects : FileShape → ℕ → Lexeme → List Defect
single_defects (Single shape) place t = scalar_defects shape place t
single_defects IdOrNull place t = cond (is_null t) [] (scalar_defects i64 place t)
single_defects (Several room shape) place t = refused_at place not_published
single_defects (ByName room shape) place t = refused_at place not_published
single_defects (OfKind kind) place t = refused_at place not_published

-- ---- names

abbrev pub published_as : List ℕ → List Published → Option Published
published_as name rows = first (λ (r : Published). same_bytes r.name name) rows

-- what is published under a name
abbrev pub row_by : List Published → Option (List ℕ) → Option Published
row_by rows none = none
row_by rows (some name) = published_as name rows

-- one that was there before
abbrev pub is_repeated : List (List ℕ) → Option (List ℕ) → Bool
is_repeated seen none = false
is_repeated seen (some name) = is_one_of seen name

-- "Top-level members we do not hold are skipped"; a member that is unknown elsewhere, or repeated, is refused at its name
abbrev pub skips_unknown : FileKind → Bool
skips_unknown TheFile = true
skips_unknown HeldSnapshot = false
skips_unknown HeldSchema = false
skips_unknown HeldField = false
skips_unknown HeldSpec = false
skips_unknown HeldPartitionField = false
skips_unknown HeldOrder = false
skips_unknown HeldSortField = false
skips_unknown HeldRef = false
skips_unknown HeldLogEntry = false
skips_unknown HeldFileEntry = false
skips_unknown HeldStatistics = false
skips_unknown HeldPartitionStatistics = false

-- the row by which the value of a name is judged: none of one that is skipped, unknown or repeated
abbrev pub row_for : List Published → List (List ℕ) → Lexeme → Option Published
row_for rows seen t = cond (is_repeated seen (text_of t)) none (row_by rows (text_of t))

abbrev pub name_defects : FileKind → List Published → List (List ℕ) → Lexeme → List Defect
name_defects kind rows seen t =
    unless (cond (is_some (row_by rows (text_of t))) (not (is_repeated seen (text_of t))) (skips_unknown kind)) t.first not_published

-- a name of a ref: of at most 32 bytes, and no name twice
abbrev pub own_name_defects : List (List ℕ) → Lexeme → List Defect
own_name_defects seen t = scalar_defects (TextUpTo name_room) t.first t ++ unless (not (is_repeated seen (text_of t))) t.first not_published

-- ---- missing members

abbrev pub required_in : List Published → List (List ℕ)
required_in rows = map (λ (r : Published). r.name) (keep (λ (r : Published). r.is_required) rows)

-- of a snapshot that can have a row range also both halves of it, or neither
abbrev pub range_names : ℕ → FileKind → List (List ℕ) → List (List ℕ)
range_names version HeldSnapshot names = cond (eqb version 3) (both_or_neither names (bytes "first-row-id") (bytes "added-rows")) []
range_names version TheFile names = []
range_names version HeldSchema names = []
range_names version HeldField names = []
range_names version HeldSpec names = []
range_names version HeldPartitionField names = []
range_names version HeldOrder names = []
range_names version HeldSortField names = []
range_names version HeldRef names = []
range_names version HeldLogEntry names = []
range_names version HeldFileEntry names = []
range_names version HeldStatistics names = []
range_names version HeldPartitionStatistics names = []

abbrev pub missing_defects : ℕ → FileKind → ℕ → Members → Bool → List Defect
missing_defects version kind place ms closed =
    unless (not closed || all (is_one_of (names_of ms)) (required_in (rows_in version kind) ++ range_names version kind (names_of ms))) place missing_member

-- ---- lists and objects

abbrev pub members_count : Members → ℕ
members_count no_member = 0
members_count (bare_name t) = 1
members_count (member t x ms) = suc (members_count ms)

-- the place of the schema in which a record stands: its own, where it is one
abbrev pub schema_place : FileKind → ℕ → ℕ → ℕ
schema_place HeldSchema place outer = place
schema_place TheFile place outer = outer
schema_place HeldSnapshot place outer = outer
schema_place HeldField place outer = outer
schema_place HeldSpec place outer = outer
schema_place HeldPartitionField place outer = outer
schema_place HeldOrder place outer = outer
schema_place HeldSortField place outer = outer
schema_place HeldRef place outer = outer
schema_place HeldLogEntry place outer = outer
schema_place HeldFileEntry place outer = outer
schema_place HeldStatistics place outer = outer
schema_place HeldPartitionStatistics place outer = outer

module _ (version : ℕ) where
  -- The first number is the place of the schema around, the flag says that a defect of the value itself stands there.
  unfoldable mutual
    pub defects : ℕ → Bool → FileShape → Json → List Defect
    defects schema of_schema shape (Scalar t) = single_defects shape (stands_at of_schema schema t.first) t
    defects schema of_schema (Several room each) (Array place xs closed) = unless (leb (count_of xs) room) place over_capacity ++ item_defects schema each xs
    defects schema of_schema (Single shape) (Array place xs closed) = misplaced shape (stands_at of_schema schema place)
    defects schema of_schema IdOrNull (Array place xs closed) = refused_at place not_published
    defects schema of_schema (ByName room each) (Array place xs closed) = refused_at place not_published
    defects schema of_schema (OfKind kind) (Array place xs closed) = refused_at place not_published
    defects schema of_schema (ByName room each) (Object place ms closed) = unless (leb (members_count ms) room) place over_capacity ++ named_defects schema each [] ms
    defects schema of_schema (OfKind kind) (Object place ms closed) =
        member_defects (schema_place kind place schema) kind (rows_in version kind) [] ms ++ missing_defects version kind place ms closed
    defects schema of_schema (Single shape) (Object place ms closed) = misplaced shape (stands_at of_schema schema place)
    defects schema of_schema IdOrNull (Object place ms closed) = refused_at place not_published
    defects schema of_schema (Several room each) (Object place ms closed) = refused_at place not_published

    pub item_defects : ℕ → FileShape → Items → List Defect
    item_defects schema shape no_item = []
    item_defects schema shape (item x xs) = defects schema false shape x ++ item_defects schema shape xs

    pub member_defects : ℕ → FileKind → List Published → List (List ℕ) → Members → List Defect
    member_defects schema kind rows seen no_member = []
    member_defects schema kind rows seen (bare_name t) = name_defects kind rows seen t
    member_defects schema kind rows seen (member t x ms) =
        name_defects kind rows seen t
        ++ elim (row_for rows seen t) [ none ↦ [] | some r ↦ defects schema r.of_schema r.shape x ]
        ++ member_defects schema kind rows (with_name seen (text_of t)) ms

    -- Every value is judged, also that of a name that stands twice: what is wrong with it stands behind the name, which is refused, so the answer is the same.
    pub named_defects : ℕ → FileShape → List (List ℕ) → Members → List Defect
    named_defects schema each seen no_member = []
    named_defects schema each seen (bare_name t) = own_name_defects seen t
    named_defects schema each seen (member t x ms) =
        own_name_defects seen t ++ defects schema false each x ++ named_defects schema each (with_name seen (text_of t)) ms

abbrev pub tree_defects : Option Json → List Defect
tree_defects none = []
tree_defects (some x) = defects (version_of (members_in x)) 0 false (OfKind TheFile) x

-- all that is wrong with a text that is to be a file
unfoldable pub file_defects : Text → List Defect
file_defects t = tree_defects t.tree ++ stop_defects t.stop
