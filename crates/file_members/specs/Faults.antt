-- What is wrong with a value of a file that is no list and no object, told of what is kept of it: the number of its defect, 0 where it has none. Most are
-- judged as a value of a list of updates is, at a spot of the same shape.
use Rattle.std.specs.Prelude.{ℕ, Bool, cond, ◌&&◌, List, [], ◌∷◌, eqb, leb}
use Rattle.json_rule.specs.Lexemes.{Lexeme, is_digit}
use Rattle.json_rule.specs.Defects.{not_published}
use Rattle.json_members.specs.Spots.{beside}
use Rattle.json_members.specs.Faults.{number_in, fault_at}
use Rattle.file_rule.specs.Tables.{FileShape}
use Rattle.file_rule.specs.FileDefects.{single_defects}
use Rattle.file_cells.specs.Wants.{passes_over, shape_of}

-- a value has one defect at most, and its number does not turn on the place
unfoldable pub single_fault : FileShape → Lexeme → ℕ
single_fault shape t = number_in (single_defects shape 0 t)

-- Members, each with a spot of a list of updates that has the same shape: those that are numbers, and the others. The current snapshot's id, where it is not
-- `null`, is judged as a snapshot's.
abbrev pub number_likes : List (ℕ × ℕ)
number_likes =
    (4, 27) ∷ (5, 27) ∷ (6, 16) ∷ (9, 16) ∷ (12, 16) ∷ (13, 16) ∷ (14, 27) ∷ (19, 27) ∷ (23, 31) ∷ (24, 27) ∷ (25, 27) ∷ (26, 27) ∷ (27, 27) ∷
    (28, 31) ∷ (29, 31) ∷ (35, 16) ∷ (36, 16) ∷ (40, 16) ∷ (42, 16) ∷ (43, 16) ∷ (46, 27) ∷ (49, 16) ∷ (52, 27) ∷ (54, 16) ∷ (55, 27) ∷ (56, 27) ∷
    (57, 27) ∷ (58, 27) ∷ (60, 27) ∷ (61, 27) ∷ (63, 27) ∷ (66, 27) ∷ (68, 27) ∷ []

unfoldable pub number_like_at : ℕ → ℕ
number_like_at want = beside 0 number_likes want

abbrev pub likes : List (ℕ × ℕ)
likes =
    (2, 4) ∷ (3, 6) ∷ (33, 36) ∷ (37, 41) ∷ (38, 42) ∷ (39, 43) ∷ (44, 41) ∷ (45, 57) ∷ (48, 47) ∷ (50, 49) ∷ (51, 50) ∷ (53, 10) ∷ (59, 6) ∷
    (62, 6) ∷ (67, 6) ∷ []

-- 0 where there is none
unfoldable pub like_at : ℕ → ℕ
like_at want = beside (number_like_at want) likes want

-- a version is a whole number from 1 to 3
unfoldable pub version_fault : ℕ → Bool → ℕ → ℕ
version_fault head integer magnitude = cond (is_digit head && integer && (leb 1 magnitude && leb magnitude 3)) 0 not_published

-- `null` stands where a snapshot is current or none is
abbrev pub is_null_at : ℕ → ℕ → Bool
is_null_at want head = eqb want 14 && eqb head 110

-- where a spot says it; a list or an object is not there
unfoldable pub like_fault : ℕ → List ℕ → ℕ → ℕ → Bool → ℕ → ℕ
like_fault spot kept head len integer magnitude = cond (eqb spot 0) not_published (fault_at spot kept head len integer magnitude)

unfoldable pub fault_in : ℕ → List ℕ → ℕ → ℕ → Bool → ℕ → ℕ
fault_in want kept head len integer magnitude =
    cond (passes_over (shape_of want)) 0
    (cond (eqb want 1) (version_fault head integer magnitude)
    (cond (is_null_at want head) 0
    (like_fault (like_at want) kept head len integer magnitude)))
