-- Which members of a record were seen, a flag for each in the order of its table, and which of them it lacks.
use Rattle.std.specs.Prelude.{ℕ, zero, suc, ◌+◌, ◌-◌, Bool, true, false, cond, not, ◌&&◌, List, [], ◌∷◌, eqb, length, get_or, set, replicate}
use Rattle.std.specs.Bool.{beq}
use Rattle.rules.specs.Words.{is_some}
use Rattle.json_rule.specs.Members.{is_one_of}
use Rattle.file_rule.specs.Tables.{FileKind, Row, rows_of, row_in}
use Rattle.file_members.specs.Standings.{standing_at}
use Rattle.file_members.specs.Names.{first_of, count_of}

-- as many as the largest record has members
abbrev pub flag_room : ℕ
flag_room = 23

-- ---- the flags of names

-- a version publishes the member, and its name is one of these
abbrev pub flag_of : ℕ → List (List ℕ) → Row → Bool
flag_of version names r = is_some (row_in version r) && is_one_of names r.name

-- of rows, and of what follows them
abbrev pub flags_of : ℕ → List (List ℕ) → List Bool → List Row → List Bool
flags_of version names rest [] = rest
flags_of version names rest (r ∷ rs) = flag_of version names r ∷ flags_of version names rest rs

-- no flag past the last member
unfoldable pub flags_in : ℕ → FileKind → List (List ℕ) → List Bool
flags_in version k names = flags_of version names (replicate (flag_room - length (rows_of k)) false) (rows_of k)

-- with the flag of a member, whose record begins at a number; none where it is no member
unfoldable pub marked : ℕ → ℕ → List Bool → List Bool
marked first spot flags = cond (eqb spot 0) flags (set flags (spot - first) true)

-- ---- what is lacking

-- required, and not seen
abbrev pub lacks_at : ℕ → ℕ → ℕ → List Bool → Bool
lacks_at version first i flags = eqb (standing_at version (first + i)) 2 && not (get_or flags i false)

-- one of so many members, from a place on
unfoldable pub lacking : ℕ → ℕ → ℕ → ℕ → List Bool → Bool
lacking version first zero i flags = false
lacking version first (suc n) i flags = cond (lacks_at version first i flags) true (lacking version first n (suc i) flags)

-- of a snapshot that can have a row range one half of it alone
abbrev pub lacks_half : ℕ → ℕ → List Bool → Bool
lacks_half version kind flags = eqb kind 1 && (eqb version 3 && not (beq (get_or flags 4 false) (get_or flags 5 false)))

-- a record of a number lacks a member that it must have; what is no record lacks none
unfoldable pub lacks_in : ℕ → ℕ → List Bool → Bool
lacks_in version kind flags = cond (lacking version (first_of kind) (count_of kind) 0 flags) true (lacks_half version kind flags)
