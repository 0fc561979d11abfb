-- The version that a file says, from the lexemes on of which its members are read.
use Rattle.std.specs.Prelude.{ℕ, Bool, cond, List, [], ◌∷◌, ltb, ℤ}
use Rattle.std.proofs.Math.Option.{Option, none, some}
use Rattle.json_rule.specs.Letters.{bytes}
use Rattle.json_rule.specs.Lexemes.{Lexeme, is_digit}
use Rattle.json_rule.specs.Tree.{Json, Members, Value, Whole, Cut, Missing, Named, ClosedBy, OpenBy, is_byte}
use Rattle.json_rule.specs.Members.{number_in, is_named}
use Rattle.json_descent.specs.Descent.{value_from, members_from}
use Rattle.file_rule.specs.FileDefects.{known_version, version_of}

abbrev pub members_read : Named → Members
members_read (ClosedBy ms ts) = ms
members_read (OpenBy ms stop) = ms

-- the version that the members say which are read from these lexemes on
unfoldable pub version_from : ℕ → List Lexeme → ℕ
version_from len ts = version_of (members_read (members_from len 1 ts))

abbrev pub version_number : Option ℤ → ℕ
version_number none = 0
version_number (some n) = known_version n

-- that a value says, as much of it as was read
abbrev pub version_in : Value → ℕ
version_in (Whole x ts) = version_number (number_in x)
version_in (Cut x stop) = version_number (number_in x)
version_in (Missing stop) = 0

-- behind a comma
abbrev pub version_next : ℕ → List Lexeme → ℕ
version_next len [] = 0
version_next len (c ∷ ts) = cond (is_byte 44 c) (version_from len ts) 0

-- behind a value
abbrev pub version_behind : ℕ → Value → ℕ
version_behind len (Whole x ts) = version_next len ts
version_behind len (Cut x stop) = 0
version_behind len (Missing stop) = 0

abbrev pub version_name : List ℕ
version_name = bytes "format-version"

-- from a value on: of the member itself, or of one behind it
abbrev pub version_after : ℕ → Bool → Value → ℕ
version_after len isVersion v = cond isVersion (version_in v) (version_behind len v)

-- from a name on whose value is this
abbrev pub version_by : ℕ → Lexeme → Value → ℕ
version_by len t v = version_after len (is_named version_name t) v

-- of a whole text
abbrev pub version_at_start : ℕ → List Lexeme → ℕ
version_at_start len [] = 0
version_at_start len (t ∷ ts) = cond (is_byte 123 t) (version_from len ts) 0

-- of a number by its first byte, whether it is whole and below 2^64, and its magnitude
unfoldable pub known_by : ℕ → Bool → ℕ → ℕ
known_by head integer magnitude =
    cond (is_digit head)
    (cond integer (cond (ltb magnitude 1) 0 (cond (ltb 3 magnitude) 0 magnitude)) 0)
    0
