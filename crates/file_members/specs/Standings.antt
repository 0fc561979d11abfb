-- How a member stands in a version, as a number: 0 where it is not published, 1 where it may be there, 2 where it is required.
use Rattle.std.specs.Prelude.{ℕ, cond, ◌&&◌, ◌||◌, eqb}
use Rattle.std.proofs.Math.Option.{Option, none, some}
use Rattle.file_rule.specs.Tables.{Presence, Required, Optional, Absent, Row, Published, is_absent, is_required_by, row_in}
use Rattle.file_cells.specs.Wants.{row_at}

-- by the version; the last is for what is none of the three
unfoldable pub by_version : ℕ → ℕ → ℕ → ℕ → ℕ → ℕ
by_version version one two three other = cond (eqb version 1) one (cond (eqb version 2) two (cond (eqb version 3) three other))

abbrev pub standing_of : Presence → ℕ
standing_of Absent = 0
standing_of Optional = 1
standing_of Required = 2

-- where the version is none of the three: 0 what not every version publishes, 2 what every version requires
abbrev pub standing_in_any : Row → ℕ
standing_in_any r =
    cond (is_absent r.one || is_absent r.two || is_absent r.three) 0
    (cond (is_required_by r.one && is_required_by r.two && is_required_by r.three) 2 1)

unfoldable pub standing_in : ℕ → Row → ℕ
standing_in version r = by_version version (standing_of r.one) (standing_of r.two) (standing_of r.three) (standing_in_any r)

abbrev pub standing_of_row : ℕ → Option Row → ℕ
standing_of_row version none = 0
standing_of_row version (some r) = standing_in version r

-- of a member's number; 0 of what is no member
unfoldable pub standing_at : ℕ → ℕ → ℕ
standing_at version spot = standing_of_row version (row_at spot)

abbrev pub published_of : ℕ → Option Row → Option Published
published_of version none = none
published_of version (some r) = row_in version r

-- what a version publishes of a member
unfoldable pub published_at : ℕ → ℕ → Option Published
published_at version spot = published_of version (row_at spot)
