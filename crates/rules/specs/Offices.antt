-- The two offices that share a register: document 02, request (xi).
use Rattle.std.specs.Prelude.{ℕ, Bool, ◌||◌, eqb}

-- the office to which `main` belongs, and the other chamber's
abbrev pub first_office : ℕ
first_office = 1

abbrev pub second_office : ℕ
second_office = 2

-- "Each run names its office": 1 or 2
abbrev pub is_office : ℕ → Bool
is_office o = eqb o first_office || eqb o second_office
