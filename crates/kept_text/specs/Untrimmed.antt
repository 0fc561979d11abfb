-- How much of a location is to be trimmed, byte by byte, where only the first bytes have slots: what comes off beyond the slots is off.
use Rattle.std.specs.Prelude.{ℕ, ◌+◌, cond, List, [], ◌∷◌, eqb, ltb}

-- the length with one more byte, which stands at `at`: a slash without a slot does not count yet
unfoldable pub length_with : ℕ → ℕ → ℕ → ℕ → ℕ
length_with slots len at b = cond (ltb at slots) (at + 1) (cond (eqb b 47) len (at + 1))

-- the length with all of a text, the first of which stands at `at`
abbrev pub length_from : ℕ → ℕ → ℕ → List ℕ → ℕ
length_from slots len at [] = len
length_from slots len at (b ∷ bs) = length_from slots (length_with slots len at b) (at + 1) bs
