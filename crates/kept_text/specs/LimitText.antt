-- What is kept of a limit's text, byte by byte.
use Rattle.std.specs.Prelude.{ℕ, Bool, false, cond, ◌&&◌, List, [], ◌∷◌, ◌++◌, eqb, ltb, length}

-- one zero, after a `+` or not
abbrev pub is_zero : List ℕ → Bool
is_zero [] = false
is_zero (a ∷ []) = eqb a 48
is_zero (a ∷ (b ∷ [])) = eqb a 43 && eqb b 48
is_zero (a ∷ (b ∷ (c ∷ bs))) = false

-- a zero after a first zero changes no number
unfoldable pub is_spare : List ℕ → ℕ → Bool
is_spare kept b = eqb b 48 && is_zero kept

-- one more byte, if it is not spare and there is room
unfoldable pub keep_byte : ℕ → List ℕ → ℕ → List ℕ
keep_byte room kept b = cond (is_spare kept b) kept (cond (ltb (length kept) room) (kept ++ (b ∷ [])) kept)

-- what is kept of a text, after what is kept already
abbrev pub keep_bytes : ℕ → List ℕ → List ℕ → List ℕ
keep_bytes room kept [] = kept
keep_bytes room kept (b ∷ bs) = keep_bytes room (keep_byte room kept b) bs
