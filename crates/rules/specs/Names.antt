-- Names and locations: document 01, "names by bytes, a prefix first", "the fixed four-byte string of the main branch", and "Trailing `/` bytes come off".
use Rattle.std.specs.Prelude.{ℕ, Bool, true, false, cond, ◌&&◌, ◌||◌, List, [], ◌∷◌, eqb, ltb}
use Rattle.rules.specs.Words.{all, same_bytes}

-- byte order, a prefix first
abbrev pub name_below : List ℕ → List ℕ → Bool
name_below [] [] = false
name_below [] (b ∷ ys) = true
name_below (a ∷ xs) [] = false
name_below (a ∷ xs) (b ∷ ys) = ltb a b || (eqb a b && name_below xs ys)

-- `main`
abbrev pub main_name : List ℕ
main_name = 109 ∷ 97 ∷ 105 ∷ 110 ∷ []

abbrev pub is_main : List ℕ → Bool
is_main name = same_bytes name main_name

abbrev pub is_slash : ℕ → Bool
is_slash b = eqb b 47

-- "Trailing `/` bytes come off"
unfoldable pub trimmed : List ℕ → List ℕ
trimmed [] = []
trimmed (b ∷ bs) = cond (all is_slash (b ∷ bs)) [] (b ∷ trimmed bs)
