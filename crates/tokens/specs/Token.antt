-- A token, byte by byte: an optional `-` and decimal digits.
use Rattle.std.specs.Prelude.{ℕ, ◌+◌, ◌-◌, ◌*◌, Bool, true, false, cond, ◌&&◌, ◌||◌, List, [], ◌∷◌, ◌==◌, nat_le}
use Rattle.tokens.specs.declared.token.Token.{Token}
use Rattle.tokens.specs.declared.token.Token.TheVariants.{Blank, Minus, Number, Other}

abbrev pub largest : ℕ
largest = 18446744073709551615

abbrev pub is_separator : ℕ → Bool
is_separator b = b == 32 || b == 10

abbrev pub is_digit : ℕ → Bool
is_digit b = nat_le 48 b && nat_le b 57

abbrev pub blank : Token
blank = Blank

-- a whole number
abbrev pub numeral : Bool → ℕ → Token
numeral negative m = Number negative m

-- a number that is too large is none, and nothing that follows makes a number of it again
unfoldable pub with_digit : Token → ℕ → Token
with_digit Blank d = Number false d
with_digit Minus d = Number true d
with_digit (Number negative m) d = cond (nat_le (m * 10 + d) largest) (Number negative (m * 10 + d)) Other
with_digit Other d = Other

-- only in front
unfoldable pub with_minus : Token → Token
with_minus Blank = Minus
with_minus Minus = Other
with_minus (Number negative m) = Other
with_minus Other = Other

unfoldable pub with_byte : Token → ℕ → Token
with_byte t b = cond (is_digit b) (with_digit t (b - 48)) (cond (b == 45) (with_minus t) Other)

-- the token with all of a text
abbrev pub with_bytes : Token → List ℕ → Token
with_bytes t [] = t
with_bytes t (b ∷ bs) = with_bytes (with_byte t b) bs
