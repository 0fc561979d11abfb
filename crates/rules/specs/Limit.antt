-- The limit of the metadata log: document 01, "The close", third paragraph.
use Rattle.std.specs.Prelude.{ℕ, ◌+◌, ◌-◌, ◌*◌, max, Bool, cond, ◌&&◌, not, List, [], ◌∷◌, eqb, leb}
use Rattle.std.proofs.Math.Option.{Option, none, some}
use Rattle.rules.specs.Words.{all, is_empty}
use Rattle.rules.specs.Capacities.{largest_unsigned}

abbrev pub is_digit : ℕ → Bool
is_digit b = leb 48 b && leb b 57

-- the number that decimal digits write, after those that wrote v
abbrev pub decimal : ℕ → List ℕ → ℕ
decimal v [] = v
decimal v (b ∷ bs) = decimal (v * 10 + (b - 48)) bs

-- "at least one digit, nothing else, at most 2^64 - 1"
abbrev pub is_number : List ℕ → Bool
is_number bs = not (is_empty bs) && all is_digit bs && leb (decimal 0 bs) largest_unsigned

-- "optional `+`"
abbrev pub after_plus : List ℕ → List ℕ
after_plus [] = []
after_plus (b ∷ bs) = cond (eqb b 43) bs (b ∷ bs)

abbrev pub default_limit : ℕ
default_limit = 100

-- "The limit is the text's number: ..; otherwise 100; never below 1."
unfoldable pub limit_of : List ℕ → ℕ
limit_of text = cond (is_number (after_plus text)) (max 1 (decimal 0 (after_plus text))) default_limit

-- the text is optional; without it the limit is 100
abbrev pub limit_given : Option (List ℕ) → ℕ
limit_given none = default_limit
limit_given (some text) = limit_of text
