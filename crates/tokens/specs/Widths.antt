-- Which number of a field a token is.
use Rattle.std.specs.Prelude.{ℕ, ◌^◌, Bool, true, false, cond, Option, Some, None, ℤ, pos, neg_ℤ, ◌==◌, nat_le, nat_lt}
use Rattle.std.specs.Int.Signed.{mag}
use Rattle.tokens.specs.declared.token.Token.{Token}
use Rattle.tokens.specs.declared.token.Token.TheVariants.{Blank, Minus, Number, Other}

-- `-0` is 0
abbrev pub number_of : Bool → ℕ → ℤ
number_of negative magnitude = cond negative (neg_ℤ (pos magnitude)) (pos magnitude)

-- a whole number from 0 to `most`
unfoldable pub unsigned_of : Token → ℕ → Option ℕ
unsigned_of Blank most = None
unsigned_of Minus most = None
unsigned_of (Number true m) most = cond (m == 0) (Some m) None
unsigned_of (Number false m) most = cond (nat_le m most) (Some m) None
unsigned_of Other most = None

-- a whole number from -half to half - 1
unfoldable pub signed_below : Token → ℕ → Option ℤ
signed_below Blank half = None
signed_below Minus half = None
signed_below (Number negative m) half = cond (nat_lt (mag (number_of negative m)) half) (Some (number_of negative m)) None
signed_below Other half = None

-- the number of an i64 field that a token is
abbrev pub signed_of : Token → Option ℤ
signed_of t = signed_below t (2 ^ 63)
