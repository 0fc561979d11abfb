-- What a text and a number stand for: RFC 8259, sections 6 to 8.
use Rattle.std.specs.Prelude.{ℕ, zero, suc, ◌+◌, ◌*◌, ◌-◌, ◌/◌, ◌%◌, Bool, cond, ◌&&◌, List, [], ◌∷◌, ◌++◌, eqb, leb, ltb, ℤ, pos, negsuc}
use Rattle.std.proofs.Math.Option.{Option, none, some}
use Rattle.rules.specs.Words.{all}
use Rattle.json_rule.specs.Lexemes.{Lexeme, within, quote, backslash, minus, is_digit}

-- ---- texts

-- a byte that stands for itself, or the number of an escape `\u`
pub data Unit : Type 0 where
  Byte : ℕ → Unit
  Code : ℕ → Unit

abbrev pub hex_value : ℕ → ℕ
hex_value b = cond (leb b 57) (b - 48) (cond (leb b 70) (b - 55) (b - 87))

-- the byte that `\` and a byte stand for: `b`, `f`, `n`, `r` and `t` for a control byte, the others for themselves
abbrev pub short_value : ℕ → ℕ
short_value b = cond (eqb b 98) 8 (cond (eqb b 102) 12 (cond (eqb b 110) 10 (cond (eqb b 114) 13 (cond (eqb b 116) 9 b))))

-- those of the bytes behind the first quotation mark, up to the last one
unfoldable mutual
  pub units : List ℕ → List Unit
  units [] = []
  units (b ∷ bs) = cond (eqb b quote) [] (cond (eqb b backslash) (escaped bs) (Byte b ∷ units bs))

  pub escaped : List ℕ → List Unit
  escaped [] = []
  escaped (b ∷ bs) = cond (eqb b 117) (coded 3 0 bs) (Byte (short_value b) ∷ units bs)

  -- a digit, so many more, and the value so far
  pub coded : ℕ → ℕ → List ℕ → List Unit
  coded k value [] = []
  coded zero value (b ∷ bs) = Code (value * 16 + hex_value b) ∷ units bs
  coded (suc k) value (b ∷ bs) = coded k (value * 16 + hex_value b) bs

-- the halves of a surrogate pair
abbrev pub is_high : ℕ → Bool
is_high c = within 55296 56319 c

abbrev pub is_low : ℕ → Bool
is_low c = within 56320 57343 c

abbrev pub joined : ℕ → ℕ → ℕ
joined high low = 65536 + (high - 55296) * 1024 + (low - 56320)

-- RFC 3629, section 3
unfoldable pub utf8 : ℕ → List ℕ
utf8 c =
    cond (ltb c 128) (c ∷ [])
    (cond (ltb c 2048) ((192 + c / 64) ∷ (128 + c % 64) ∷ [])
    (cond (ltb c 65536) ((224 + c / 4096) ∷ (128 + c / 64 % 64) ∷ (128 + c % 64) ∷ [])
    ((240 + c / 262144) ∷ (128 + c / 4096 % 64) ∷ (128 + c / 64 % 64) ∷ (128 + c % 64) ∷ [])))

abbrev pub before : List ℕ → Option (List ℕ) → Option (List ℕ)
before l none = none
before l (some m) = some (l ++ m)

-- the bytes of a text as UTF-8; none where half of a pair stands alone
unfoldable mutual
  pub encoded : List Unit → Option (List ℕ)
  encoded [] = some []
  encoded (Byte b ∷ us) = before (b ∷ []) (encoded us)
  encoded (Code c ∷ us) = cond (is_high c) (paired c us) (cond (is_low c) none (before (utf8 c) (encoded us)))

  pub paired : ℕ → List Unit → Option (List ℕ)
  paired high [] = none
  paired high (Byte b ∷ us) = none
  paired high (Code c ∷ us) = cond (is_low c) (before (utf8 (joined high c)) (encoded us)) none

-- the bytes of a lexeme that is a text
unfoldable pub text_of : Lexeme → Option (List ℕ)
text_of t = cond (eqb t.head quote) (encoded (units t.body)) none

-- ---- numbers

abbrev pub digits_value : ℕ → List ℕ → ℕ
digits_value value [] = value
digits_value value (b ∷ bs) = digits_value (value * 10 + (b - 48)) bs

-- `-0` is 0
abbrev pub negative : ℕ → ℤ
negative zero = pos 0
negative (suc n) = negsuc n

-- the whole number that a lexeme is, where it is one and has neither fraction nor exponent
unfoldable pub whole_number_of : Lexeme → Option ℤ
whole_number_of t =
    cond (eqb t.head minus && all is_digit t.body) (some (negative (digits_value 0 t.body)))
    (cond (is_digit t.head && all is_digit t.body) (some (pos (digits_value 0 (t.head ∷ t.body)))) none)
