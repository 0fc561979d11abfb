-- The lexemes of a text: RFC 8259, section 2, "A JSON text is a sequence of tokens", with "insignificant whitespace" between them.
-- A byte that begins no string, number or literal name is a lexeme by itself; the grammar has a place for six of them.
use Rattle.std.specs.Prelude.{ℕ, zero, suc, ◌+◌, Bool, true, false, cond, ◌&&◌, ◌||◌, List, [], ◌∷◌, eqb, leb, take, drop}
use Rattle.json_rule.specs.Letters.{bytes}

-- ---- bytes

abbrev pub within : ℕ → ℕ → ℕ → Bool
within least most b = leb least b && leb b most

abbrev pub quote : ℕ
quote = 34

abbrev pub backslash : ℕ
backslash = 92

abbrev pub minus : ℕ
minus = 45

abbrev pub zero_digit : ℕ
zero_digit = 48

-- space, tab, line feed, carriage return
unfoldable pub is_space : ℕ → Bool
is_space b = eqb b 32 || eqb b 9 || eqb b 10 || eqb b 13

unfoldable pub is_digit : ℕ → Bool
is_digit b = within 48 57 b

unfoldable pub is_hex : ℕ → Bool
is_hex b = is_digit b || within 65 70 b || within 97 102 b

-- what may stand behind a `\` besides `u`: `"` `\` `/` `b` `f` `n` `r` `t`
unfoldable pub is_short : ℕ → Bool
is_short b = eqb b quote || eqb b backslash || eqb b 47 || eqb b 98 || eqb b 102 || eqb b 110 || eqb b 114 || eqb b 116

-- ---- where a lexeme ends

-- what of the bytes behind its first one belongs to a lexeme: so many; or so many, and the next, which would have to, cannot
pub data Part : Type 0 where
  Ends : ℕ → Part
  Breaks : ℕ → Part

-- one byte more in front
abbrev pub further : Part → Part
further (Ends n) = Ends (suc n)
further (Breaks n) = Breaks (suc n)

-- How a character of several bytes goes on, by its first: how many follow the next one, and between which bounds that one lies. RFC 3629, section 4.
-- A byte that begins none has bounds between which nothing lies.
pub record Lead : Type 0 where
  pub more : ℕ
  pub least : ℕ
  pub most : ℕ

unfoldable pub lead_of : ℕ → Lead
lead_of b =
    cond (within 194 223 b) (record { more = 0; least = 128; most = 191 })
    (cond (eqb b 224) (record { more = 1; least = 160; most = 191 })
    (cond (eqb b 237) (record { more = 1; least = 128; most = 159 })
    (cond (within 225 239 b) (record { more = 1; least = 128; most = 191 })
    (cond (eqb b 240) (record { more = 2; least = 144; most = 191 })
    (cond (within 241 243 b) (record { more = 2; least = 128; most = 191 })
    (cond (eqb b 244) (record { more = 2; least = 128; most = 143 })
    (record { more = 0; least = 1; most = 0 })))))))

-- the byte begins a character of several bytes
unfoldable pub is_lead : ℕ → Bool
is_lead b = within 194 244 b

-- Section 7: string = quotation-mark *char quotation-mark; a char is unescaped, or `\` with one byte, or `\u` with 4HEXDIG. The text is UTF-8 (section 8.1).
unfoldable mutual
  pub string : List ℕ → Part
  string [] = Breaks 0
  string (b ∷ bs) =
      cond (eqb b quote) (Ends 1)
      (cond (eqb b backslash) (further (escape bs))
      (cond (within 32 127 b) (further (string bs))
      (cond (is_lead b) (further (tail (lead_of b).more (lead_of b).least (lead_of b).most bs))
      (Breaks 0))))

  pub escape : List ℕ → Part
  escape [] = Breaks 0
  escape (b ∷ bs) = cond (is_short b) (further (string bs)) (cond (eqb b 117) (further (hex 3 bs)) (Breaks 0))

  -- a hexadecimal digit, and so many more
  pub hex : ℕ → List ℕ → Part
  hex k [] = Breaks 0
  hex zero (b ∷ bs) = cond (is_hex b) (further (string bs)) (Breaks 0)
  hex (suc k) (b ∷ bs) = cond (is_hex b) (further (hex k bs)) (Breaks 0)

  -- a byte between bounds, and so many more of the same character
  pub tail : ℕ → ℕ → ℕ → List ℕ → Part
  tail k least most [] = Breaks 0
  tail zero least most (b ∷ bs) = cond (within least most b) (further (string bs)) (Breaks 0)
  tail (suc k) least most (b ∷ bs) = cond (within least most b) (further (tail k 128 191 bs)) (Breaks 0)

-- Section 6: number = [ minus ] int [ frac ] [ exp ]. From the last part to the first: each ends before a byte that does not continue it.
unfoldable pub power_digits : List ℕ → Part
power_digits [] = Ends 0
power_digits (b ∷ bs) = cond (is_digit b) (further (power_digits bs)) (Ends 0)

-- 1*DIGIT
unfoldable pub power : List ℕ → Part
power [] = Breaks 0
power (b ∷ bs) = cond (is_digit b) (further (power_digits bs)) (Breaks 0)

-- [ minus / plus ] 1*DIGIT
unfoldable pub signed_power : List ℕ → Part
signed_power [] = Breaks 0
signed_power (b ∷ bs) = cond (eqb b 43 || eqb b minus) (further (power bs)) (power (b ∷ bs))

-- exp = e [ minus / plus ] 1*DIGIT
unfoldable pub exponent : List ℕ → Part
exponent [] = Ends 0
exponent (b ∷ bs) = cond (eqb b 101 || eqb b 69) (further (signed_power bs)) (Ends 0)

unfoldable pub fraction_digits : List ℕ → Part
fraction_digits [] = Ends 0
fraction_digits (b ∷ bs) = cond (is_digit b) (further (fraction_digits bs)) (exponent (b ∷ bs))

-- 1*DIGIT behind the point
unfoldable pub after_point : List ℕ → Part
after_point [] = Breaks 0
after_point (b ∷ bs) = cond (is_digit b) (further (fraction_digits bs)) (Breaks 0)

-- frac = decimal-point 1*DIGIT
unfoldable pub fraction : List ℕ → Part
fraction [] = Ends 0
fraction (b ∷ bs) = cond (eqb b 46) (further (after_point bs)) (exponent (b ∷ bs))

unfoldable pub whole_digits : List ℕ → Part
whole_digits [] = Ends 0
whole_digits (b ∷ bs) = cond (is_digit b) (further (whole_digits bs)) (fraction (b ∷ bs))

-- int = zero / ( digit1-9 *DIGIT ), behind a minus
unfoldable pub after_minus : List ℕ → Part
after_minus [] = Breaks 0
after_minus (b ∷ bs) = cond (eqb b zero_digit) (further (fraction bs)) (cond (is_digit b) (further (whole_digits bs)) (Breaks 0))

-- Section 3: the letters of a literal name
unfoldable pub letters : List ℕ → List ℕ → Part
letters [] bs = Ends 0
letters (l ∷ ls) [] = Breaks 0
letters (l ∷ ls) (b ∷ bs) = cond (eqb b l) (further (letters ls bs)) (Breaks 0)

-- what belongs to the lexeme that a byte begins
unfoldable pub part_of : ℕ → List ℕ → Part
part_of b bs =
    cond (eqb b quote) (string bs)
    (cond (eqb b minus) (after_minus bs)
    (cond (eqb b zero_digit) (fraction bs)
    (cond (is_digit b) (whole_digits bs)
    (cond (eqb b 116) (letters (bytes "rue") bs)
    (cond (eqb b 102) (letters (bytes "alse") bs)
    (cond (eqb b 110) (letters (bytes "ull") bs)
    (Ends 0)))))))

-- ---- the lexemes of a text

-- A lexeme has its first byte, which tells its kind, the bytes behind that, and the place of the first. One that is not whole has the place of the byte that
-- cannot continue it, or the length of the text.
pub record Lexeme : Type 0 where
  pub head : ℕ
  pub body : List ℕ
  pub first : ℕ
  pub whole : Bool
  pub stop : ℕ

-- a lexeme and those behind it; none behind one that is not whole
abbrev pub followed : ℕ → List ℕ → ℕ → (ℕ → List ℕ → List Lexeme) → Part → List Lexeme
followed b bs place others (Ends n) = record { head = b; body = take n bs; first = place; whole = true; stop = 0 } ∷ others (suc place + n) (drop n bs)
followed b bs place others (Breaks n) = record { head = b; body = []; first = place; whole = false; stop = suc place + n } ∷ []

-- those of the bytes from a place on. Each takes a byte at least, so as many steps as there are bytes are enough.
unfoldable pub lexemes : ℕ → ℕ → List ℕ → List Lexeme
lexemes zero place bs = []
lexemes (suc steps) place [] = []
lexemes (suc steps) place (b ∷ bs) =
    cond (is_space b)
    (lexemes steps (suc place) bs)
    (followed b bs place (λ next rest. lexemes steps next rest) (part_of b bs))
