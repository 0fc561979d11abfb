-- What the writer writes, the reader reads: the text of a number is the token of that number.
use Rattle.std.proofs.Common.{◌≡◌, ℕ, zero, suc, ◌+◌, ◌-◌, ◌*◌, ◌/◌, ◌%◌, ◌^◌, ◌<◌, ◌≤◌, Bool, true, false, List, [], ◌∷◌, ◌++◌, ℤ, pos, negsuc, nat_abs, refl, ap, ◌∙◌, pow-suc, arith, lt-ltb, le-leb}
use Rattle.io.specs.Digits.{last_digits, hex_digit_ascii, IsDigitCount}
use Rattle.tokens.specs.declared.token.Token.{Token}
use Rattle.tokens.specs.declared.token.Token.TheVariants.{Blank, Minus}
use Rattle.tokens.specs.Token.{blank, largest, numeral, with_byte, with_bytes, with_digit, with_minus}
use Rattle.tokens.specs.Widths.{number_of}
use Rattle.tokens.specs.Writer.{is_below_zero, sign}

with_both : (t : Token) (xs ys : List ℕ) → with_bytes t (xs ++ ys) ≡ with_bytes (with_bytes t xs) ys
with_both t [] ys = refl
with_both t (x ∷ xs) ys = with_both (with_byte t x) xs ys

worth : (d : ℕ) → 48 + d - 48 ≡ d
worth d = omega arith

-- a sign, with no digit yet
signed : Bool → Token
signed true = Minus
signed false = Blank

first_digit : (negative : Bool) (n : ℕ) → n < 10 → with_byte (signed negative) (hex_digit_ascii (n % 10)) ≡ numeral negative n
unfolding signed with_byte with_digit
first_digit true n h =
    let same : n % 10 ≡ n = omega arith in
    rw (same, lt-ltb n 10 h, le-leb 48 (48 + n) (omega arith), le-leb (48 + n) 57 (omega arith), worth n)
first_digit false n h =
    let same : n % 10 ≡ n = omega arith in
    rw (same, lt-ltb n 10 h, le-leb 48 (48 + n) (omega arith), le-leb (48 + n) 57 (omega arith), worth n)

next_digit : (negative : Bool) (n : ℕ) → n ≤ largest → with_byte (numeral negative (n / 10)) (hex_digit_ascii (n % 10)) ≡ numeral negative n
unfolding with_byte with_digit
next_digit negative n h =
    let d = n % 10 in
    let whole : n / 10 * 10 + d ≡ n = omega arith in
    rw (lt-ltb d 10 (omega arith), le-leb 48 (48 + d) (omega arith), le-leb (48 + d) 57 (omega arith), worth d, whole, le-leb n largest h)

with_sign : (negative : Bool) → with_bytes blank (sign negative) ≡ signed negative
unfolding signed with_byte with_minus
with_sign true = refl
with_sign false = refl

with_digits : (negative : Bool) (k n : ℕ) → n < 10 ^ suc k → n ≤ largest → with_bytes (signed negative) (last_digits 10 (suc k) n) ≡ numeral negative n
with_digits negative zero n h l = first_digit negative n (omega arith)
with_digits negative (suc k) n h l =
    let less : n / 10 < 10 ^ suc k = omega (arith, rw pow-suc at h) in
    with_both (signed negative) (last_digits 10 (suc k) (n / 10)) (hex_digit_ascii (n % 10) ∷ [])
    ∙ rw (with_digits negative k (n / 10) less (omega arith)) (next_digit negative n l)

pub read_back : (negative : Bool) (n k : ℕ) → IsDigitCount 10 1 n k → n ≤ largest → with_bytes blank (sign negative ++ last_digits 10 k n) ≡ numeral negative n
read_back negative n zero f l = absurd (omega arith)
read_back negative n (suc k) f l =
    with_both blank (sign negative) (last_digits 10 (suc k) n)
    ∙ ap (λ (t : Token). with_bytes t (last_digits 10 (suc k) n)) (with_sign negative)
    ∙ with_digits negative k n f.1 l

pub number_back : (z : ℤ) → number_of (is_below_zero z) (nat_abs z) ≡ z
number_back (pos n) = refl
number_back (negsuc n) = refl
