-- Numbers as they are written: the digits of a number are one lexeme, and read back they are that number.
use Prim.Native.Nat.{ℕ, zero, suc, ◌+◌, ◌*◌, ◌-◌, ◌/◌, ◌%◌, ◌^◌, ◌≤◌, ◌<◌}
use native.Mathlib.Omega.{arith}
use mathlib.Core.Path.{◌≡◌, refl, ◌∙◌, sym, ap}
use mathlib.Core.Bool.{Bool, true, false, false≢true}
use mathlib.Core.List.{List, [], ◌∷◌, ◌++◌}
use mathlib.Core.Option.{some}
use lib.Dec.{eqb, ltb}
use lib.IntN.{ℤ, pos, negsuc}
use lib.ListN.{length}
use borrow.Author.Tests.{eqb-true, ltb-true, ltb-false, le-leb, ne_eqb}
use Rattle.rules.specs.Words.{all}
use Rattle.rules.proofs.Checks.{by_test, both, and_left, and_right}
use Rattle.json_rule.specs.Lexemes.{is_space, is_digit, Ends, further, exponent, fraction, whole_digits, after_minus, part_of}
use Rattle.json_rule.specs.Values.{digits_value, whole_number_of}
use Rattle.json_rule.specs.Tree.{is_scalar}
use Rattle.file_rule.specs.Written.{digits_in, number_text}
use Rattle.file_round.proofs.Documents.{Token, Good, Ending, at_end, a_comma, a_colon, a_bracket, a_brace, lexeme_of}

-- ---- digits

-- it has at most twenty digits
abbrev pub Fitting : ℤ → Type 0
Fitting (pos n) = n < 10 ^ 20
Fitting (negsuc n) = suc n < 10 ^ 20

is_digit_lem : (n : ℕ) → n < 10 → is_digit (48 + n) ≡ true
unfolding is_digit
is_digit_lem n h = both (le-leb 48 (48 + n) (omega arith)) (le-leb (48 + n) 57 (omega arith))

-- a digit that is not 0, and digits
pub data Digits : List ℕ → Type 0 where
  digits : (b : ℕ) (bs : List ℕ) → is_digit b ≡ true → eqb b 48 ≡ false → all is_digit bs ≡ true → Digits (b ∷ bs)

all_snoc : (bs : List ℕ) (d : ℕ) → all is_digit bs ≡ true → is_digit d ≡ true → all is_digit (bs ++ (d ∷ [])) ≡ true
all_snoc [] d h k = both k refl
all_snoc (b ∷ bs) d h k = both (and_left (is_digit b) (all is_digit bs) h) (all_snoc bs d (and_right (is_digit b) (all is_digit bs) h) k)

digits_snoc : {bs : List ℕ} (d : ℕ) → Digits bs → is_digit d ≡ true → Digits (bs ++ (d ∷ []))
digits_snoc d (digits b bs x y z) k = digits b (bs ++ (d ∷ [])) x y (all_snoc bs d z k)

value_snoc : (v : ℕ) (bs : List ℕ) (d : ℕ) → digits_value v (bs ++ (d ∷ [])) ≡ digits_value v bs * 10 + (d - 48)
value_snoc v [] d = refl
value_snoc v (b ∷ bs) d = value_snoc (v * 10 + (b - 48)) bs d

digits_of : (steps n : ℕ) → 0 < n → n < 10 ^ steps → Digits (digits_in steps n)
unfolding digits_in
digits_of zero n p h = absurd (omega arith)
digits_of (suc steps) n p h =
    by_test Digits (ltb n 10) (λ q. let k : n < 10 = ltb-true n 10 q in digits (48 + n) [] (is_digit_lem n k) (ne_eqb (48 + n) 48 (λ e. omega arith)) refl)
    (λ q. let k : 10 ≤ n = ltb-false n 10 q in digits_snoc (48 + n % 10) (digits_of steps (n / 10) (omega arith) (omega arith)) (is_digit_lem (n % 10) (omega arith)))

digits_value_lem : (steps n : ℕ) → n < 10 ^ steps → digits_value 0 (digits_in steps n) ≡ n
unfolding digits_in
digits_value_lem zero n h = omega arith
digits_value_lem (suc steps) n h =
    by_test (λ l. digits_value 0 l ≡ n) (ltb n 10) (λ q. omega arith)
    (λ q. value_snoc 0 (digits_in steps (n / 10)) (48 + n % 10) ∙ ap (λ x. x * 10 + (48 + n % 10 - 48)) (digits_value_lem steps (n / 10) (omega arith)) ∙ omega arith)

-- ---- one lexeme

no_digit : {rest : List ℕ} → Ending rest → whole_digits rest ≡ Ends 0
unfolding whole_digits is_digit fraction exponent
no_digit at_end = refl
no_digit (a_comma rest) = refl
no_digit (a_colon rest) = refl
no_digit (a_bracket rest) = refl
no_digit (a_brace rest) = refl

no_fraction : {rest : List ℕ} → Ending rest → fraction rest ≡ Ends 0
unfolding fraction exponent
no_fraction at_end = refl
no_fraction (a_comma rest) = refl
no_fraction (a_colon rest) = refl
no_fraction (a_bracket rest) = refl
no_fraction (a_brace rest) = refl

whole_digits_lem : (bs rest : List ℕ) → all is_digit bs ≡ true → Ending rest → whole_digits (bs ++ rest) ≡ Ends (length bs)
unfolding whole_digits
whole_digits_lem [] rest h e = no_digit e
whole_digits_lem (b ∷ bs) rest h e = rw (and_left (is_digit b) (all is_digit bs) h) (ap further (whole_digits_lem bs rest (and_right (is_digit b) (all is_digit bs) h) e))

-- what is written of a number, from its first byte on
data Figures : ℤ → List ℕ → Type 0 where
  nothing : Figures (pos 0) (48 ∷ [])
  some_of : {s : List ℕ} (n : ℕ) → Digits s → digits_value 0 s ≡ n → Figures (pos n) s
  below : {s : List ℕ} (n : ℕ) → Digits s → digits_value 0 s ≡ suc n → Figures (negsuc n) (45 ∷ s)

figures : (z : ℤ) → Fitting z → Figures z (number_text z)
unfolding number_text digits_in
figures (pos zero) h = nothing
figures (pos (suc n)) h = some_of (suc n) (digits_of 20 (suc n) (omega arith) h) (digits_value_lem 20 (suc n) h)
figures (negsuc n) h = below n (digits_of 20 (suc n) (omega arith) h) (digits_value_lem 20 (suc n) h)

not_digit : (b c : ℕ) → is_digit b ≡ true → is_digit c ≡ false → eqb b c ≡ false
not_digit b c h k = by_eqb (eqb b c) refl
  where
    by_eqb : (t : Bool) → eqb b c ≡ t → t ≡ false
    by_eqb true e = absurd (false≢true (sym k ∙ (rw (eqb-true b c e) at h)))
    by_eqb false e = refl

not_space : (b : ℕ) → is_digit b ≡ true → is_space b ≡ false
unfolding is_space is_digit
not_space b h = rw (not_digit b 32 h refl, not_digit b 9 h refl, not_digit b 10 h refl, not_digit b 13 h refl)

digit_part : (b : ℕ) (bs : List ℕ) → is_digit b ≡ true → eqb b 48 ≡ false → part_of b bs ≡ whole_digits bs
unfolding part_of is_digit
digit_part b bs x y = rw (not_digit b 34 x refl, not_digit b 45 x refl, y, x)

digit_scalar : (b : ℕ) (bs : List ℕ) → is_digit b ≡ true → is_scalar (lexeme_of 0 (b ∷ bs)) ≡ true
unfolding is_scalar is_digit
digit_scalar b bs x = rw (not_digit b 34 x refl, not_digit b 45 x refl, x)

no_bracket : (b : ℕ) → is_digit b ≡ true → (eqb b 91 ≡ false) × (eqb b 123 ≡ false)
unfolding is_digit
no_bracket b x = (not_digit b 91 x refl, not_digit b 123 x refl)

digits_token : {s : List ℕ} → Digits s → Good 0 (Token s)
digits_token (digits b bs x y z) =
    (record { begins = refl; no_space = not_space b x; ends = λ rest e. digit_part b (bs ++ rest) x y ∙ whole_digits_lem bs rest z e }, digit_scalar b bs x, (no_bracket b x).0, (no_bracket b x).1)

after_minus_lem : {s : List ℕ} → Digits s → (rest : List ℕ) → Ending rest → after_minus (s ++ rest) ≡ Ends (length s)
unfolding after_minus
after_minus_lem (digits b bs x y z) rest e = rw (y, x) (ap further (whole_digits_lem bs rest z e))

zero_ends : (rest : List ℕ) → Ending rest → part_of 48 rest ≡ Ends 0
unfolding part_of
zero_ends rest e = no_fraction e

minus_ends : {s : List ℕ} → Digits s → (rest : List ℕ) → Ending rest → part_of 45 (s ++ rest) ≡ Ends (length s)
unfolding part_of
minus_ends d rest e = after_minus_lem d rest e

figures_token : {z : ℤ} {s : List ℕ} → Figures z s → Good 0 (Token s)
unfolding is_space is_scalar is_digit
figures_token nothing = (record { begins = refl; no_space = refl; ends = zero_ends }, refl, refl, refl)
figures_token (some_of n d v) = digits_token d
figures_token (below n d v) = (record { begins = refl; no_space = refl; ends = minus_ends d }, refl, refl, refl)

pub all_digits : {s : List ℕ} → Digits s → all is_digit s ≡ true
all_digits (digits b bs x y z) = both x z

positive_read : (place : ℕ) {s : List ℕ} → Digits s → whole_number_of (lexeme_of place s) ≡ some (pos (digits_value 0 s))
unfolding whole_number_of is_digit
positive_read place (digits b bs x y z) = rw (not_digit b 45 x refl, x, z)

negative_read : (place : ℕ) (s : List ℕ) (n : ℕ) → all is_digit s ≡ true → digits_value 0 s ≡ suc n → whole_number_of (lexeme_of place (45 ∷ s)) ≡ some (negsuc n)
unfolding whole_number_of
negative_read place s n h v = rw (h, v)

figures_read : (place : ℕ) {z : ℤ} {s : List ℕ} → Figures z s → whole_number_of (lexeme_of place s) ≡ some z
unfolding whole_number_of is_digit
figures_read place nothing = refl
figures_read place (some_of n d v) = positive_read place d ∙ ap (λ x. some (pos x)) v
figures_read place (below {s} n d v) = negative_read place s n (all_digits d) v

-- ---- numbers

pub number_token : (z : ℤ) → Fitting z → Good 0 (Token (number_text z))
number_token z h = figures_token (figures z h)

pub number_read : (place : ℕ) (z : ℤ) → Fitting z → whole_number_of (lexeme_of place (number_text z)) ≡ some z
number_read place z h = figures_read place (figures z h)

-- those of a bucket
pub digits_written : (n : ℕ) → 0 < n → n < 10 ^ 20 → Digits (digits_in 20 n)
digits_written n p h = digits_of 20 n p h

pub digits_read : (n : ℕ) → n < 10 ^ 20 → digits_value 0 (digits_in 20 n) ≡ n
digits_read n h = digits_value_lem 20 n h
