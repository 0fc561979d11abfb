-- In which mode a reader of lexemes is, and what a byte does to it: for each mode, or for each few that differ in a number, the mode after a byte.
use Rattle.std.specs.Prelude.{ℕ, Bool, cond, ◌||◌, List, [], ◌∷◌, eqb, leb}
use Rattle.json_rule.specs.Lexemes.{within, quote, backslash, minus, zero_digit, is_space, is_digit, is_hex, is_short}

-- ---- the modes

-- between lexemes
abbrev pub between_mode : ℕ
between_mode = 0

-- in a text, and behind a backslash there
abbrev pub text_mode : ℕ
text_mode = 1

abbrev pub escape_mode : ℕ
escape_mode = 2

-- so many hexadecimal digits of an escape are left
abbrev pub one_hex_mode : ℕ
one_hex_mode = 3

abbrev pub two_hex_mode : ℕ
two_hex_mode = 4

abbrev pub three_hex_mode : ℕ
three_hex_mode = 5

abbrev pub four_hex_mode : ℕ
four_hex_mode = 6

-- so many bytes of a character are left, each 80 to BF; or that many behind these first bytes, which narrow the second
abbrev pub one_more_mode : ℕ
one_more_mode = 7

abbrev pub two_more_mode : ℕ
two_more_mode = 8

abbrev pub three_more_mode : ℕ
three_more_mode = 9

abbrev pub after_e0_mode : ℕ
after_e0_mode = 10

abbrev pub after_ed_mode : ℕ
after_ed_mode = 11

abbrev pub after_f0_mode : ℕ
after_f0_mode = 12

abbrev pub after_f4_mode : ℕ
after_f4_mode = 13

-- in a number: behind its minus, its leading zero, a digit before the point, the point, a digit behind it, the `e`, the sign behind that, a digit of the exponent
abbrev pub minus_mode : ℕ
minus_mode = 14

abbrev pub zero_mode : ℕ
zero_mode = 15

abbrev pub digits_mode : ℕ
digits_mode = 16

abbrev pub point_mode : ℕ
point_mode = 17

abbrev pub fraction_mode : ℕ
fraction_mode = 18

abbrev pub exponent_mode : ℕ
exponent_mode = 19

abbrev pub sign_mode : ℕ
sign_mode = 20

abbrev pub power_mode : ℕ
power_mode = 21

-- in a literal name: which letters are left
abbrev pub rue_mode : ℕ
rue_mode = 22

abbrev pub ue_mode : ℕ
ue_mode = 23

abbrev pub e_mode : ℕ
e_mode = 24

abbrev pub alse_mode : ℕ
alse_mode = 25

abbrev pub lse_mode : ℕ
lse_mode = 26

abbrev pub se_mode : ℕ
se_mode = 27

abbrev pub ull_mode : ℕ
ull_mode = 28

abbrev pub ll_mode : ℕ
ll_mode = 29

abbrev pub l_mode : ℕ
l_mode = 30

-- behind a broken lexeme nothing is read
abbrev pub stopped_mode : ℕ
stopped_mode = 31

-- no modes, but what a byte does to the lexeme: it ends it, it can not continue it, or it shows that the lexeme, a number, ended before it
abbrev pub whole : ℕ
whole = 32

abbrev pub broken : ℕ
broken = 33

abbrev pub ended : ℕ
ended = 34

-- ---- the mode after a byte, by the mode before it

-- the first byte of a lexeme, or a space; a byte that begins no value is a lexeme by itself
unfoldable pub begun : ℕ → ℕ
begun b =
    cond (is_space b) between_mode
    (cond (eqb b quote) text_mode
    (cond (eqb b minus) minus_mode
    (cond (eqb b zero_digit) zero_mode
    (cond (is_digit b) digits_mode
    (cond (eqb b 116) rue_mode
    (cond (eqb b 102) alse_mode
    (cond (eqb b 110) ull_mode
    whole)))))))

-- the first byte of a character of two to four
unfoldable pub in_wide : ℕ → ℕ
in_wide b =
    cond (within 194 223 b) one_more_mode
    (cond (eqb b 224) after_e0_mode
    (cond (eqb b 237) after_ed_mode
    (cond (within 225 239 b) two_more_mode
    (cond (eqb b 240) after_f0_mode
    (cond (within 241 243 b) three_more_mode
    (cond (eqb b 244) after_f4_mode
    broken))))))

unfoldable pub in_text : ℕ → ℕ
in_text b = cond (eqb b quote) whole (cond (eqb b backslash) escape_mode (cond (within 32 127 b) text_mode (in_wide b)))

unfoldable pub in_escape : ℕ → ℕ
in_escape b = cond (is_short b) text_mode (cond (eqb b 117) four_hex_mode broken)

-- a hexadecimal digit, and the mode behind it
abbrev pub in_hex : ℕ → ℕ → ℕ
in_hex next b = cond (is_hex b) next broken

-- a byte of a character, from the least to the most that may stand there, and the mode behind it
abbrev pub in_character : ℕ → ℕ → ℕ → ℕ → ℕ
in_character least most next b = cond (within least most b) next broken

unfoldable pub in_minus : ℕ → ℕ
in_minus b = cond (eqb b zero_digit) zero_mode (cond (is_digit b) digits_mode broken)

-- an `e`, or the number has ended
abbrev pub at_exponent : ℕ → ℕ
at_exponent b = cond (eqb b 101 || eqb b 69) exponent_mode ended

unfoldable pub in_zero : ℕ → ℕ
in_zero b = cond (eqb b 46) point_mode (at_exponent b)

unfoldable pub in_digits : ℕ → ℕ
in_digits b = cond (is_digit b) digits_mode (in_zero b)

-- where a digit must stand, and the mode behind it
abbrev pub at_digit : ℕ → ℕ → ℕ
at_digit next b = cond (is_digit b) next broken

unfoldable pub in_fraction : ℕ → ℕ
in_fraction b = cond (is_digit b) fraction_mode (at_exponent b)

unfoldable pub in_exponent : ℕ → ℕ
in_exponent b = cond (eqb b 43 || eqb b minus) sign_mode (at_digit power_mode b)

abbrev pub in_power : ℕ → ℕ
in_power b = cond (is_digit b) power_mode ended

-- a letter of a literal name, and the mode behind it
abbrev pub in_word : ℕ → ℕ → ℕ → ℕ
in_word letter next b = cond (eqb b letter) next broken

unfoldable pub after_text : ℕ → ℕ → ℕ
after_text m b =
    cond (eqb m text_mode) (in_text b)
    (cond (eqb m escape_mode) (in_escape b)
    (cond (eqb m one_hex_mode) (in_hex text_mode b)
    (cond (eqb m two_hex_mode) (in_hex one_hex_mode b)
    (cond (eqb m three_hex_mode) (in_hex two_hex_mode b)
    (cond (eqb m four_hex_mode) (in_hex three_hex_mode b)
    (cond (eqb m one_more_mode) (in_character 128 191 text_mode b)
    (cond (eqb m two_more_mode) (in_character 128 191 one_more_mode b)
    (cond (eqb m three_more_mode) (in_character 128 191 two_more_mode b)
    (cond (eqb m after_e0_mode) (in_character 160 191 one_more_mode b)
    (cond (eqb m after_ed_mode) (in_character 128 159 one_more_mode b)
    (cond (eqb m after_f0_mode) (in_character 144 191 two_more_mode b)
    (in_character 128 143 two_more_mode b))))))))))))

unfoldable pub after_number : ℕ → ℕ → ℕ
after_number m b =
    cond (eqb m minus_mode) (in_minus b)
    (cond (eqb m zero_mode) (in_zero b)
    (cond (eqb m digits_mode) (in_digits b)
    (cond (eqb m point_mode) (at_digit fraction_mode b)
    (cond (eqb m fraction_mode) (in_fraction b)
    (cond (eqb m exponent_mode) (in_exponent b)
    (cond (eqb m sign_mode) (at_digit power_mode b)
    (in_power b)))))))

-- in a literal name, or behind a broken lexeme
unfoldable pub after_word : ℕ → ℕ → ℕ
after_word m b =
    cond (eqb m rue_mode) (in_word 114 ue_mode b)
    (cond (eqb m ue_mode) (in_word 117 e_mode b)
    (cond (eqb m e_mode) (in_word 101 whole b)
    (cond (eqb m alse_mode) (in_word 97 lse_mode b)
    (cond (eqb m lse_mode) (in_word 108 se_mode b)
    (cond (eqb m se_mode) (in_word 115 e_mode b)
    (cond (eqb m ull_mode) (in_word 117 ll_mode b)
    (cond (eqb m ll_mode) (in_word 108 l_mode b)
    (cond (eqb m l_mode) (in_word 108 whole b)
    stopped_mode))))))))

-- the mode after a byte, or what the byte does to the lexeme
unfoldable pub after_mode : ℕ → ℕ → ℕ
after_mode m b =
    cond (eqb m between_mode) (begun b)
    (cond (leb m after_f4_mode) (after_text m b)
    (cond (leb m power_mode) (after_number m b)
    (after_word m b)))

-- the mode after the bytes of a lexeme
unfoldable pub mode_over : ℕ → List ℕ → ℕ
mode_over m [] = m
mode_over m (b ∷ bs) = mode_over (after_mode m b) bs

-- ---- the end of a number

-- the number may end in this mode
unfoldable pub may_end : ℕ → Bool
may_end m = eqb m zero_mode || eqb m digits_mode || eqb m fraction_mode || eqb m power_mode

-- a number that ends in this mode has neither fraction nor exponent
unfoldable pub is_integer : ℕ → Bool
is_integer m = eqb m zero_mode || eqb m digits_mode
