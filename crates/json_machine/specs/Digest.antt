-- What a reader keeps of a text and of a number, a byte at a time.
use Rattle.std.specs.Prelude.{ℕ, suc, ◌+◌, ◌-◌, ◌*◌, ◌%◌, ◌^◌, ◌≡◌, Bool, false, cond, ◌||◌, List, [], ◌∷◌, eqb, leb, ltb, set}
use Rattle.json_rule.specs.Lexemes.{within, quote, backslash, is_digit, is_hex, is_short}
use Rattle.json_rule.specs.Values.{hex_value, short_value, is_high, is_low, utf8}
use Rattle.json_machine.specs.declared.Text.{Text}
use Rattle.json_machine.specs.declared.Number.{Number}
use Rattle.json_machine.specs.Modes.{text_mode, escape_mode, one_hex_mode, four_hex_mode, minus_mode, digits_mode, after_mode}

-- ---- bytes in slots

-- one more than the longest text that any record holds
abbrev pub kept_room : ℕ
kept_room = 97

-- how many are kept with one more
abbrev pub count_with : ℕ → ℕ
count_with len = cond (ltb len kept_room) (len + 1) len

abbrev pub slots_with : List ℕ → ℕ → ℕ → List ℕ
slots_with slots len b = cond (ltb len kept_room) (set slots len b) slots

-- the same with several
abbrev pub count_all : ℕ → List ℕ → ℕ
count_all len [] = len
count_all len (b ∷ bs) = count_all (count_with len) bs

abbrev pub slots_all : List ℕ → ℕ → List ℕ → List ℕ
slots_all slots len [] = slots
slots_all slots len (b ∷ bs) = slots_all (slots_with slots len b) (count_with len) bs

-- so many are kept, in these slots, where bytes were added to slots that held some
pub record Keeps (slots : List ℕ) (len : ℕ) (bs : List ℕ) (count : ℕ) (after : List ℕ) : Type 0 where
  pub counts : count ≡ count_all len bs
  pub bytes : after ≡ slots_all slots len bs

-- ---- texts

-- the value of a hexadecimal digit; 16 of any other byte
unfoldable pub hex_of : ℕ → ℕ
hex_of b = cond (is_hex b) (hex_value b) 16

-- what a short escape stands for; 0 of any other byte
unfoldable pub escaped_of : ℕ → ℕ
escaped_of b = cond (is_short b) (short_value b) 0

-- the character that both halves of a pair say
abbrev pub pair_of : ℕ → ℕ → ℕ
pair_of high low = 65536 + high % 1024 * 1024 + low % 1024

-- the length of a text that has half of a pair without the other: no text that is kept has it
abbrev pub lone_length : ℕ
lone_length = 98

abbrev pub blank_text : Text
blank_text = record { len = 0; unit = 0; high = 0 }

abbrev pub counted : ℕ → Text → Text
counted n t = record { len = n; unit = t.unit; high = t.high }

abbrev pub saying : ℕ → Text → Text
saying u t = record { len = t.len; unit = u; high = t.high }

abbrev pub waiting : ℕ → Text → Text
waiting c t = record { len = t.len; unit = t.unit; high = c }

-- what comes next is no low half: one that waits for it stood without the other
unfoldable pub settled : Text → Text
settled t = cond (eqb t.high 0) t (counted lone_length (waiting 0 t))

-- a text and its slots
pub record Held : Type 0 where
  pub text : Text
  pub slots : List ℕ

abbrev pub held : Text → List ℕ → Held
held t slots = record { text = t; slots = slots }

-- with these bytes more
unfoldable pub keeping : List ℕ → Held → Held
keeping bs h = held (counted (count_all h.text.len bs) h.text) (slots_all h.slots h.text.len bs)

abbrev pub settled_held : Held → Held
settled_held h = held (settled h.text) h.slots

-- with a low half: it stands without the other, or both say a character
unfoldable pub with_low : ℕ → Held → Held
with_low low h =
    cond (eqb h.text.high 0)
    (held (counted lone_length h.text) h.slots)
    (keeping (utf8 (pair_of h.text.high low)) (held (waiting 0 h.text) h.slots))

-- with what four hexadecimal digits say: half of a pair, or a character
unfoldable pub with_unit : ℕ → Held → Held
with_unit u h =
    cond (is_low u) (with_low u h)
    (cond (is_high u) (held (waiting u (settled h.text)) h.slots)
    (keeping (utf8 u) (settled_held h)))

-- a byte that stands for itself; the quotation mark ends the text, and a backslash waits for what follows
unfoldable pub held_in_text : ℕ → Held → Held
held_in_text b h = cond (eqb b quote) (settled_held h) (cond (eqb b backslash) h (keeping (b ∷ []) (settled_held h)))

unfoldable pub held_in_escape : ℕ → Held → Held
held_in_escape b h = cond (eqb b 117) h (keeping (escaped_of b ∷ []) (settled_held h))

-- the last four digits
abbrev pub unit_with : ℕ → ℕ → ℕ
unit_with u b = u % 4096 * 16 + hex_of b % 16

-- one more hexadecimal digit: the last says the unit
unfoldable pub held_in_hex : ℕ → ℕ → Held → Held
held_in_hex m b h =
    let u = unit_with h.text.unit b in
    let said = held (saying u h.text) h.slots in
    cond (eqb m one_hex_mode) (with_unit u said) said

-- with one byte more that continues the text, by the mode before it
unfoldable pub held_after : ℕ → ℕ → Held → Held
held_after m b h =
    cond (eqb m text_mode) (held_in_text b h)
    (cond (eqb m escape_mode) (held_in_escape b h)
    (cond (leb m four_hex_mode) (held_in_hex m b h)
    (keeping (b ∷ []) h)))

-- with the bytes of a text from a mode on
unfoldable pub held_over : ℕ → Held → List ℕ → Held
held_over m h [] = h
held_over m h (b ∷ bs) = held_over (after_mode m b) (held_after m b h) bs

-- ---- numbers

abbrev pub blank_number : Number
blank_number = record { magnitude = 0; over = 0 }

-- with one more digit: what does not fit is not kept
unfoldable pub with_digit : Number → ℕ → Number
with_digit n d =
    cond (ltb 0 n.over) n
    (cond (ltb (n.magnitude * 10 + d) (2 ^ 64))
    (record { magnitude = n.magnitude * 10 + d; over = 0 })
    (record { magnitude = n.magnitude; over = 1 }))

-- with one byte more before its point and its exponent: a digit, or the minus, which counts nothing
unfoldable pub number_with : Number → ℕ → Number
number_with n b = cond (is_digit b) (with_digit n (b - 48)) n

-- the next digit of a number stands before its point and its exponent
unfoldable pub is_before_point : ℕ → Bool
is_before_point m = eqb m minus_mode || eqb m digits_mode

-- with one byte more that continues it, by the mode before that byte
abbrev pub number_after : ℕ → ℕ → Number → Number
number_after m b n = cond (is_before_point m) (number_with n b) n

-- with the bytes of a number from a mode on
unfoldable pub number_over : ℕ → Number → List ℕ → Number
number_over m n [] = n
number_over m n (b ∷ bs) = number_over (after_mode m b) (number_after m b n) bs

-- ---- plain bytes

-- a byte of a text that stands for itself and is a character
unfoldable pub is_plain : ℕ → Bool
is_plain b = cond (eqb b quote) false (cond (eqb b backslash) false (within 32 127 b))

-- how many of them stand in front
abbrev pub plain_run : List ℕ → ℕ
plain_run [] = 0
plain_run (b ∷ bs) = cond (is_plain b) (suc (plain_run bs)) 0
