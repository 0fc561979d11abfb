-- The lexeme that a reader is in, with one byte more.
use Rattle.std.specs.Prelude.{ℕ, suc, ◌%◌, Bool, false, cond, List, [], ◌∷◌, eqb, leb, ltb}
use Rattle.json_machine.specs.declared.Text.{Text}
use Rattle.json_machine.specs.declared.Number.{Number}
use Rattle.json_machine.specs.declared.Lexer.{Lexer}
use Rattle.json_machine.specs.Modes.{between_mode, after_f4_mode, after_mode, is_integer}
use Rattle.json_machine.specs.Digest.{blank_text, blank_number, Held, held, held_after, number_with, is_before_point}

abbrev pub between_lexemes : Lexer
between_lexemes = record { mode = between_mode; head = 0; first = 0; text = blank_text; number = blank_number }

abbrev pub in_mode : ℕ → Lexer → Lexer
in_mode m l = record { mode = m; head = l.head; first = l.first; text = l.text; number = l.number }

abbrev pub with_text : Text → Lexer → Lexer
with_text t l = record { mode = l.mode; head = l.head; first = l.first; text = t; number = l.number }

abbrev pub with_number : Number → Lexer → Lexer
with_number n l = record { mode = l.mode; head = l.head; first = l.first; text = l.text; number = n }

-- the lexeme, if it is one, that begins with a byte at a place
abbrev pub beginning : ℕ → ℕ → Lexer
beginning b place = record { mode = between_mode; head = b; first = place; text = blank_text; number = number_with blank_number b }

-- a lexer and the slots of a text
pub record Reading : Type 0 where
  pub lexer : Lexer
  pub slots : List ℕ

abbrev pub reading : Lexer → List ℕ → Reading
reading l slots = record { lexer = l; slots = slots }

abbrev pub text_read : Held → Lexer → Reading
text_read h l = reading (with_text h.text l) h.slots

-- with one more byte that continues the lexeme, or begins one; the mode is still the one before that byte
unfoldable pub with_next : ℕ → ℕ → Reading → Reading
with_next b place r =
    cond (eqb r.lexer.mode between_mode) (reading (beginning b place) r.slots)
    (cond (leb r.lexer.mode after_f4_mode) (text_read (held_after r.lexer.mode b (held r.lexer.text r.slots)) r.lexer)
    (cond (is_before_point r.lexer.mode) (reading (with_number (number_with r.lexer.number b) r.lexer) r.slots)
    r))

-- the first byte of the lexeme
abbrev pub head_of : Lexer → ℕ
head_of l = l.head % 256

-- the lexeme, a number that ends in this mode, is an integer below 2^64
unfoldable pub is_whole_number : Lexer → Bool
is_whole_number l = cond (ltb 0 l.number.over) false (is_integer l.mode)

-- with a byte at a place, in the mode behind it
abbrev pub read_byte : ℕ → ℕ → Reading → Reading
read_byte b place r = reading (in_mode (after_mode r.lexer.mode b) (with_next b place r).lexer) (with_next b place r).slots

-- with bytes from a place on
unfoldable pub read_over : ℕ → Reading → List ℕ → Reading
read_over place r [] = r
read_over place r (b ∷ bs) = read_over (suc place) (read_byte b place r) bs
