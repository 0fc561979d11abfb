-- Bytes, one after another, to what takes the lexemes of a text: each whole one as it is read, and one that is broken.
use Rattle.std.specs.Prelude.{ℕ, suc, cond, List, [], ◌∷◌, eqb, ltb}
use Rattle.json_rule.specs.Lexemes.{Lexeme}
use Rattle.json_machine.specs.Modes.{between_mode, stopped_mode, whole, broken, ended, after_mode, may_end}
use Rattle.json_machine.specs.Lexing.{in_mode, Reading, reading, with_next, head_of, read_byte}

-- What a whole lexeme does, and a broken one, of which its first byte is known, the place of that, and the place where it breaks.
pub record Sink (X : Type 0) : Type 0 where
  pub on_whole : Reading → X → X
  pub on_broken : ℕ → ℕ → ℕ → X → X

-- a reader: the lexeme that it is in, and what took the lexemes before it
pub record Fed (X : Type 0) : Type 0 where
  pub reading : Reading
  pub sink : X

module _ {X : Type 0} where
  abbrev pub fed : Reading → X → Fed X
  fed r x = record { reading = r; sink = x }

  abbrev pub mode_in : Fed X → ℕ
  mode_in z = z.reading.lexer.mode

  -- those that take these lexemes, one after another
  abbrev pub takes_all : (X → Lexeme → X) → X → List Lexeme → X
  takes_all takes x [] = x
  takes_all takes x (t ∷ ts) = takes_all takes (takes x t) ts

module _ {X : Type 0} (s : Sink X) where
  -- the lexeme is whole
  abbrev pub whole_fed : Reading → X → Fed X
  whole_fed r x = fed (reading (in_mode between_mode r.lexer) r.slots) (s.on_whole r x)

  -- the byte at a place can not continue it
  abbrev pub broken_fed : ℕ → Fed X → Fed X
  broken_fed place z = fed (reading (in_mode stopped_mode z.reading.lexer) z.reading.slots) (s.on_broken (head_of z.reading.lexer) z.reading.lexer.first place z.sink)

  -- the byte at a place, by what it does to the lexeme, where it does not show that a number ended before it
  unfoldable pub fed_once : ℕ → ℕ → Fed X → Fed X
  fed_once b place z =
      cond (eqb (after_mode (mode_in z) b) broken) (broken_fed place z)
      (cond (ltb (after_mode (mode_in z) b) whole) (fed (read_byte b place z.reading) z.sink)
      (whole_fed (with_next b place z.reading) z.sink))

  -- where it does, the number is whole before the byte, which is then looked at again
  unfoldable pub fed_byte : ℕ → ℕ → Fed X → Fed X
  fed_byte b place z = cond (eqb (after_mode (mode_in z) b) ended) (fed_once b place (whole_fed z.reading z.sink)) (fed_once b place z)

  -- bytes from a place on
  unfoldable pub fed_all : ℕ → Fed X → List ℕ → Fed X
  fed_all place z [] = z
  fed_all place z (b ∷ bs) = fed_all (suc place) (fed_byte b place z) bs

  -- the end of the text, of this length: a number that may end there is whole, and any other lexeme is broken
  unfoldable pub last_fed : ℕ → Fed X → Fed X
  last_fed len z =
      cond (may_end (mode_in z)) (fed z.reading (s.on_whole z.reading z.sink))
      (cond (eqb (mode_in z) between_mode) z
      (cond (eqb (mode_in z) stopped_mode) z
      (fed z.reading (s.on_broken (head_of z.reading.lexer) z.reading.lexer.first len z.sink))))
