-- What is kept of a lexeme, against the lexeme: of a text its first bytes and its length, of a number whether it is whole and fits, and its magnitude.
use Rattle.std.specs.Prelude.{ℕ, zero, suc, ◌^◌, ◌≡◌, Bool, true, cond, ◌&&◌, ◌||◌, List, [], ◌∷◌, eqb, ltb}
use Rattle.std.proofs.Math.Option.{Option, none, some}
use Rattle.json_rule.specs.Lexemes.{Lexeme, quote, minus, is_digit}
use Rattle.json_rule.specs.Values.{text_of, whole_number_of}
use Rattle.json_machine.specs.Digest.{lone_length}
use Rattle.json_machine.proofs.Slots.{First}
use Rattle.json_machine.proofs.Numbers.{signed_by}

-- the bytes of the first so many slots; 0 where there is no slot
unfoldable pub front : ℕ → List ℕ → List ℕ
front zero slots = []
front (suc n) [] = 0 ∷ front n []
front (suc n) (b ∷ slots) = b ∷ front n slots

-- so much is kept of a text that stands for these bytes, or for none
abbrev pub TextKept : List ℕ → ℕ → Option (List ℕ) → Type 0
TextKept kept len none = len ≡ lone_length
TextKept kept len (some text) = First kept len text

-- So much is kept of a number: whether it is an integer below 2^64, and then its magnitude.
pub record NumberKept (integer : Bool) (magnitude : ℕ) (t : Lexeme) : Type 0 where
  pub is_whole : Bool
  pub value : ℕ
  pub number : whole_number_of t ≡ cond is_whole (some (signed_by t.head value)) none
  pub told : integer ≡ is_whole && ltb value (2 ^ 64)
  pub is : integer ≡ true → magnitude ≡ value

-- this is kept of a whole lexeme
pub record LexemeKept (kept : List ℕ) (len : ℕ) (integer : Bool) (magnitude : ℕ) (t : Lexeme) : Type 0 where
  pub text : eqb t.head quote ≡ true → TextKept kept len (text_of t)
  pub number : eqb t.head minus || is_digit t.head ≡ true → NumberKept integer magnitude t
