-- The lexemes of a text from a place on, and what is answered of the next.
use Rattle.std.specs.Prelude.{ℕ, ◌≤◌, ◌<◌, ◌≡◌, true, false, List, [], ◌∷◌, length, drop}
use Rattle.json_rule.specs.Lexemes.{Lexeme, lexemes}
use Rattle.json_rule.specs.Tree.{is_scalar as stands_alone}
use Rattle.json_members.specs.Kept.{LexemeKept}
use Rattle.json_tokens.specs.declared.token.Token.{Token}

-- the lexemes from a place on
unfoldable pub lexemes_at : List ℕ → ℕ → List Lexeme
lexemes_at bs place = lexemes (length (drop place bs)) place (drop place bs)

-- a whole lexeme is next, and what is kept of it
pub record WholeAt (bs : List ℕ) (from : ℕ) (r : Token) (slots : List ℕ) : Type 0 where
  pub lexeme : Lexeme
  pub is : lexemes_at bs from ≡ lexeme ∷ lexemes_at bs r.after
  pub is_whole : lexeme.whole ≡ true
  pub head : r.head ≡ lexeme.head
  pub first : r.first ≡ lexeme.first
  pub kept : LexemeKept slots r.len r.integer r.magnitude lexeme
  pub later : from ≤ r.first
  pub beyond : r.first < r.after
  pub fits : r.after ≤ length bs

-- a lexeme is next that breaks off: nothing is read behind it
pub record BrokenAt (bs : List ℕ) (from : ℕ) (r : Token) : Type 0 where
  pub lexeme : Lexeme
  pub is : lexemes_at bs from ≡ lexeme ∷ []
  pub is_broken : lexeme.whole ≡ false
  pub is_scalar : stands_alone lexeme ≡ true
  pub head : r.head ≡ lexeme.head
  pub first : r.first ≡ lexeme.first
  pub stop : r.stop ≡ lexeme.stop
  pub later : from ≤ r.first

pub record TokenAt (bs : List ℕ) (from : ℕ) (r : Token) (slots : List ℕ) : Type 0 where
  pub known : r.state < 3
  pub at_end : r.state ≡ 0 → lexemes_at bs from ≡ []
  pub whole : r.state ≡ 1 → WholeAt bs from r slots
  pub broken : r.state ≡ 2 → BrokenAt bs from r
  pub long : length slots ≡ 97
