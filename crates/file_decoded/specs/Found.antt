-- A lexeme that is found again at its place in the text: it is the first of the lexemes from there on.
use Rattle.std.specs.Prelude.{ℕ, ◌<◌, ◌≡◌, true, List, ◌∷◌, get_or, length}
use Rattle.json_rule.specs.Lexemes.{Lexeme}
use Rattle.json_rule.specs.Tree.{Json}
use Rattle.json_tokens.specs.Tokens.{lexemes_at}
use Rattle.file_holds.specs.Lexemes.{Every}

pub record Found (bs : List ℕ) (t : Lexeme) : Type 0 where
  pub others : List Lexeme
  pub again : lexemes_at bs t.first ≡ t ∷ others
  pub head : get_or bs t.first 0 ≡ t.head
  pub within : t.first < length bs

-- all in a tree are, and whole
unfoldable pub FoundAgain : List ℕ → Json → Type 0
FoundAgain bs x = Every (λ t. (t.whole ≡ true) × Found bs t) x
