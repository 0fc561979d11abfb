-- What holds of every lexeme of some, and of every text, number, word and name in a tree.
use Rattle.std.specs.Prelude.{List, [], ◌∷◌}
use Rattle.json_rule.specs.Lexemes.{Lexeme}
use Rattle.json_rule.specs.Tree.{Json, Scalar, Array, Object, Items, no_item, item, Members, no_member, bare_name, member}

module _ (P : Lexeme → Type 0) where
  abbrev pub Each : List Lexeme → Type 0
  Each [] = Unit {0}
  Each (t ∷ ts) = P t × Each ts

  unfoldable mutual
    pub Every : Json → Type 0
    Every (Scalar t) = P t
    Every (Array place xs closed) = EveryItem xs
    Every (Object place ms closed) = EveryMember ms

    pub EveryItem : Items → Type 0
    EveryItem no_item = Unit {0}
    EveryItem (item x xs) = Every x × EveryItem xs

    pub EveryMember : Members → Type 0
    EveryMember no_member = Unit {0}
    EveryMember (bare_name t) = P t
    EveryMember (member t x ms) = P t × Every x × EveryMember ms
