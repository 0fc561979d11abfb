-- What is read from these lexemes on, inside so many open brackets: the rule's tree with as many steps as are needed.
use Rattle.std.specs.Prelude.{ℕ, ◌+◌, ◌*◌, List, length}
use Rattle.json_rule.specs.Lexemes.{Lexeme}
use Rattle.json_rule.specs.Tree.{Value, Listed, Named, value, items, members}

-- a value
unfoldable pub value_from : ℕ → ℕ → List Lexeme → Value
value_from len depth ts = value len (2 * length ts + 1) depth ts

-- the elements of a list, one at least, and its bracket
unfoldable pub items_from : ℕ → ℕ → List Lexeme → Listed
items_from len depth ts = items len (2 * length ts + 2) depth ts

-- the members of an object, one at least, and its bracket
unfoldable pub members_from : ℕ → ℕ → List Lexeme → Named
members_from len depth ts = members len (2 * length ts + 2) depth ts
