-- Trees of metadata files that differ in the order of neighbours: two members of an object, anywhere in the tree, or two records of a table. Every other order
-- comes of such steps, one after the other.
use Rattle.std.specs.Prelude.{ℕ, ◌≡◌, Bool, true, List, [], ◌∷◌}
use Rattle.rules.specs.Words.{some_with}
use Rattle.json_rule.specs.Letters.{bytes}
use Rattle.json_rule.specs.Lexemes.{Lexeme}
use Rattle.json_rule.specs.Values.{text_of}
use Rattle.json_rule.specs.Tree.{Json, Array, Object, Items, item, Members, member}
use Rattle.json_rule.specs.Members.{is_one_of}

-- ---- members

mutual
  pub data Turned : Json → Json → Type 0 where
    in_array : {place : ℕ} {xs ys : Items} {closed : Bool} → TurnedItems xs ys → Turned (Array place xs closed) (Array place ys closed)
    in_object : {place : ℕ} {ms ns : Members} {closed : Bool} → TurnedMembers ms ns → Turned (Object place ms closed) (Object place ns closed)

  pub data TurnedItems : Items → Items → Type 0 where
    in_item : {x y : Json} {xs : Items} → Turned x y → TurnedItems (item x xs) (item y xs)
    behind_item : {x : Json} {xs ys : Items} → TurnedItems xs ys → TurnedItems (item x xs) (item x ys)

  pub data TurnedMembers : Members → Members → Type 0 where
    turned : {t u : Lexeme} {x y : Json} {ms : Members} → TurnedMembers (member t x (member u y ms)) (member u y (member t x ms))
    in_member : {t : Lexeme} {x y : Json} {ms : Members} → Turned x y → TurnedMembers (member t x ms) (member t y ms)
    behind_member : {t : Lexeme} {x : Json} {ms ns : Members} → TurnedMembers ms ns → TurnedMembers (member t x ms) (member t x ns)

-- ---- records of tables

pub data ExchangedItems : Items → Items → Type 0 where
  exchanged : {x y : Json} {xs : Items} → ExchangedItems (item x (item y xs)) (item y (item x xs))
  behind : {x : Json} {xs ys : Items} → ExchangedItems xs ys → ExchangedItems (item x xs) (item x ys)

-- the members that are tables, kept by key; `refs` is one too, whose records are members
abbrev pub tables : List (List ℕ)
tables = bytes "schemas" ∷ bytes "partition-specs" ∷ bytes "snapshots" ∷ bytes "sort-orders" ∷ bytes "statistics" ∷ bytes "partition-statistics" ∷ []

pub data ExchangedIn : Members → Members → Type 0 where
  in_table : {t : Lexeme} {place : ℕ} {xs ys : Items} {closed : Bool} {ms : Members} → some_with (is_one_of tables) (text_of t) ≡ true → ExchangedItems xs ys
      → ExchangedIn (member t (Array place xs closed) ms) (member t (Array place ys closed) ms)
  behind_table : {t : Lexeme} {x : Json} {ms ns : Members} → ExchangedIn ms ns → ExchangedIn (member t x ms) (member t x ns)

-- ---- any number of steps

pub data Reordered : Json → Json → Type 0 where
  same : {x : Json} → Reordered x x
  members : {x y z : Json} → Turned x y → Reordered y z → Reordered x z
  records : {place : ℕ} {ms ns : Members} {closed : Bool} {z : Json} → ExchangedIn ms ns → Reordered (Object place ns closed) z → Reordered (Object place ms closed) z
