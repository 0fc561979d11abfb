-- The members of an object by their names. Names and words are compared after decoding.
use Rattle.std.specs.Prelude.{ℕ, Bool, cond, List, [], ◌∷◌, ℤ, pos}
use Prim.Native.String.{String}
use Rattle.std.proofs.Math.Option.{Option, none, some}
use Rattle.rules.specs.Words.{or_else, some_with, any, same_bytes}
use Rattle.json_rule.specs.Letters.{bytes}
use Rattle.json_rule.specs.Lexemes.{Lexeme}
use Rattle.json_rule.specs.Values.{text_of, whole_number_of}
use Rattle.json_rule.specs.Tree.{Json, Scalar, Array, Object, Items, no_item, item, Members, no_member, bare_name, member}

-- one of these
abbrev pub is_one_of : List (List ℕ) → List ℕ → Bool
is_one_of words w = any (same_bytes w) words

abbrev pub is_named : List ℕ → Lexeme → Bool
is_named name t = some_with (same_bytes name) (text_of t)

-- the names, in order; one that has no UTF-8 is left out
abbrev pub names_of : Members → List (List ℕ)
names_of no_member = []
names_of (bare_name t) = elim (text_of t) [ none ↦ [] | some name ↦ name ∷ [] ]
names_of (member t x ms) = elim (text_of t) [ none ↦ names_of ms | some name ↦ name ∷ names_of ms ]

-- the first value of a name
abbrev pub value_of : List ℕ → Members → Option Json
value_of name no_member = none
value_of name (bare_name t) = none
value_of name (member t x ms) = cond (is_named name t) (some x) (value_of name ms)

-- ---- what a value says, where it is of that kind

abbrev pub text_in : Json → Option (List ℕ)
text_in (Scalar t) = text_of t
text_in (Array place xs closed) = none
text_in (Object place ms closed) = none

abbrev pub number_in : Json → Option ℤ
number_in (Scalar t) = whole_number_of t
number_in (Array place xs closed) = none
number_in (Object place ms closed) = none

abbrev pub items_in : Json → Items
items_in (Scalar t) = no_item
items_in (Array place xs closed) = xs
items_in (Object place ms closed) = no_item

abbrev pub members_in : Json → Members
members_in (Scalar t) = no_member
members_in (Array place xs closed) = no_member
members_in (Object place ms closed) = ms

-- ---- by name

abbrev pub text_by : String → Members → List ℕ
text_by name ms = elim (value_of (bytes name) ms) [ none ↦ [] | some x ↦ or_else (text_in x) [] ]

abbrev pub number_by : String → Members → Option ℤ
number_by name ms = elim (value_of (bytes name) ms) [ none ↦ none | some x ↦ number_in x ]

-- 0 where it is absent
abbrev pub number_or0 : String → Members → ℤ
number_or0 name ms = or_else (number_by name ms) (pos 0)

abbrev pub items_by : String → Members → Items
items_by name ms = elim (value_of (bytes name) ms) [ none ↦ no_item | some x ↦ items_in x ]

abbrev pub members_by : String → Members → Members
members_by name ms = elim (value_of (bytes name) ms) [ none ↦ no_member | some x ↦ members_in x ]

-- the text is this word
abbrev pub is_word : String → String → Members → Bool
is_word word name ms = same_bytes (text_by name ms) (bytes word)
