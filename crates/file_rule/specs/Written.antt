-- JSON as it is written, without spaces: RFC 8259, sections 4 to 7.
use Rattle.std.specs.Prelude.{ℕ, zero, suc, ◌+◌, ◌/◌, ◌%◌, Bool, cond, List, [], ◌∷◌, ◌++◌, eqb, ltb, ℤ, pos, negsuc}
use Prim.Native.String.{String}
use Rattle.std.proofs.Math.Option.{Option, none, some}
use Rattle.json_rule.specs.Letters.{bytes}

-- ---- numbers

-- The decimal digits of a number, the first first. A number of 64 bits has at most 20, so as many steps are enough.
unfoldable pub digits_in : ℕ → ℕ → List ℕ
digits_in zero n = []
digits_in (suc steps) n = cond (ltb n 10) ((48 + n) ∷ []) (digits_in steps (n / 10) ++ ((48 + n % 10) ∷ []))

abbrev pub natural_text : ℕ → List ℕ
natural_text n = digits_in 20 n

unfoldable pub number_text : ℤ → List ℕ
number_text (pos n) = natural_text n
number_text (negsuc n) = 45 ∷ natural_text (suc n)

-- ---- texts

-- a hexadecimal digit in lower case
abbrev pub hex_digit : ℕ → ℕ
hex_digit n = cond (ltb n 10) (48 + n) (87 + n)

-- "All Unicode characters may be placed within the quotation marks, except for .. quotation mark, reverse solidus, and the control characters": those are escaped,
-- in the short form where there is one
unfoldable pub escaped_byte : ℕ → List ℕ
escaped_byte b =
    cond (eqb b 34) (92 ∷ 34 ∷ [])
    (cond (eqb b 92) (92 ∷ 92 ∷ [])
    (cond (eqb b 8) (92 ∷ 98 ∷ [])
    (cond (eqb b 12) (92 ∷ 102 ∷ [])
    (cond (eqb b 10) (92 ∷ 110 ∷ [])
    (cond (eqb b 13) (92 ∷ 114 ∷ [])
    (cond (eqb b 9) (92 ∷ 116 ∷ [])
    (cond (ltb b 32) (bytes "\\u00" ++ (hex_digit (b / 16) ∷ hex_digit (b % 16) ∷ []))
    (b ∷ []))))))))

abbrev pub escaped_bytes : List ℕ → List ℕ
escaped_bytes [] = []
escaped_bytes (b ∷ bs) = escaped_byte b ++ escaped_bytes bs

unfoldable pub quoted : List ℕ → List ℕ
quoted bs = 34 ∷ escaped_bytes bs ++ (34 ∷ [])

-- a word of the tables
abbrev pub word_text : String → List ℕ
word_text word = 34 ∷ bytes word ++ (34 ∷ [])

-- ---- lists and objects

-- those behind the first
abbrev pub more_items : {A : Type 0} → (A → List ℕ) → List A → List ℕ
more_items f [] = []
more_items f (x ∷ xs) = 44 ∷ f x ++ more_items f xs

abbrev pub items : {A : Type 0} → (A → List ℕ) → List A → List ℕ
items f [] = []
items f (x ∷ xs) = f x ++ more_items f xs

abbrev pub list_text : {A : Type 0} → (A → List ℕ) → List A → List ℕ
list_text f xs = 91 ∷ items f xs ++ (93 ∷ [])

-- a member
abbrev pub named : String → List ℕ → List ℕ
named name value = word_text name ++ (58 ∷ value)

-- one behind the first
abbrev pub also : String → List ℕ → List ℕ
also name value = 44 ∷ named name value

-- one that may be absent
abbrev pub also_if : {A : Type 0} → String → (A → List ℕ) → Option A → List ℕ
also_if name f none = []
also_if name f (some x) = also name (f x)

abbrev pub object_text : List ℕ → List ℕ
object_text members = 123 ∷ members ++ (125 ∷ [])
