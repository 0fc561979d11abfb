-- How brackets nest: what may come next, and which are open.
use Rattle.std.specs.Prelude.{ℕ, ◌+◌, ◌*◌, ◌%◌, Bool, true, false, cond, not, eqb, leb, ltb}

-- a value; one, or the end of a list; a name; one, or the end of an object; a colon; a comma, or the end; nothing
abbrev pub value_next : ℕ
value_next = 0

abbrev pub first_item_next : ℕ
first_item_next = 1

abbrev pub name_next : ℕ
name_next = 2

abbrev pub first_name_next : ℕ
first_name_next = 3

abbrev pub colon_next : ℕ
colon_next = 4

abbrev pub after_next : ℕ
after_next = 5

abbrev pub stopped_next : ℕ
stopped_next = 6

-- with sixteen open brackets the number of them is this or above
abbrev pub full_kinds : ℕ
full_kinds = 65536

abbrev pub is_full : ℕ → Bool
is_full kinds = leb full_kinds kinds

abbrev pub is_outside : ℕ → Bool
is_outside kinds = ltb kinds 2

abbrev pub is_in_object : ℕ → Bool
is_in_object kinds = eqb (kinds % 2) 1

abbrev pub with_list : ℕ → ℕ
with_list kinds = kinds % full_kinds * 2

abbrev pub with_object : ℕ → ℕ
with_object kinds = kinds % full_kinds * 2 + 1

abbrev pub with_one : ℕ → ℕ
with_one passed = passed % full_kinds + 1

-- a bracket ends the innermost: at once behind the first one, or behind a value
unfoldable pub closes_list : ℕ → ℕ → Bool
closes_list expect kinds =
    cond (eqb expect first_item_next) true
    (cond (eqb expect after_next) (cond (is_outside kinds) false (not (is_in_object kinds))) false)

unfoldable pub closes_object : ℕ → ℕ → Bool
closes_object expect kinds =
    cond (eqb expect first_name_next) true
    (cond (eqb expect after_next) (cond (is_outside kinds) false (is_in_object kinds)) false)

unfoldable pub closes_at : ℕ → ℕ → ℕ → Bool
closes_at expect kinds head = cond (eqb head 93) (closes_list expect kinds) (cond (eqb head 125) (closes_object expect kinds) false)

-- a text, a number or a word that begins with a byte may come next
unfoldable pub may_begin : ℕ → ℕ → Bool
may_begin expect head = cond (ltb expect name_next) true (cond (ltb expect colon_next) (eqb head 34) false)
