-- One whole lexeme, judged, in the slots: what it does to the nesting, to the open lists and objects, and to the least refusal.
use Rattle.std.specs.Prelude.{ℕ, zero, suc, ◌-◌, ◌/◌, Bool, true, false, cond, List, eqb, ltb}
use Rattle.rules.specs.Words.{is_some}
use Rattle.json_rule.specs.Lexemes.{quote, minus, is_digit}
use Rattle.json_rule.specs.Defects.{listing_of, kind_of}
use Rattle.json_members.specs.declared.row.Row.{Row}
use Rattle.json_members.specs.Slots.{expect_in, expecting, kinds_in, in_kinds, within_in, inside, wanted_in, wanting, passed_in, in_passed, kind_in, of_kind, seen_in, named_in, seeing}
use Rattle.json_members.specs.Refusing.{refusing, stopping}
use Rattle.json_members.specs.Nesting.{value_next, first_item_next, name_next, first_name_next, colon_next, after_next, stopped_next, is_full, is_outside, is_in_object, with_list, with_object, with_one, closes_at, may_begin}
use Rattle.json_members.specs.Kept.{front}
use Rattle.json_members.specs.Words.{number_of, action_words}
use Rattle.json_members.specs.Spots.{shape_at, member_named, item_at, value_at, around_at}
use Rattle.json_members.specs.Rows.{span_of, is_foreign_at}
use Rattle.json_members.specs.Opening.{first_in, refused_in, entering, entering_list, counting}
use Rattle.json_members.specs.Marks.{opening, lacks_in}
use Rattle.json_members.specs.Faults.{fault_at}

-- What is told of a lexeme: its first byte and the place of that, the bytes and the length of a text, whether a number is an integer below 2^64, its magnitude.
pub record Told : Type 0 where
  pub kept : List ℕ
  pub head : ℕ
  pub first : ℕ
  pub len : ℕ
  pub integer : Bool
  pub magnitude : ℕ

abbrev pub told : List ℕ → ℕ → ℕ → ℕ → Bool → ℕ → Told
told kept head first len integer magnitude = record { kept = kept; head = head; first = first; len = len; integer = integer; magnitude = magnitude }

-- any JSON, passed over; or no spot
abbrev pub any_spot : ℕ
any_spot = 0

abbrev pub action_spot : ℕ
action_spot = 3

-- the slots, and the spot of what became whole
pub record After : Type 0 where
  pub slots : List ℕ
  pub done : ℕ

abbrev pub after : List ℕ → ℕ → After
after slots done = record { slots = slots; done = done }

-- ---- lists and objects

-- a bracket in what is passed over, or where no such list or object is wanted
abbrev pub misplacing : ℕ → List ℕ → List ℕ
misplacing first slots = cond (eqb (wanted_in slots) any_spot) slots (refusing 28 (refused_in slots (wanted_in slots) first) slots)

abbrev pub passing : List ℕ → List ℕ
passing slots = in_passed (with_one (passed_in (wanting any_spot slots))) (wanting any_spot slots)

unfoldable pub passing_in : ℕ → List ℕ → List ℕ
passing_in first slots = passing (misplacing first slots)

-- behind its first bracket
abbrev pub in_list : List ℕ → List ℕ
in_list slots = in_kinds (with_list (kinds_in (expecting first_item_next slots))) (expecting first_item_next slots)

abbrev pub in_object : List ℕ → List ℕ
in_object slots = in_kinds (with_object (kinds_in (expecting first_name_next slots))) (expecting first_name_next slots)

unfoldable pub on_list : ℕ → List ℕ → List ℕ
on_list first slots =
    cond (is_some (listing_of (shape_at (wanted_in slots)))) (wanting (item_at (wanted_in slots)) (entering_list first (in_list slots)))
    (passing_in first (in_list slots))

unfoldable pub on_object : ℕ → List ℕ → List ℕ
on_object first slots =
    cond (is_some (kind_of (shape_at (wanted_in slots)))) (entering first (opening (wanted_in slots) (in_object slots)))
    (passing_in first (in_object slots))

unfoldable pub on_bracket : ℕ → ℕ → List ℕ → List ℕ
on_bracket head first slots =
    cond (is_full (kinds_in slots)) (stopping 29 first slots)
    (cond (eqb head 91) (on_list first (counting slots)) (on_object first (counting slots)))

-- ---- texts, numbers and words

-- a name that was seen before the action is unknown if it stands in other rows only
unfoldable pub refusing_foreign : Row → ℕ → List ℕ → List ℕ
refusing_foreign r spot slots = cond (is_foreign_at r spot) (cond (seen_in slots spot) (refusing 28 (named_in slots spot) slots) slots) slots

-- so many names, from a spot on
unfoldable pub refusing_foreigns : ℕ → Row → ℕ → List ℕ → List ℕ
refusing_foreigns zero r spot slots = slots
refusing_foreigns (suc n) r spot slots = refusing_foreigns n r (suc spot) (refusing_foreign r spot slots)

-- the action is known, and with it the row of the update
abbrev pub knowing : ℕ → List ℕ → List ℕ
knowing kind slots = refusing_foreigns 21 (span_of kind) action_spot (of_kind kind slots)

abbrev pub knowing_if : ℕ → ℕ → List ℕ → List ℕ
knowing_if kind first slots = cond (eqb kind 0) (refusing 28 first slots) (knowing kind slots)

unfoldable pub on_action : List ℕ → ℕ → ℕ → ℕ → List ℕ → List ℕ
on_action kept head first len slots = cond (eqb head quote) (knowing_if (number_of 0 action_words (front len kept)) first slots) (refusing 28 first slots)

-- a value that is right, or refused
unfoldable pub on_fault : ℕ → ℕ → ℕ → List ℕ → After
on_fault fault wanted first slots = cond (eqb fault 0) (after slots wanted) (after (refusing fault (refused_in slots wanted first) slots) any_spot)

abbrev pub on_wanted : ℕ → Told → List ℕ → After
on_wanted wanted t slots = on_fault (fault_at wanted t.kept t.head t.len t.integer t.magnitude) wanted t.first slots

abbrev pub behind_value : List ℕ → List ℕ
behind_value slots = counting (expecting after_next slots)

unfoldable pub on_scalar : Told → List ℕ → After
on_scalar t slots =
    cond (eqb (wanted_in slots) any_spot) (after (behind_value slots) any_spot)
    (cond (eqb (wanted_in slots) action_spot) (after (on_action t.kept t.head t.first t.len (behind_value slots)) any_spot)
    (on_wanted (wanted_in slots) t (behind_value slots)))

-- a text, a number or a word begins with a byte
unfoldable pub is_scalar : ℕ → Bool
is_scalar head =
    cond (eqb head quote) true
    (cond (eqb head minus) true
    (cond (eqb head 116) true
    (cond (eqb head 102) true
    (cond (eqb head 110) true
    (is_digit head)))))

unfoldable pub on_bare : ℕ → ℕ → List ℕ → List ℕ
on_bare head first slots =
    cond (eqb head 91) (on_bracket head first slots)
    (cond (eqb head 123) (on_bracket head first slots)
    (stopping 27 first slots))

unfoldable pub on_value : Told → List ℕ → After
on_value t slots = cond (is_scalar t.head) (on_scalar t slots) (after (on_bare t.head t.first slots) any_spot)

-- ---- names

-- a member stands in other rows only than the action's
abbrev pub unlisted_in : List ℕ → ℕ → Bool
unlisted_in slots spot = is_foreign_at (span_of (kind_in slots)) spot

-- the spot of a name in the open object, if it is known and new
abbrev pub new_spot : List ℕ → ℕ → ℕ
new_spot slots spot = cond (seen_in slots spot) any_spot spot

abbrev pub known_in : List ℕ → List ℕ → ℕ → ℕ
known_in slots kept len = new_spot slots (member_named (within_in slots) (front len kept))

unfoldable pub on_known : ℕ → ℕ → List ℕ → List ℕ
on_known spot first slots = cond (unlisted_in (seeing spot first slots) spot) (refusing 28 first (seeing spot first slots)) (seeing spot first slots)

unfoldable pub on_spot : ℕ → ℕ → List ℕ → List ℕ
on_spot spot first slots = cond (eqb spot any_spot) (refusing 28 first slots) (on_known spot first slots)

abbrev pub on_member : List ℕ → ℕ → ℕ → List ℕ → List ℕ
on_member kept first len slots = on_spot (known_in slots kept len) first (wanting (value_at (known_in slots kept len)) slots)

unfoldable pub on_name : List ℕ → ℕ → ℕ → ℕ → List ℕ → List ℕ
on_name kept head first len slots =
    cond (eqb head quote)
    (cond (eqb (passed_in (expecting colon_next slots)) 0) (on_member kept first len (expecting colon_next slots)) (expecting colon_next slots))
    (stopping 27 first slots)

unfoldable pub on_colon : ℕ → ℕ → List ℕ → List ℕ
on_colon head first slots = cond (eqb head 58) (expecting value_next slots) (stopping 27 first slots)

-- ---- ends

-- a list or an object that is judged is closed
abbrev pub lack_said : ℕ → List ℕ → List ℕ
lack_said spot slots = cond (lacks_in spot slots) (refusing 28 (first_in slots spot) slots) slots

unfoldable pub leaving : List ℕ → After
leaving slots = after (inside (around_at (within_in slots)) (lack_said (within_in slots) slots)) (within_in slots)

abbrev pub out_of : List ℕ → List ℕ
out_of slots = in_kinds (kinds_in (expecting after_next slots) / 2) (expecting after_next slots)

unfoldable pub on_close : List ℕ → After
on_close slots = cond (eqb (passed_in slots) 0) (leaving (out_of slots)) (after (in_passed (passed_in slots - 1) (out_of slots)) any_spot)

-- what follows a comma: a name in an object, an element in a list
unfoldable pub on_next : List ℕ → List ℕ
on_next slots =
    cond (is_in_object (kinds_in slots)) (expecting name_next slots)
    (cond (eqb (passed_in (expecting value_next slots)) 0) (wanting (item_at (within_in (expecting value_next slots))) (expecting value_next slots))
    (expecting value_next slots))

unfoldable pub on_comma : ℕ → ℕ → List ℕ → List ℕ
on_comma head first slots = cond (eqb head 44) (cond (is_outside (kinds_in slots)) (stopping 27 first slots) (on_next slots)) (stopping 27 first slots)

-- ---- all

-- by what may come next
unfoldable pub on_expected : Told → List ℕ → After
on_expected t slots =
    cond (eqb (expect_in slots) colon_next) (after (on_colon t.head t.first slots) any_spot)
    (cond (eqb (expect_in slots) after_next) (after (on_comma t.head t.first slots) any_spot)
    (cond (ltb (expect_in slots) name_next) (on_value t slots)
    (cond (ltb (expect_in slots) colon_next) (after (on_name t.kept t.head t.first t.len slots) any_spot)
    (after slots any_spot))))

-- one more whole lexeme
unfoldable pub taking : Told → List ℕ → After
taking t slots = cond (closes_at (expect_in slots) (kinds_in slots) t.head) (on_close slots) (on_expected t slots)

-- a lexeme that a byte broke at a place, or the end of the input; one that may not begin is refused at its first byte
unfoldable pub taking_broken : ℕ → ℕ → ℕ → List ℕ → List ℕ
taking_broken head first place slots =
    cond (eqb (expect_in slots) stopped_next) slots
    (cond (may_begin (expect_in slots) head) (stopping 27 place slots) (stopping 27 first slots))

-- the end of the input, between lexemes
unfoldable pub taking_end : ℕ → List ℕ → List ℕ
taking_end len slots =
    cond (eqb (expect_in slots) stopped_next) slots
    (cond (eqb (expect_in slots) after_next) (cond (is_outside (kinds_in slots)) slots (stopping 27 len slots)) (stopping 27 len slots))
