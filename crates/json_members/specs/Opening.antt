-- The open lists and objects that are judged, in the slots: where they begin, and how many elements the lists have.
use Rattle.std.specs.Prelude.{ℕ, ◌+◌, cond, List, eqb, ltb, get_or, set}
use Rattle.rules.specs.Words.{is_some}
use Rattle.json_rule.specs.Defects.{listing_of}
use Rattle.json_members.specs.Slots.{within_in, inside, wanted_in, passed_in}
use Rattle.json_members.specs.Refusing.{refusing}
use Rattle.json_members.specs.Spots.{shape_at, room_in}

-- in which slot stands where a list or an object begins: the list, an update, a list or an object of fields, a field, and else its record
unfoldable pub slot_of : ℕ → ℕ
slot_of spot =
    cond (eqb spot 1) 8
    (cond (eqb spot 2) 9
    (cond (eqb spot 38) 11
    (cond (eqb spot 45) 11
    (cond (eqb spot 52) 11
    (cond (eqb spot 39) 12
    (cond (eqb spot 46) 12
    (cond (eqb spot 53) 12
    10)))))))

abbrev pub first_in : List ℕ → ℕ → ℕ
first_in slots spot = get_or slots (slot_of spot) 0

-- where a value is refused: at its place, but at the schema for whether a field is required and for its type
unfoldable pub refused_in : List ℕ → ℕ → ℕ → ℕ
refused_in slots spot first = cond (ltb spot 42) first (cond (ltb spot 44) (get_or slots 10 0) first)

-- in which slot stands how many elements a list has
unfoldable pub count_slot : ℕ → ℕ
count_slot list = cond (eqb list 1) 13 14

-- into the list or object that was wanted, which begins at a place
unfoldable pub entering : ℕ → List ℕ → List ℕ
entering first slots = inside (wanted_in slots) (set slots (slot_of (wanted_in slots)) first)

abbrev pub entering_list : ℕ → List ℕ → List ℕ
entering_list first slots = set (entering first slots) (count_slot (within_in (entering first slots))) 0

-- one more element of a list: over its capacity the list is refused at its bracket
unfoldable pub counting_in : ℕ → List ℕ → List ℕ
counting_in list slots =
    cond (ltb (get_or slots (count_slot list) 0) (room_in (listing_of (shape_at list))))
    (set slots (count_slot list) (get_or slots (count_slot list) 0 + 1))
    (refusing 29 (first_in slots list) slots)

-- a value begins: one more element, if a list that is judged is the innermost
unfoldable pub counting : List ℕ → List ℕ
counting slots = cond (eqb (passed_in slots) 0) (cond (is_some (listing_of (shape_at (within_in slots)))) (counting_in (within_in slots) slots) slots) slots
