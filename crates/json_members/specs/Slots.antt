-- The numbers of a judge, in slots: which number stands where, and the marks of the members that were seen.
use Rattle.std.specs.Prelude.{ℕ, zero, suc, ◌+◌, ◌-◌, ◌%◌, Bool, false, cond, List, eqb, leb, ltb, get_or, set, replicate}

-- ---- single numbers

-- what may come next, and a bit for each open bracket
abbrev pub expect_in : List ℕ → ℕ
expect_in slots = get_or slots 0 0

abbrev pub expecting : ℕ → List ℕ → List ℕ
expecting next slots = set slots 0 next

abbrev pub kinds_in : List ℕ → ℕ
kinds_in slots = get_or slots 1 0

abbrev pub in_kinds : ℕ → List ℕ → List ℕ
in_kinds kinds slots = set slots 1 kinds

-- the spot of the innermost open list or object that is judged, and of the value that comes next; how many brackets are open in what is passed over
abbrev pub within_in : List ℕ → ℕ
within_in slots = get_or slots 2 0

abbrev pub inside : ℕ → List ℕ → List ℕ
inside spot slots = set slots 2 spot

abbrev pub wanted_in : List ℕ → ℕ
wanted_in slots = get_or slots 3 0

abbrev pub wanting : ℕ → List ℕ → List ℕ
wanting spot slots = set slots 3 spot

abbrev pub passed_in : List ℕ → ℕ
passed_in slots = get_or slots 4 0

abbrev pub in_passed : ℕ → List ℕ → List ℕ
in_passed count slots = set slots 4 count

-- the kind of the open update, which is below 256
abbrev pub kind_in : List ℕ → ℕ
kind_in slots = get_or slots 5 0 % 256

abbrev pub of_kind : ℕ → List ℕ → List ℕ
of_kind kind slots = set slots 5 kind

-- the least refusal
abbrev pub number_in : List ℕ → ℕ
number_in slots = get_or slots 6 0

abbrev pub place_in : List ℕ → ℕ
place_in slots = get_or slots 7 0

-- before the first lexeme: a list of updates is wanted
abbrev pub start_slots : List ℕ
start_slots = wanting 1 (in_kinds 1 (replicate 104 0))

-- ---- members that were seen

-- no spot is this or above
abbrev pub spots_end : ℕ
spots_end = 64

-- the last member of an update
abbrev pub last_of_update : ℕ
last_of_update = 23

unfoldable pub seen_in : List ℕ → ℕ → Bool
seen_in slots spot = cond (ltb spot spots_end) (eqb (get_or slots (16 + spot) 0) 1) false

-- the place of the name of an update's member
unfoldable pub named_in : List ℕ → ℕ → ℕ
named_in slots spot = cond (leb spot last_of_update) (get_or slots (80 + spot) 0) 0

unfoldable pub marking : ℕ → List ℕ → List ℕ
marking spot slots = cond (ltb spot spots_end) (set slots (16 + spot) 1) slots

unfoldable pub placing : ℕ → ℕ → List ℕ → List ℕ
placing spot place slots = cond (leb spot last_of_update) (set slots (80 + spot) place) slots

-- a member's name was seen at a place
abbrev pub seeing : ℕ → ℕ → List ℕ → List ℕ
seeing spot place slots = placing spot place (marking spot slots)

unfoldable pub unmarking : ℕ → List ℕ → List ℕ
unmarking spot slots = cond (ltb spot spots_end) (set slots (16 + spot) 0) slots

-- none of so many was seen, from a spot on
unfoldable pub clearing : ℕ → ℕ → List ℕ → List ℕ
clearing zero spot slots = slots
clearing (suc n) spot slots = clearing n (suc spot) (unmarking spot slots)

abbrev pub forgetting : ℕ → ℕ → List ℕ → List ℕ
forgetting from to slots = clearing (suc to - from) from slots
