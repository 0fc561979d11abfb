-- The least refusal so far, in the slots: the earliest place, and of two at one place the lower number.
use Rattle.std.specs.Prelude.{ℕ, Bool, true, cond, List, eqb, ltb, set}
use Rattle.json_members.specs.Slots.{number_in, place_in, expecting}

-- a refusal comes before the least so far
unfoldable pub sooner_in : List ℕ → ℕ → ℕ → Bool
sooner_in slots number place =
    cond (eqb (number_in slots) 0) true
    (cond (eqb (place_in slots) place) (ltb number (number_in slots))
    (ltb place (place_in slots)))

-- one more refusal
unfoldable pub refusing : ℕ → ℕ → List ℕ → List ℕ
refusing number place slots = cond (sooner_in slots number place) (set (set slots 6 number) 7 place) slots

-- reading ends at a refusal
unfoldable pub stopping : ℕ → ℕ → List ℕ → List ℕ
stopping number place slots = expecting 6 (refusing number place slots)
