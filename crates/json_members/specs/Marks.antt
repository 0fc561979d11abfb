-- Which members an open object has, and which it lacks, by the marks in the slots.
use Rattle.std.specs.Prelude.{ℕ, zero, suc, ◌-◌, Bool, true, false, cond, not, List, eqb}
use Rattle.std.specs.Bool.{beq}
use Rattle.json_members.specs.Slots.{kind_in, of_kind, seen_in, forgetting}
use Rattle.json_members.specs.Rows.{span_of}

-- an update is opened: its action is not known
abbrev pub opening_update : List ℕ → List ℕ
opening_update slots = of_kind 0 (forgetting 3 23 slots)

-- an object is opened: none of its members was seen
unfoldable pub opening : ℕ → List ℕ → List ℕ
opening object slots =
    cond (eqb object 2) (opening_update slots)
    (cond (eqb object 7) (forgetting 27 35 slots)
    (cond (eqb object 15) (forgetting 36 38 slots)
    (cond (eqb object 39) (forgetting 40 43 slots)
    (cond (eqb object 19) (forgetting 44 45 slots)
    (cond (eqb object 46) (forgetting 47 50 slots)
    (cond (eqb object 21) (forgetting 51 52 slots)
    (cond (eqb object 53) (forgetting 54 57 slots)
    slots)))))))

-- one of so many was not seen, from a spot on
unfoldable pub lacking : ℕ → ℕ → List ℕ → Bool
lacking zero spot slots = false
lacking (suc n) spot slots = cond (seen_in slots spot) (lacking n (suc spot) slots) true

abbrev pub lacks_any : ℕ → ℕ → List ℕ → Bool
lacks_any from to slots = lacking (suc to - from) from slots

abbrev pub lacks_either : ℕ → ℕ → List ℕ → Bool
lacks_either one other slots = cond (seen_in slots one) (not (seen_in slots other)) true

abbrev pub update_lacks : List ℕ → Bool
update_lacks slots = cond (seen_in slots 3) (lacks_any (span_of (kind_in slots)).first (span_of (kind_in slots)).must slots) true

-- one of the two alone
abbrev pub is_half : Bool → Bool → Bool
is_half one other = not (beq one other)

-- a row range has both its numbers, or neither
abbrev pub snapshot_lacks : List ℕ → Bool
snapshot_lacks slots = cond (seen_in slots 27) (cond (seen_in slots 30) (is_half (seen_in slots 31) (seen_in slots 32)) true) true

abbrev pub partition_field_lacks : List ℕ → Bool
partition_field_lacks slots = cond (seen_in slots 54) (lacks_either 56 57 slots) true

-- an object is closed: it lacks a member that it must have; a list lacks none
unfoldable pub lacks_in : ℕ → List ℕ → Bool
lacks_in object slots =
    cond (eqb object 2) (update_lacks slots)
    (cond (eqb object 7) (snapshot_lacks slots)
    (cond (eqb object 15) (lacks_either 36 38 slots)
    (cond (eqb object 39) (lacks_any 40 43 slots)
    (cond (eqb object 19) (lacks_either 44 45 slots)
    (cond (eqb object 46) (lacks_any 47 50 slots)
    (cond (eqb object 21) (not (seen_in slots 52))
    (cond (eqb object 53) (partition_field_lacks slots)
    false)))))))
