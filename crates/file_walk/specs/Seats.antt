-- Where the reader stands: from which byte it goes on, the least refusal so far, how the last value ended, a count, and the number of a member.
use Rattle.std.specs.Prelude.{ℕ, Bool, true, false, cond, ◌&&◌, eqb, ltb}
use Rattle.std.proofs.Math.Option.{Option, none, some}
use Rattle.json_rule.specs.Tree.{Defect}
use Rattle.json_tokens.specs.declared.token.Token.{Token}
use Rattle.file_cells.specs.Filled.{next_count}
use Rattle.file_walk.specs.declared.seat.Seat.{Seat}

-- ---- the least refusal

-- a number at a place; 0 is no refusal
abbrev pub refusal_of : ℕ → ℕ → Option Defect
refusal_of number place = cond (eqb number 0) none (some (record { place = place; number = number }))

abbrev pub said_by : Seat → Option Defect
said_by s = refusal_of s.number s.place

-- a refusal comes before the least so far
unfoldable pub is_before : ℕ → ℕ → Seat → Bool
is_before number place s =
    cond (eqb number 0) false
    (cond (eqb s.number 0) true
    (cond (eqb s.place place) (ltb number s.number)
    (ltb place s.place)))

-- one more refusal
abbrev pub refused : ℕ → ℕ → Seat → Seat
refused number place s =
    record {
      from = s.from;
      number = cond (is_before number place s) number s.number;
      place = cond (is_before number place s) place s.place;
      state = s.state;
      count = s.count;
      spot = s.spot;
    }

-- ---- how a value ended

-- read whole; broken off inside; nothing could be read; and inside brackets: one more is to come
abbrev pub read_whole : ℕ
read_whole = 0

abbrev pub was_cut : ℕ
was_cut = 1

abbrev pub was_missing : ℕ
was_missing = 2

abbrev pub goes_on : ℕ
goes_on = 3

-- going on from a byte
abbrev pub moved_to : ℕ → ℕ → Seat → Seat
moved_to from state s = record { from = from; number = s.number; place = s.place; state = state; count = s.count; spot = s.spot }

abbrev pub counting : ℕ → Seat → Seat
counting count s = record { from = s.from; number = s.number; place = s.place; state = s.state; count = count; spot = s.spot }

abbrev pub spotting : ℕ → Seat → Seat
spotting spot s = record { from = s.from; number = s.number; place = s.place; state = s.state; count = s.count; spot = spot }

-- a refusal at which reading ends
abbrev pub stopped : ℕ → ℕ → ℕ → Seat → Seat
stopped number place state s = moved_to s.from state (refused number place s)

-- ---- inside brackets

-- a whole lexeme that is this byte
abbrev pub is_mark : ℕ → Token → Bool
is_mark b t = eqb t.state 1 && eqb t.head b

-- where a lexeme cannot stand, or there is none
abbrev pub stop_place : ℕ → Token → ℕ
stop_place len t = cond (eqb t.state 0) len t.first

-- behind the first bracket: the last at once, or one to come
unfoldable pub begun_by : ℕ → Token → Seat → Seat
begun_by close t s = cond (is_mark close t) (moved_to t.after read_whole (counting 0 s)) (moved_to s.from goes_on (counting 0 s))

-- behind an element or a member: a comma and one more, or the last bracket
unfoldable pub after_one : ℕ → ℕ → Token → Seat → Seat
after_one close len t s =
    cond (is_mark 44 t) (moved_to t.after goes_on s)
    (cond (is_mark close t) (moved_to t.after read_whole s)
    (stopped 27 (stop_place len t) was_cut s))

-- one past the room of what is counted
abbrev pub over_number : ℕ → ℕ → ℕ → ℕ
over_number each room count = cond (ltb count room) 0 (cond (eqb each 0) 0 29)

-- with one more element, if there is something of it
unfoldable pub counted : ℕ → ℕ → ℕ → ℕ → Seat → Seat
counted each room first count s =
    cond (eqb s.state was_missing) (moved_to s.from was_cut (counting count s))
    (refused (over_number each room count) first (counting (next_count room count) s))

-- with one more member, if there is something of its value: the count before it, and with it
unfoldable pub settled_by : ℕ → ℕ → Seat → Seat
settled_by before behind s = cond (eqb s.state was_missing) (moved_to s.from was_cut (counting before s)) (counting behind s)
