-- All that a reader holds, and what a part and the end of the text do to it.
use Rattle.std.specs.Prelude.{ℕ, zero, suc, ◌+◌, ◌-◌, ◌%◌, cond, List, eqb, length, get_or, set, take, replicate}
use Rattle.records.specs.Blanks.{no_updates}
use Rattle.records.specs.declared.update.UpdateList.{UpdateList}
use Rattle.json_machine.specs.Modes.{between_mode, stopped_mode, may_end}
use Rattle.json_machine.specs.Lexing.{between_lexemes, Reading, reading, head_of}
use Rattle.json_members.specs.Slots.{number_in, place_in, start_slots}
use Rattle.json_members.specs.Model.{taking_end}
use Rattle.json_feed.specs.Feeding.{Fed, fed, fed_all, last_fed}
use Rattle.json_list.specs.declared.reader.Reader.{Reader}
use Rattle.json_list.specs.declared.reader.Answer.{Answer}
use Rattle.json_list.specs.Listing.{Work, work, Listing, listing, Worked, worked, worked_to, broken_work, lists}

-- how many bytes came before, and where they led
pub record State : Type 0 where
  pub before : ℕ
  pub fed : Fed Listing

abbrev pub state : ℕ → Fed Listing → State
state before z = record { before = before; fed = z }

abbrev pub state_of : Reader → List ℕ → State
state_of r offers = state r.before (fed (reading r.lexer r.kept) (listing (work r.judge r.numbers r.texts) r.list r.offered offers))

-- ---- before the first part

-- so many bytes are 0, from a place on
unfoldable pub zeroing : ℕ → ℕ → List ℕ → List ℕ
zeroing zero i l = l
zeroing (suc n) i l = zeroing n (suc i) (set l i 0)

-- no byte is offered
abbrev pub no_offers : List ℕ → List ℕ
no_offers offers = zeroing 77824 0 offers

unfoldable pub at_start : List ℕ → State
at_start offers = state 0 (fed (reading between_lexemes (replicate 97 0)) (listing (work start_slots (replicate 304 0) (replicate 1731 0)) no_updates 0 (no_offers offers)))

-- ---- a part

-- what of a part is read: the places of its bytes are numbers of 64 bits, so that no text that has more bytes can be
abbrev pub readable : ℕ → List ℕ → List ℕ
readable before part = take (18446744073709551615 - before) part

unfoldable pub feeding : List ℕ → State → State
feeding part s = state (s.before + length (readable s.before part)) (fed_all lists s.before s.fed (readable s.before part))

-- ---- the end of the text

-- what a lexeme does in which the text ends, after so many bytes
unfoldable pub last_worked : ℕ → Reading → Work → Worked
last_worked len r w =
    cond (may_end r.lexer.mode) (worked r w)
    (cond (eqb r.lexer.mode between_mode) (worked_to w 0)
    (cond (eqb r.lexer.mode stopped_mode) (worked_to w 0)
    (worked_to (broken_work (head_of r.lexer) r.lexer.first len w) 0)))

-- an answer, and the bytes that are offered
pub record Ended : Type 0 where
  pub answer : Answer
  pub offers : List ℕ

abbrev pub ended : Answer → List ℕ → Ended
ended a offers = record { answer = a; offers = offers }

-- the list, where the judge refuses nothing; else its least refusal
unfoldable pub answering : List ℕ → UpdateList → ℕ → List ℕ → Ended
answering slots list offered offers =
    cond (eqb (number_in slots) 0) (ended (record { number = 0; place = 0; list = record { items = list.items; count = get_or slots 13 0 }; offered = offered }) offers)
    (ended (record { number = number_in slots % 256; place = place_in slots; list = no_updates; offered = 0 }) (no_offers offers))

abbrev pub ending_of : ℕ → Listing → Ended
ending_of len l = answering (taking_end len l.work.slots) l.list l.offered l.offers

unfoldable pub ending : State → Ended
ending s = ending_of s.before (last_fed lists s.before s.fed).sink
