-- An object under names of its own, as `refs` is: what is said and held of its members from a name on, and of one name by itself. A name that stands twice is
-- found by the places of those before it, as long as nothing was refused before it; where something was, one more refusal changes nothing.
use Rattle.std.specs.Prelude.{ℕ, zero, suc, ◌+◌, ◌≤◌, ◌<◌, ◌≡◌, Bool, true, false, cond, ◌&&◌, List, [], ◌∷◌, eqb, leb, ltb, length, get_or, set}
use Rattle.std.proofs.Math.Option.{Option, none, some}
use Rattle.rules.specs.Words.{all}
use Rattle.rules.specs.Capacities.{name_room}
use Rattle.json_rule.specs.Lexemes.{Lexeme, quote}
use Rattle.json_rule.specs.Values.{text_of}
use Rattle.json_rule.specs.Tree.{Defect, over_capacity, Members, Named, ClosedBy, OpenBy, next_member}
use Rattle.json_rule.specs.Members.{is_one_of}
use Rattle.json_rule.specs.Defects.{unless, not_published, with_name, least}
use Rattle.json_machine.specs.Digest.{lone_length}
use Rattle.json_members.specs.Kept.{front}
use Rattle.json_judge.specs.Refusal.{sooner}
use Rattle.json_tokens.specs.Tokens.{lexemes_at}
use Rattle.json_tokens.specs.declared.token.Token.{Token}
use Rattle.json_descent.specs.Descent.{value_from, members_from}
use Rattle.file_rule.specs.FileDefects.{named_defects, members_count, own_name_defects}
use Rattle.file_cells.specs.Wants.{shape_of, stands_at_schema, named_at}
use Rattle.file_cells.specs.Filled.{put_value, filled_named, count_named}
use Rattle.file_walk.specs.declared.seat.Seat.{Seat}
use Rattle.file_walk.specs.Seats.{refusal_of, said_by, read_whole, was_cut, was_missing, goes_on, moved_to, counting, stopped, refused, is_mark, stop_place}
use Rattle.file_walk.specs.Outcomes.{Outcome, outcome, told}
use Rattle.file_walk.specs.Walked.{MayEnter, MayTurn}

-- ---- what an object has from a name on, of which so many were there before, with these names

-- one past the room; a name without a value is counted too
abbrev pub over_room : ℕ → ℕ → ℕ
over_room room count = cond (ltb count room) 0 over_capacity

module _ (version : ℕ) where
  abbrev pub named_said : ℕ → ℕ → ℕ → ℕ → ℕ → List (List ℕ) → Members → Option Defect
  named_said schema each room first count seen ms =
      sooner (least (unless (leb (count + members_count ms) room) first over_capacity)) (least (named_defects version schema (shape_of each) seen ms))

  abbrev pub of_named : ℕ → ℕ → ℕ → ℕ → ℕ → ℕ → List (List ℕ) → Option Defect → List ℕ → Named → Outcome
  of_named schema each room base first count seen said cells (ClosedBy ms ts) =
      outcome (sooner said (named_said schema each room first count seen ms)) (filled_named version each room base count ms cells) read_whole ts (count_named room count ms)
  of_named schema each room base first count seen said cells (OpenBy ms stop) =
      outcome (sooner (sooner said (named_said schema each room first count seen ms)) (some stop)) (filled_named version each room base count ms cells) was_cut [] (count_named room count ms)

  -- what a seat inside the object says: what is to come, or how it ended
  abbrev pub named_told : List ℕ → ℕ → ℕ → ℕ → ℕ → ℕ → ℕ → List (List ℕ) → Seat → List ℕ → Outcome
  named_told bs schema each room base first depth seen s cells =
      cond (eqb s.state goes_on)
      (of_named schema each room base first s.count seen (said_by s) cells (members_from (length bs) depth (lexemes_at bs s.from)))
      (told bs s cells)

-- ---- the names, by their places

-- the text of the first of some lexemes
abbrev pub text_first : List Lexeme → Option (List ℕ)
text_first [] = none
text_first (t ∷ ts) = cond t.whole (text_of t) none

-- the text that stands at a place
unfoldable pub name_at : List ℕ → ℕ → Option (List ℕ)
name_at bs place = text_first (lexemes_at bs place)

-- those of the first so many places, the last of them in front
unfoldable pub names_at : List ℕ → List ℕ → ℕ → List (List ℕ)
names_at bs places zero = []
names_at bs places (suc n) = with_name (names_at bs places n) (name_at bs (get_or places n 0))

-- something was refused before a place
abbrev pub is_early : Option Defect → ℕ → Bool
is_early none place = false
is_early (some d) place = ltb d.place place

abbrev pub all_short : List (List ℕ) → Bool
all_short names = all (λ name. leb (length name) name_room) names

-- where nothing was refused so far, the names that were there are those of the places, and each is short
pub record Known (bs : List ℕ) (seen : List (List ℕ)) (s : Seat) (places : List ℕ) : Type 0 where
  pub held : is_early (said_by s) s.from ≡ false → seen ≡ names_at bs places s.count
  pub short : is_early (said_by s) s.from ≡ false → all_short seen ≡ true

-- ---- one name

-- by its length: 28 without UTF-8, 29 over 32 bytes
abbrev pub own_fault : ℕ → ℕ
own_fault len = cond (eqb len lone_length) not_published (cond (leb len name_room) 0 over_capacity)

-- and 28 of one that was there before, asked only where nothing was refused before it
unfoldable pub name_fault : List ℕ → List ℕ → List ℕ → Token → Seat → ℕ
name_fault bs places kept t s =
    cond (eqb (own_fault t.len) 0)
    (cond (is_early (said_by s) t.first) 0 (cond (is_one_of (names_at bs places s.count) (front t.len kept)) not_published 0))
    (own_fault t.len)

-- where no name can be read: behind its bytes where it is broken off, else at what stands there
abbrev pub no_name_place : ℕ → Token → ℕ
no_name_place len t = cond (eqb t.state 2 && eqb t.head quote) t.stop (stop_place len t)

-- behind a name: a colon and the value, with the place of the name in place of the count; or nothing more
unfoldable pub behind_name : ℕ → Token → ℕ → Seat → Seat
behind_name len c place s = cond (is_mark 58 c) (moved_to c.after goes_on (counting place s)) (stopped 27 (stop_place len c) was_cut s)

-- judged by how many and which were there before
abbrev pub name_judged : List ℕ → List ℕ → List ℕ → ℕ → ℕ → Token → Seat → Seat
name_judged bs places kept room first t s =
    refused (name_fault bs places kept t (refused (over_room room s.count) first s)) t.first (refused (over_room room s.count) first s)

-- the room is small, and no more names were there
pub record MayName (bs : List ℕ) (room : ℕ) (seat : Seat) : Type 0 where
  pub small : room ≤ 128
  pub counts : seat.count ≤ room
  pub fits : seat.from ≤ length bs

-- a name, and a value to come
pub record NameThere (bs : List ℕ) (room first : ℕ) (seat : Seat) (places : List ℕ) (r : Seat) (after : List ℕ) : Type 0 where
  pub lexeme : Lexeme
  pub is : (depth : ℕ)
      → members_from (length bs) depth (lexemes_at bs seat.from)
      ≡ next_member (length bs) lexeme (λ us. members_from (length bs) depth us) (value_from (length bs) depth (lexemes_at bs r.from))
  pub place : r.count ≡ lexeme.first
  pub said : (seen : List (List ℕ)) → Known bs seen seat places
      → said_by r ≡ sooner (sooner (said_by seat) (refusal_of (over_room room seat.count) first)) (least (own_name_defects seen lexeme))
  pub name : name_at bs lexeme.first ≡ text_of lexeme
  pub later : seat.from ≤ lexeme.first
  pub beyond : lexeme.first < r.from
  pub long : length places ≡ 128
  pub puts : after ≡ set places seat.count lexeme.first

-- what is read of a name and the colon behind it
pub record NameRead (bs : List ℕ) (room first : ℕ) (seat : Seat) (places : List ℕ) (r : Seat) (after : List ℕ) : Type 0 where
  pub there : r.state ≡ goes_on → NameThere bs room first seat places r after
  pub stops : (version schema each base depth : ℕ) (cells : List ℕ) (seen : List (List ℕ)) → eqb r.state goes_on ≡ false → stands_at_schema each ≡ false → Known bs seen seat places
      → told bs r cells ≡ of_named version schema each room base first seat.count seen (said_by seat) cells (members_from (length bs) depth (lexemes_at bs seat.from))
  pub counts : eqb r.state goes_on ≡ false → r.count ≤ room
  pub onward : seat.from ≤ r.from
  pub fits : r.from ≤ length bs

-- ---- turn by turn

-- the name is put where there is something of its value
abbrev pub name_put : ℕ → ℕ → ℕ → List ℕ → List ℕ
name_put state spot place cells = cond (eqb state was_missing) cells (put_value spot place 0 cells)

-- what is left comes to an outcome, with the names that were there
pub record NamedLeft (bs : List ℕ) (version each room schema base depth first : ℕ) (s : Seat) (cells places : List ℕ) (o : Outcome) : Type 0 where
  pub names : List (List ℕ)
  pub known : s.state ≡ goes_on → Known bs names s places
  pub is : named_told version bs schema each room base first depth names s cells ≡ o

-- one name, its value, and what stands behind it
pub record NamedTurned (bs : List ℕ) (version each room schema base depth first : ℕ) (seat : Seat) (cells places : List ℕ) (r : Seat) (after afterPlaces : List ℕ) : Type 0 where
  pub left : (seen : List (List ℕ)) → Known bs seen seat places
      → NamedLeft bs version each room schema base depth first r after afterPlaces
      (of_named version schema each room base first seat.count seen (said_by seat) cells (members_from (length bs) depth (lexemes_at bs seat.from)))
  pub later : r.state ≡ goes_on → seat.from < r.from
  pub onward : seat.from ≤ r.from
  pub fits : r.from ≤ length bs
  pub counts : r.count ≤ room

-- ---- where a turn may be made, and where the whole object may be read

pub record MayNamed (bs : List ℕ) (each room base depth first : ℕ) (seat : Seat) : Type 0 where
  pub turn : MayTurn bs each room base depth seat
  pub before : first < seat.from

pub record MayEnterNamed (bs : List ℕ) (want base depth first : ℕ) (seat : Seat) : Type 0 where
  pub enter : MayEnter bs want base depth seat
  pub before : first < seat.from
  pub named : eqb (named_at want) 0 ≡ false
