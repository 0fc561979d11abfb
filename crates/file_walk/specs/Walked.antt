-- What the readers of a value, of a list and of an object promise.
use Rattle.std.specs.Prelude.{ℕ, ◌+◌, ◌*◌, ◌≤◌, ◌<◌, ◌≡◌, Bool, true, false, cond, ◌||◌, ◌&&◌, List, [], ◌∷◌, eqb, length}
use Rattle.json_rule.specs.Lexemes.{Lexeme, quote, minus, is_digit}
use Rattle.json_rule.specs.Tree.{Value, Missing, stop_at, is_scalar, scalar, array_at, object_at_lem, first_item, first_member}
use Rattle.json_rule.specs.Defects.{stands_at, least}
use Rattle.json_judge.specs.Refusal.{sooner}
use Rattle.json_members.specs.Kept.{LexemeKept}
use Rattle.json_tokens.specs.declared.token.Token.{Token}
use Rattle.file_rule.specs.FileDefects.{single_defects}
use Rattle.file_members.specs.Faults.{single_fault}
use Rattle.file_cells.specs.Filled.{put_value, magnitude_of}
use Rattle.json_tokens.specs.Tokens.{lexemes_at}
use Rattle.json_descent.specs.Descent.{value_from, items_from, members_from}
use Rattle.file_cells.specs.Wants.{shape_of, stands_at_schema}
use Rattle.file_cells.specs.Cells.{size_at}
use Rattle.file_walk.specs.declared.seat.Seat.{Seat}
use Rattle.file_walk.specs.Seats.{said_by}
use Rattle.file_walk.specs.Outcomes.{told, Meant, of_value, of_items, items_told}

-- ---- a value that is no list and no object

-- the byte begins a text, a number or a word
abbrev pub begins_word : ℕ → Bool
begins_word head = eqb head 116 || (eqb head 102 || eqb head 110)

unfoldable pub stands_alone : ℕ → Bool
stands_alone head = eqb head quote || (eqb head minus || (is_digit head || begins_word head))

-- the byte begins a number
abbrev pub begins_number : ℕ → Bool
begins_number head = eqb head minus || is_digit head

-- the magnitude of a whole number
abbrev pub size_kept : ℕ → Bool → ℕ → ℕ
size_kept head integer magnitude = cond (begins_number head && integer) magnitude 0

-- what stands behind the token of a whole lexeme that is no bracket
pub record Kept (slots : List ℕ) (t : Token) : Type 0 where
  pub lexeme : Lexeme
  pub kept : LexemeKept slots t.len t.integer t.magnitude lexeme
  pub scalar : is_scalar lexeme ≡ true
  pub head : t.head ≡ lexeme.head
  pub first : t.first ≡ lexeme.first

-- the number of what is wrong with a value
abbrev pub FaultSaid : List ℕ → ℕ → Token → ℕ → Type 0
FaultSaid slots want t r = (k : Kept slots t) → r ≡ single_fault (shape_of want) k.lexeme

-- it is judged and held
pub record ScalarHeld (slots : List ℕ) (want schema base : ℕ) (t : Token) (seat : Seat) (cells : List ℕ) (r : Seat) (after : List ℕ) : Type 0 where
  pub from : r.from ≡ t.after
  pub state : r.state ≡ 0
  pub count : r.count ≡ 0
  pub said : (k : Kept slots t) → said_by r ≡ sooner (said_by seat) (least (single_defects (shape_of want) (stands_at (stands_at_schema want) schema k.lexeme.first) k.lexeme))
  pub cells_are : (k : Kept slots t) → after ≡ cond (eqb want 0) cells (put_value base k.lexeme.first (magnitude_of k.lexeme) cells)

abbrev pub scalar_from : ℕ → List Lexeme → Value
scalar_from len [] = Missing (stop_at len [])
scalar_from len (t ∷ ts) = scalar len t ts

pub record ScalarRead (bs : List ℕ) (want schema base : ℕ) (seat : Seat) (cells : List ℕ) (r : Seat) (after : List ℕ) : Type 0 where
  pub is : (version : ℕ) → told bs r after ≡ of_value version schema want base (said_by seat) cells (scalar_from (length bs) (lexemes_at bs seat.from))
  pub later : r.state ≡ 0 → seat.from < r.from
  pub onward : seat.from ≤ r.from
  pub fits : r.from ≤ length bs

-- ---- any value

-- how deep it stands, and the cells that it may take
abbrev pub step : ℕ
step = 2097152

pub record MayWalk (bs : List ℕ) (want base depth : ℕ) (seat : Seat) : Type 0 where
  pub meant : Meant want
  pub shallow : depth ≤ 16
  pub low : base ≤ step * depth
  pub fits : seat.from ≤ length bs

pub record Walked (bs : List ℕ) (version want schema base depth : ℕ) (seat : Seat) (cells : List ℕ) (r : Seat) (after : List ℕ) : Type 0 where
  pub is : told bs r after ≡ of_value version schema want base (said_by seat) cells (value_from (length bs) depth (lexemes_at bs seat.from))
  pub later : r.state ≡ 0 → seat.from < r.from
  pub onward : seat.from ≤ r.from
  pub fits : r.from ≤ length bs

-- ---- a list, behind its first bracket

-- the same of what stands inside brackets
pub record MayEnter (bs : List ℕ) (want base depth : ℕ) (seat : Seat) : Type 0 where
  pub meant : Meant want
  pub shallow : depth ≤ 16
  pub low : base + step ≤ step * depth
  pub fits : seat.from ≤ length bs

pub record ListWalked (bs : List ℕ) (version want schema base depth first : ℕ) (seat : Seat) (cells : List ℕ) (r : Seat) (after : List ℕ) : Type 0 where
  pub is : told bs r after
      ≡ of_value version schema want base (said_by seat) cells (array_at first (first_item (length bs) (λ us. items_from (length bs) depth us) (lexemes_at bs seat.from)))
  pub onward : seat.from ≤ r.from
  pub fits : r.from ≤ length bs

-- one element and what stands behind it

pub record MayTurn (bs : List ℕ) (each room base depth : ℕ) (seat : Seat) : Type 0 where
  pub meant : Meant each
  pub plain : stands_at_schema each ≡ false
  pub small : size_at each ≤ 9047
  pub narrow : room ≤ 128
  pub counts : seat.count ≤ room
  pub shallow : depth ≤ 16
  pub low : base + step ≤ step * depth
  pub fits : seat.from ≤ length bs

pub record ItemTurned (bs : List ℕ) (version each room schema base depth first : ℕ) (seat : Seat) (cells : List ℕ) (r : Seat) (after : List ℕ) : Type 0 where
  pub is : items_told version bs schema each room base first depth r after
      ≡ of_items version schema each room base first seat.count (said_by seat) cells (items_from (length bs) depth (lexemes_at bs seat.from))
  pub later : r.state ≡ 3 → seat.from < r.from
  pub onward : seat.from ≤ r.from
  pub fits : r.from ≤ length bs
  pub counts : r.count ≤ room

-- ---- an object, behind its first bracket

pub record ObjectWalked (bs : List ℕ) (version want schema base depth first : ℕ) (seat : Seat) (cells : List ℕ) (r : Seat) (after : List ℕ) : Type 0 where
  pub is : told bs r after
      ≡ of_value version schema want base (said_by seat) cells (object_at_lem first (first_member (length bs) (λ us. members_from (length bs) depth us) (lexemes_at bs seat.from)))
  pub onward : seat.from ≤ r.from
  pub fits : r.from ≤ length bs
