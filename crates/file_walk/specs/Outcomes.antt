-- What is said and held of a tree as far as it was read, as an outcome: the least refusal, the cells, how it ended, what is left to read, and a count.
use Rattle.std.specs.Prelude.{ℕ, ◌+◌, ◌≡◌, cond, List, [], eqb, leb, length}
use Rattle.std.proofs.Math.Option.{Option, some}
use Rattle.json_rule.specs.Lexemes.{Lexeme}
use Rattle.json_rule.specs.Tree.{Defect, over_capacity, Json, Scalar, Array, Object, Items, Value, Whole, Cut, Missing, Listed, Closed, Open}
use Rattle.json_rule.specs.Defects.{unless, not_published, count_of, least}
use Rattle.json_judge.specs.Refusal.{sooner}
use Rattle.json_tokens.specs.Tokens.{lexemes_at}
use Rattle.json_descent.specs.Descent.{items_from}
use Rattle.file_rule.specs.FileDefects.{defects, item_defects}
use Rattle.file_rule.specs.Import.{skipped_in}
use Rattle.file_cells.specs.Wants.{shape_of, stands_at_schema, passes_over, record_at}
use Rattle.file_cells.specs.Filled.{filled, filled_items, count_items}
use Rattle.file_walk.specs.Seats.{said_by, read_whole, was_cut, was_missing, goes_on}
use Rattle.file_walk.specs.declared.seat.Seat.{Seat}

pub record Outcome : Type 0 where
  pub said : Option Defect
  pub cells : List ℕ
  pub state : ℕ
  pub rest : List Lexeme
  pub count : ℕ

abbrev pub outcome : Option Defect → List ℕ → ℕ → List Lexeme → ℕ → Outcome
outcome said cells state rest count = record { said = said; cells = cells; state = state; rest = rest; count = count }

-- what a seat says: something is left to read where the value is whole
abbrev pub told : List ℕ → Seat → List ℕ → Outcome
told bs s cells = outcome (said_by s) cells s.state (cond (eqb s.state read_whole) (lexemes_at bs s.from) []) s.count

-- 0 is wanted where anything may stand, and nowhere else
pub record Meant (want : ℕ) : Type 0 where
  pub passes : eqb want 0 ≡ passes_over (shape_of want)

-- the number of a list that stands where none is to be
abbrev pub misplaced_number : ℕ → ℕ → ℕ
misplaced_number want each = cond (eqb want 0) 0 (cond (eqb each 0) not_published 0)

-- one past the room, of what is counted
abbrev pub over_defects : ℕ → ℕ → ℕ → ℕ → Items → List Defect
over_defects each room first count xs = cond (eqb each 0) [] (unless (leb (count + count_of xs) room) first over_capacity)

module _ (version : ℕ) where
  -- ---- a value

  abbrev pub wanted_defects : ℕ → ℕ → Json → List Defect
  wanted_defects schema want x = defects version schema (stands_at_schema want) (shape_of want) x

  -- of an object that is the file, how many members are skipped
  abbrev pub skipped_of : ℕ → Json → ℕ
  skipped_of want (Scalar t) = 0
  skipped_of want (Array place xs closed) = 0
  skipped_of want (Object place ms closed) = cond (eqb (record_at want) 0) (skipped_in version ms) 0

  abbrev pub of_value : ℕ → ℕ → ℕ → Option Defect → List ℕ → Value → Outcome
  of_value schema want base said cells (Whole x ts) = outcome (sooner said (least (wanted_defects schema want x))) (filled version want base x cells) read_whole ts (skipped_of want x)
  of_value schema want base said cells (Cut x stop) =
      outcome (sooner (sooner said (least (wanted_defects schema want x))) (some stop)) (filled version want base x cells) was_cut [] (skipped_of want x)
  of_value schema want base said cells (Missing stop) = outcome (sooner said (some stop)) cells was_missing [] 0

  -- ---- what a list has from an element on, of which so many were there before

  abbrev pub items_said : ℕ → ℕ → ℕ → ℕ → ℕ → Items → Option Defect
  items_said schema each room first count xs = sooner (least (over_defects each room first count xs)) (least (item_defects version schema (shape_of each) xs))

  abbrev pub of_items : ℕ → ℕ → ℕ → ℕ → ℕ → ℕ → Option Defect → List ℕ → Listed → Outcome
  of_items schema each room base first count said cells (Closed xs ts) =
      outcome (sooner said (items_said schema each room first count xs)) (filled_items version each room base count xs cells) read_whole ts (count_items room count xs)
  of_items schema each room base first count said cells (Open xs stop) =
      outcome (sooner (sooner said (items_said schema each room first count xs)) (some stop)) (filled_items version each room base count xs cells) was_cut [] (count_items room count xs)

  -- what a seat inside a list says: what is to come, or how the list ended
  abbrev pub items_told : List ℕ → ℕ → ℕ → ℕ → ℕ → ℕ → ℕ → Seat → List ℕ → Outcome
  items_told bs schema each room base first depth s cells =
      cond (eqb s.state goes_on)
      (of_items schema each room base first s.count (said_by s) cells (items_from (length bs) depth (lexemes_at bs s.from)))
      (told bs s cells)
