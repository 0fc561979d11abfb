-- One byte, as the code takes it: one that shows that a number ended before it is looked at again in the next turn.
use Rattle.std.specs.Prelude.{ℕ, ◌+◌, cond, List, eqb, ltb}
use Rattle.json_machine.specs.declared.Lexer.{Lexer}
use Rattle.json_machine.specs.Modes.{between_mode, stopped_mode, whole, broken, ended, after_mode}
use Rattle.json_machine.specs.Lexing.{in_mode, Reading, reading, with_next, head_of, read_byte}
use Rattle.json_list.specs.declared.step.Run.{Run}
use Rattle.json_list.specs.Listing.{Work, worked, broken_work}

abbrev pub run_of : Lexer → ℕ → ℕ → ℕ → Run
run_of l mode place done = record { lexer = in_mode mode l; at = place; done = done }

-- where reading stands, in a lexeme and in a part, with what is held, and what became whole
pub record Turn : Type 0 where
  pub reading : Reading
  pub work : Work
  pub place : ℕ
  pub done : ℕ

abbrev pub turn : Reading → Work → ℕ → ℕ → Turn
turn r w place done = record { reading = r; work = w; place = place; done = done }

abbrev pub turn_of : Run → List ℕ → Work → Turn
turn_of r kept w = turn (reading r.lexer kept) w r.at r.done

-- a whole lexeme, and the place of the byte behind it
abbrev pub whole_turn : ℕ → Reading → Work → Turn
whole_turn place r w = turn (reading (in_mode between_mode r.lexer) r.slots) (worked r w).work place (worked r w).done

-- the byte at a place of the text, which is another place of the part
unfoldable pub stepped : ℕ → ℕ → ℕ → Reading → Work → Turn
stepped b place i r w =
    cond (eqb (after_mode r.lexer.mode b) broken)
    (turn (reading (in_mode stopped_mode r.lexer) r.slots) (broken_work (head_of r.lexer) r.lexer.first place w) (i + 1) 0)
    (cond (eqb (after_mode r.lexer.mode b) ended) (whole_turn i r w)
    (cond (ltb (after_mode r.lexer.mode b) whole) (turn (read_byte b place r) w (i + 1) 0)
    (whole_turn (i + 1) (with_next b place r) w)))
