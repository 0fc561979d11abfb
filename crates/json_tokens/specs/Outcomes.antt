-- What reading comes to: the spaces before a lexeme, and one lexeme from a mode on.
use Rattle.std.specs.Prelude.{ℕ, suc, false, cond, ◌&&◌, List, [], ◌∷◌, eqb, drop}
use Rattle.json_rule.specs.Lexemes.{quote, is_space}
use Rattle.json_machine.specs.declared.Number.{Number}
use Rattle.json_machine.specs.Modes.{text_mode, whole, broken, ended, after_mode, may_end, is_integer}
use Rattle.json_machine.specs.Digest.{blank_text, Held, held, held_after, blank_number, number_with, number_after}
use Rattle.json_tokens.specs.declared.token.Token.{Token}

-- how many spaces stand in front
abbrev pub space_run : List ℕ → ℕ
space_run [] = 0
space_run (b ∷ bs) = cond (is_space b) (suc (space_run bs)) 0

-- ---- one lexeme

-- whether it is whole or broken, as a token says it, behind which byte or at which, in which mode, and what is kept of it by then
pub record Outcome (X : Type 0) : Type 0 where
  pub state : ℕ
  pub place : ℕ
  pub mode : ℕ
  pub held : X

abbrev pub whole_state : ℕ
whole_state = 1

abbrev pub broken_state : ℕ
broken_state = 2

module _ {X : Type 0} where
  abbrev pub outcome_of : ℕ → ℕ → ℕ → X → Outcome X
  outcome_of state place mode x = record { state = state; place = place; mode = mode; held = x }

-- where the text ends a number is whole that may end there, and any other lexeme is broken
abbrev pub at_end : ℕ → ℕ
at_end m = cond (may_end m) whole_state broken_state

-- where each byte adds to what is kept, by the mode before it, and these follow
module _ {X : Type 0} (adds : ℕ → ℕ → X → X) where
  unfoldable pub outcome : ℕ → ℕ → X → List ℕ → Outcome X
  outcome place m x [] = outcome_of (at_end m) place m x
  outcome place m x (b ∷ bs) =
      cond (eqb (after_mode m b) whole) (outcome_of whole_state (suc place) (after_mode m b) (adds m b x))
      (cond (eqb (after_mode m b) broken) (outcome_of broken_state place m x)
      (cond (eqb (after_mode m b) ended) (outcome_of whole_state place m x)
      (outcome (suc place) (after_mode m b) (adds m b x) bs)))

-- ---- what is answered of it

-- a token and the slots of a text
pub record Answer : Type 0 where
  pub token : Token
  pub slots : List ℕ

abbrev pub answer : Token → List ℕ → Answer
answer r slots = record { token = r; slots = slots }

-- of no lexeme, or of one of which nothing is kept, from a place on up to another
abbrev pub plain_token : ℕ → ℕ → ℕ → ℕ → Token
plain_token state head first place = record { state = state; head = head; first = first; after = place; stop = place; len = 0; integer = false; magnitude = 0 }

-- of a text that begins at a place
abbrev pub text_token : ℕ → ℕ → ℕ → ℕ → Token
text_token state first place len = record { state = state; head = quote; first = first; after = place; stop = place; len = len; integer = false; magnitude = 0 }

abbrev pub text_answer : ℕ → Outcome Held → Answer
text_answer first o = answer (text_token o.state first o.place o.held.text.len) o.held.slots

-- its bytes from a place on
abbrev pub text_from : List ℕ → ℕ → List ℕ → Outcome Held
text_from bs from slots = outcome held_after from text_mode (held blank_text slots) (drop from bs)

-- of a number or a literal name
abbrev pub bare_token : ℕ → ℕ → Outcome Number → Token
bare_token head first o =
    record { state = o.state; head = head; first = first; after = o.place; stop = o.place; len = 0; integer = is_integer o.mode && eqb o.held.over 0; magnitude = o.held.magnitude }

-- its bytes from a place on, where the first led to a mode
abbrev pub bare_from : List ℕ → ℕ → ℕ → ℕ → Outcome Number
bare_from bs from m head = outcome number_after from m (number_with blank_number head) (drop from bs)
