-- The course over the lexemes: what may come next, what is open, and what happens at a lexeme. What is made of it is said elsewhere: the least refusal (Judging),
-- the updates that are sent (Sending).
use Rattle.std.specs.Prelude.{ℕ, Bool, true, false, cond, List, [], ◌∷◌, ◌++◌, leb, length}
use Rattle.std.proofs.Math.Option.{Option, none, some}
use Rattle.json_rule.specs.Lexemes.{Lexeme, quote}
use Rattle.json_rule.specs.Values.{text_of}
use Rattle.json_rule.specs.Tree.{Defect, not_json, over_capacity, deepest, is_scalar, is_byte}
use Rattle.json_rule.specs.Shapes.{update_list}
use Rattle.json_judge.specs.Frames.{Wanted, plainly, Frame, Outside, Bracket, NoBracket, ListBracket, ObjectBracket, bracket_of, opened_list, opened_object, each, counted, wanted_after, named, action_said_by, knowing}

-- A value; one, or the end of a list; a name; one, or the end of an object; a colon, and then a value; a comma, or the end; nothing.
pub data Next : Type 0 where
  AValue : Wanted → Next
  FirstItem : Wanted → Next
  AName : Next
  FirstName : Next
  AColon : Wanted → Next
  AfterValue : Next
  Stopped : Next

-- the innermost list or object that is open, and those around it, the inner first
pub record Course : Type 0 where
  pub next : Next
  pub within : Frame
  pub around : List Frame

-- What happens, with what is wanted and the frame in which it happens: a list or an object begins at a place, a text, a number or a word stands there whole, a
-- name stands there, the frame ends; or reading stops.
pub data Happening : Type 0 where
  ListBegins : Wanted → Frame → ℕ → Happening
  ObjectBegins : Wanted → Frame → ℕ → Happening
  ScalarStands : Wanted → Frame → Lexeme → Happening
  NameStands : Frame → Lexeme → Happening
  FrameEnds : Frame → Happening
  Stops : Defect → Happening

-- where the course goes on, and what happened, if anything did
pub record Step : Type 0 where
  pub course : Course
  pub happened : List Happening

abbrev pub to : Next → Frame → List Frame → List Happening → Step
to next f around happened = record { course = record { next = next; within = f; around = around }; happened = happened }

abbrev pub start : Course
start = record { next = AValue (plainly update_list); within = Outside; around = [] }

abbrev pub stop : Frame → List Frame → ℕ → ℕ → Step
stop f around place number = to Stopped f around (Stops (record { place = place; number = number }) ∷ [])

-- ---- values

abbrev pub on_list : Wanted → Frame → List Frame → ℕ → Step
on_list w f around place = to (FirstItem (each (opened_list w f place))) (opened_list w f place) (counted f ∷ around) (ListBegins w f place ∷ [])

abbrev pub on_object : Wanted → Frame → List Frame → ℕ → Step
on_object w f around place = to FirstName (opened_object w f place) (counted f ∷ around) (ObjectBegins w f place ∷ [])

-- the 17th open bracket
abbrev pub unless_full : Frame → List Frame → ℕ → Step → Step
unless_full f around place s = cond (leb deepest (length around)) (stop f around place over_capacity) s

-- it may name the action
abbrev pub on_whole : Wanted → Frame → List Frame → Lexeme → Step
on_whole w f around t = to AfterValue (knowing (action_said_by w.is_action (text_of t)) (counted f)) around (ScalarStands w f t ∷ [])

abbrev pub on_scalar : Wanted → Frame → List Frame → Lexeme → Step
on_scalar w f around t = cond (is_scalar t) (cond t.whole (on_whole w f around t) (stop f around t.stop not_json)) (stop f around t.first not_json)

unfoldable pub on_value : Wanted → Frame → List Frame → Lexeme → Step
on_value w f around t =
    cond (is_byte 91 t) (unless_full f around t.first (on_list w f around t.first))
    (cond (is_byte 123 t) (unless_full f around t.first (on_object w f around t.first))
    (on_scalar w f around t))

-- ---- names

unfoldable pub on_name : Frame → List Frame → Lexeme → Step
on_name f around t =
    cond (is_byte quote t)
    (cond t.whole (to (AColon (wanted_after f t)) (named f t) around (NameStands f t ∷ [])) (stop f around t.stop not_json))
    (stop f around t.first not_json)

abbrev pub on_colon : Wanted → Frame → List Frame → Lexeme → Step
on_colon w f around t = cond (is_byte 58 t) (to (AValue w) f around []) (stop f around t.first not_json)

-- ---- ends

-- the byte that closes what is open
abbrev pub is_end_of : Bracket → Lexeme → Bool
is_end_of NoBracket t = false
is_end_of ListBracket t = is_byte 93 t
is_end_of ObjectBracket t = is_byte 125 t

-- a byte closes the innermost list or object: at once behind its first bracket, or behind a value
abbrev pub closes : Next → Frame → Lexeme → Bool
closes (AValue w) f t = false
closes (FirstItem w) f t = is_byte 93 t
closes AName f t = false
closes FirstName f t = is_byte 125 t
closes (AColon w) f t = false
closes AfterValue f t = is_end_of (bracket_of f) t
closes Stopped f t = false

-- around a list or an object there is always something, be it the outside
abbrev pub on_end : Frame → List Frame → Step
on_end f [] = to AfterValue Outside [] []
on_end f (g ∷ around) = to AfterValue g around (FrameEnds f ∷ [])

-- what follows a comma: an element in a list, a name in an object
abbrev pub behind_comma : Bracket → Frame → Option Next
behind_comma NoBracket f = none
behind_comma ListBracket f = some (AValue (each f))
behind_comma ObjectBracket f = some AName

abbrev pub comma_before : Option Next → Frame → List Frame → Lexeme → Step
comma_before none f around t = stop f around t.first not_json
comma_before (some next) f around t = cond (is_byte 44 t) (to next f around []) (stop f around t.first not_json)

abbrev pub on_comma : Frame → List Frame → Lexeme → Step
on_comma f around t = comma_before (behind_comma (bracket_of f) f) f around t

-- ---- all

abbrev pub on_next : Next → Frame → List Frame → Lexeme → Step
on_next (AValue w) f around t = on_value w f around t
on_next (FirstItem w) f around t = on_value w f around t
on_next AName f around t = on_name f around t
on_next FirstName f around t = on_name f around t
on_next (AColon w) f around t = on_colon w f around t
on_next AfterValue f around t = on_comma f around t
on_next Stopped f around t = to Stopped f around []

-- one more lexeme
unfoldable pub step : Course → Lexeme → Step
step c t = cond (closes c.next c.within t) (on_end c.within c.around) (on_next c.next c.within c.around t)

-- nothing is open
abbrev pub is_outside : Bracket → Bool
is_outside NoBracket = true
is_outside ListBracket = false
is_outside ObjectBracket = false

-- reading may end here
abbrev pub may_end : Next → Frame → Bool
may_end (AValue w) f = false
may_end (FirstItem w) f = false
may_end AName f = false
may_end FirstName f = false
may_end (AColon w) f = false
may_end AfterValue f = is_outside (bracket_of f)
may_end Stopped f = true

-- at the end of the text, of this length
unfoldable pub at_end : ℕ → Course → List Happening
at_end len c = cond (may_end c.next c.within) [] (Stops (record { place = len; number = not_json }) ∷ [])

-- all that happens over these lexemes and at the end
abbrev pub happenings : ℕ → Course → List Lexeme → List Happening
happenings len c [] = at_end len c
happenings len c (t ∷ ts) = (step c t).happened ++ happenings len (step c t).course ts
