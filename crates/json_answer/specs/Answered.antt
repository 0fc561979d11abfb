-- What is to be answered to a text: what the rule answers to all of its bytes, laid out as a reader answers.
use Rattle.std.specs.Prelude.{ℕ, List, [], ◌∷◌, ◌++◌, length}
use Rattle.rules.specs.Kinds.{laid_updates}
use Rattle.rules.specs.Layout.{pad}
use Rattle.json_rule.specs.Reading.{Reading}
use Rattle.json_rule.proofs.Fits.{offers_room}
use Rattle.json_list.specs.States.{State, feeding, Ended, ended, ending, at_start}

-- number and place, the updates in their slots, and the bytes that they offer with zeros behind them
unfoldable pub laid_reading : Reading → Ended
laid_reading r = ended (record { number = r.number; place = r.place; list = laid_updates r.updates; offered = length r.offers }) (pad offers_room 0 r.offers)

-- all bytes of some parts
abbrev pub joined : List (List ℕ) → List ℕ
joined [] = []
joined (part ∷ parts) = part ++ joined parts

-- a reader with some parts, one after another
abbrev pub feeding_all : List (List ℕ) → State → State
feeding_all [] s = s
feeding_all (part ∷ parts) s = feeding_all parts (feeding part s)

-- what a reader answers to a text in parts, where these bytes stood in the place of what is offered
unfoldable pub answer_to : List ℕ → List (List ℕ) → Ended
answer_to offers parts = ending (feeding_all parts (at_start offers))
