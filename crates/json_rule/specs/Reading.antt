-- What is answered to a text: document 02, request (vi). Nothing here knows of the parts in which it comes.
use Rattle.std.specs.Prelude.{ℕ, List, [], ◌∷◌, ◌++◌}
use Rattle.std.proofs.Math.Option.{Option, none, some}
use Rattle.rules.specs.Words.{or_else}
use Rattle.rules.specs.Replies.{accepted}
use Rattle.rules.specs.Register.{Update}
use Rattle.json_rule.specs.Tree.{Defect, Json, Items, no_item, item, Members, Text, text}
use Rattle.json_rule.specs.Members.{items_in, members_in}
use Rattle.json_rule.specs.Records.{Sent, updates_from, offers_of}
use Rattle.json_rule.specs.Shapes.{Action, update_list}
use Rattle.json_rule.specs.Defects.{least, text_defects_by, action_of}

-- number and place; the updates, and the bytes of what they offer
pub record Reading : Type 0 where
  pub number : ℕ
  pub place : ℕ
  pub updates : List Update
  pub offers : List ℕ

-- what an update sends: one of which the action is listed
abbrev pub sent_by : Members → List Sent
sent_by ms = elim (action_of ms) [ none ↦ [] | some a ↦ (a.sends ms) ∷ [] ]

abbrev pub sent_of : Items → List Sent
sent_of no_item = []
sent_of (item x xs) = sent_by (members_in x) ++ sent_of xs

abbrev pub list_of : Option Json → List Sent
list_of none = []
list_of (some x) = sent_of (items_in x)

-- the list of a text in which nothing is wrong; on a refusal an empty one
abbrev pub answered : List Sent → Option Defect → Reading
answered l none = record { number = accepted; place = 0; updates = updates_from 0 l; offers = offers_of l }
answered l (some d) = record { number = d.number; place = d.place; updates = []; offers = [] }

unfoldable pub reading : List ℕ → Reading
reading bs = answered (list_of (text bs).tree) (least (text_defects_by update_list (text bs)))
