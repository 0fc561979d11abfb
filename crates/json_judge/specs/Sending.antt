-- The updates that are sent: what each open list or object holds so far, and what the updates that were closed send.
use Rattle.std.specs.Prelude.{ℕ, true, cond, List, [], ◌∷◌, ◌++◌}
use Rattle.std.proofs.Math.Option.{Option, none, some}
use Rattle.json_rule.specs.Lexemes.{Lexeme}
use Rattle.json_rule.specs.Tree.{Json, Scalar, Array, Object, Items, no_item, item, Members, no_member, bare_name, member}
use Rattle.json_rule.specs.Members.{is_named, members_in}
use Rattle.json_rule.specs.Records.{Sent}
use Rattle.json_rule.specs.Shapes.{Action}
use Rattle.json_judge.specs.Frames.{Frame, Outside, InList, InObject, PassedList, PassedObject, is_update}
use Rattle.json_judge.specs.Course.{Course, start, Happening, ListBegins, ObjectBegins, ScalarStands, NameStands, FrameEnds, Stops, step}

-- ---- what an open list or object holds

-- a member
pub record Held : Type 0 where
  pub name : Lexeme
  pub value : Json

-- Its first byte's place, and its elements or its members, the last first. A name may wait for its value.
pub data Holding : Type 0 where
  HoldsItems : ℕ → List Json → Holding
  HoldsMembers : ℕ → List Held → Holding
  HoldsName : ℕ → List Held → Lexeme → Holding

-- the elements and the members in their order, and others behind them
abbrev pub items_before : List Json → Items → Items
items_before [] ys = ys
items_before (x ∷ xs) ys = items_before xs (item x ys)

abbrev pub members_before : List Held → Members → Members
members_before [] ms = ms
members_before (h ∷ hs) ms = members_before hs (member h.name h.value ms)

-- what is held under a name
abbrev pub held_by : List ℕ → List Held → Option Json
held_by name [] = none
held_by name (h ∷ hs) = cond (is_named name h.name) (some h.value) (held_by name hs)

-- what was held, when it is closed
abbrev pub closed_as : Holding → Json
closed_as (HoldsItems place xs) = Array place (items_before xs no_item) true
closed_as (HoldsMembers place hs) = Object place (members_before hs no_member) true
closed_as (HoldsName place hs t) = Object place (members_before hs (bare_name t)) true

-- ---- what happens to it

-- with one more value, in the innermost
abbrev pub put : Json → List Holding → List Holding
put x [] = []
put x (HoldsItems place xs ∷ others) = HoldsItems place (x ∷ xs) ∷ others
put x (HoldsMembers place hs ∷ others) = HoldsMembers place hs ∷ others
put x (HoldsName place hs t ∷ others) = HoldsMembers place (record { name = t; value = x } ∷ hs) ∷ others

-- with a name
abbrev pub naming : Lexeme → List Holding → List Holding
naming t [] = []
naming t (HoldsItems place xs ∷ others) = HoldsItems place xs ∷ others
naming t (HoldsMembers place hs ∷ others) = HoldsName place hs t ∷ others
naming t (HoldsName place hs u ∷ others) = HoldsName place hs u ∷ others

abbrev pub closing : List Holding → List Holding
closing [] = []
closing (h ∷ others) = put (closed_as h) others

-- what an action sends by the members beside it
abbrev pub sent_as : Option Action → Members → List Sent
sent_as none ms = []
sent_as (some a) ms = a.sends ms ∷ []

-- what a list or an object sends that ends: an update, if its action is known
abbrev pub sent_at : Frame → Members → List Sent
sent_at Outside ms = []
sent_at (InList l) ms = []
sent_at (InObject o) ms = cond (is_update o.kind) (sent_as o.action ms) []
sent_at PassedList ms = []
sent_at PassedObject ms = []

-- the members of the innermost
abbrev pub members_held : List Holding → Members
members_held [] = no_member
members_held (h ∷ others) = members_in (closed_as h)

-- ---- all

pub record Sending : Type 0 where
  pub holdings : List Holding
  pub sent : List Sent

abbrev pub holding : List Holding → Sending → Sending
holding holdings s = record { holdings = holdings; sent = s.sent }

abbrev pub sends : Happening → Sending → Sending
sends (ListBegins w f place) s = holding (HoldsItems place [] ∷ s.holdings) s
sends (ObjectBegins w f place) s = holding (HoldsMembers place [] ∷ s.holdings) s
sends (ScalarStands w f t) s = holding (put (Scalar t) s.holdings) s
sends (NameStands f t) s = holding (naming t s.holdings) s
sends (FrameEnds f) s = record { holdings = closing s.holdings; sent = s.sent ++ sent_at f (members_held s.holdings) }
sends (Stops d) s = s

abbrev pub sends_all : List Happening → Sending → Sending
sends_all [] s = s
sends_all (h ∷ hs) s = sends_all hs (sends h s)

pub record Sender : Type 0 where
  pub course : Course
  pub sending : Sending

-- one more lexeme
abbrev pub send : Sender → Lexeme → Sender
send s t = record { course = (step s.course t).course; sending = sends_all (step s.course t).happened s.sending }

abbrev pub sender : Sender
sender = record { course = start; sending = record { holdings = []; sent = [] } }

abbrev pub sent_from : Sender → List Lexeme → List Sent
sent_from s [] = s.sending.sent
sent_from s (t ∷ ts) = sent_from (send s t) ts

-- what the updates of a text send that were closed
unfoldable pub sent_over : List Lexeme → List Sent
sent_over ts = sent_from sender ts
