-- The open lists and objects, and what each says of an element, of a name, of the action and of its end.
use Rattle.std.specs.Prelude.{ℕ, suc, Bool, true, false, cond, not, ◌&&◌, List, [], ◌∷◌, ◌++◌, map, ltb}
use Rattle.std.proofs.Math.Option.{Option, none, some}
use Rattle.rules.specs.Words.{all, same_bytes}
use Rattle.json_rule.specs.Letters.{bytes}
use Rattle.json_rule.specs.Lexemes.{Lexeme}
use Rattle.json_rule.specs.Values.{text_of}
use Rattle.json_rule.specs.Tree.{Defect, over_capacity}
use Rattle.json_rule.specs.Members.{is_one_of}
use Rattle.json_rule.specs.Shapes.{Kind, AnUpdate, ASnapshot, ASchema, AField, AnOrder, ASortField, ASpec, APartitionField, Shape, Anything, Row, Action, action_name, rows_of}
use Rattle.json_rule.specs.Defects.{not_published, refused_at, unless, row_of, listed_action, is_foreign, foreign_name, required_names, both_or_neither, schema_place, stands_at, listing_of, kind_of, misplaced}

-- A value that is wanted: what it is to be, whether a defect of the value itself stands at the schema around, and whether it is the action of an update.
pub record Wanted : Type 0 where
  pub shape : Shape
  pub of_schema : Bool
  pub is_action : Bool

abbrev pub plainly : Shape → Wanted
plainly shape = record { shape = shape; of_schema = false; is_action = false }

-- a value that is passed over
abbrev pub anything : Wanted
anything = plainly Anything

-- a member that was seen: its published name, and the place of the name in the text
pub record Seen : Type 0 where
  pub name : List ℕ
  pub place : ℕ

-- an open list: how many it may have, what each is to be, its first byte's place, the place of the schema around, and how many it has, up to its room
pub record OpenList : Type 0 where
  pub room : ℕ
  pub each : Shape
  pub place : ℕ
  pub schema : ℕ
  pub count : ℕ

-- an open object: what it is, its first byte's place, the place of the schema around its members, those that were seen, and its listed action, once it is known
pub record OpenObject : Type 0 where
  pub kind : Kind
  pub place : ℕ
  pub schema : ℕ
  pub seen : List Seen
  pub action : Option Action

-- What is passed over: where anything may stand, where something else is to be, and behind a name that is unknown or repeated.
pub data Frame : Type 0 where
  Outside : Frame
  InList : OpenList → Frame
  InObject : OpenObject → Frame
  PassedList : Frame
  PassedObject : Frame

-- which bracket was opened last
pub data Bracket : Type 0 where
  NoBracket ListBracket ObjectBracket : Bracket

abbrev pub bracket_of : Frame → Bracket
bracket_of Outside = NoBracket
bracket_of (InList l) = ListBracket
bracket_of (InObject o) = ObjectBracket
bracket_of PassedList = ListBracket
bracket_of PassedObject = ObjectBracket

abbrev pub schema_around : Frame → ℕ
schema_around Outside = 0
schema_around (InList l) = l.schema
schema_around (InObject o) = o.schema
schema_around PassedList = 0
schema_around PassedObject = 0

-- ---- a list or an object begins

-- where a defect of a value that is wanted stands
abbrev pub stands : Wanted → Frame → ℕ → ℕ
stands w f place = stands_at w.of_schema (schema_around f) place

abbrev pub opened_list : Wanted → Frame → ℕ → Frame
opened_list w f place = elim (listing_of w.shape) [
  | none ↦ PassedList
  | some l ↦ InList (record { room = l.room; each = l.each; place = place; schema = schema_around f; count = 0 })
]

abbrev pub list_said : Wanted → Frame → ℕ → List Defect
list_said w f place = elim (listing_of w.shape) [ none ↦ misplaced w.shape (stands w f place) | some l ↦ [] ]

abbrev pub opened_object : Wanted → Frame → ℕ → Frame
opened_object w f place = elim (kind_of w.shape) [
  | none ↦ PassedObject
  | some kind ↦ InObject (record { kind = kind; place = place; schema = schema_place kind place (schema_around f); seen = []; action = none })
]

abbrev pub object_said : Wanted → Frame → ℕ → List Defect
object_said w f place = elim (kind_of w.shape) [ none ↦ misplaced w.shape (stands w f place) | some kind ↦ [] ]

-- ---- one more element

abbrev pub each_shape : Frame → Shape
each_shape Outside = Anything
each_shape (InList l) = l.each
each_shape (InObject o) = Anything
each_shape PassedList = Anything
each_shape PassedObject = Anything

-- what an element of the list is to be
abbrev pub each : Frame → Wanted
each f = plainly (each_shape f)

abbrev pub is_filled : OpenList → Bool
is_filled l = not (ltb l.count l.room)

abbrev pub counted_in : OpenList → OpenList
counted_in l = record { room = l.room; each = l.each; place = l.place; schema = l.schema; count = cond (is_filled l) l.count (suc l.count) }

-- a value stands in a list
abbrev pub counted : Frame → Frame
counted Outside = Outside
counted (InList l) = InList (counted_in l)
counted (InObject o) = InObject o
counted PassedList = PassedList
counted PassedObject = PassedObject

-- over its capacity the list is refused at its bracket
abbrev pub count_said : Frame → List Defect
count_said Outside = []
count_said (InList l) = unless (not (is_filled l)) l.place over_capacity
count_said (InObject o) = []
count_said PassedList = []
count_said PassedObject = []

-- ---- a name

abbrev pub names_in : List Seen → List (List ℕ)
names_in seen = map (λ (s : Seen). s.name) seen

-- the row of a name; none where it is unknown or repeated
abbrev pub row_in : OpenObject → Lexeme → Option Row
row_in o t = row_of (rows_of o.kind) (names_in o.seen) (text_of t)

abbrev pub is_update : Kind → Bool
is_update AnUpdate = true
is_update ASnapshot = false
is_update ASchema = false
is_update AField = false
is_update AnOrder = false
is_update ASortField = false
is_update ASpec = false
is_update APartitionField = false

abbrev pub wanted_by : Kind → Option Row → Wanted
wanted_by kind none = anything
wanted_by kind (some r) = record { shape = r.shape; of_schema = r.of_schema; is_action = is_update kind && same_bytes action_name r.name }

-- what the value of a name is to be
abbrev pub wanted_after : Frame → Lexeme → Wanted
wanted_after Outside t = anything
wanted_after (InList l) t = anything
wanted_after (InObject o) t = wanted_by o.kind (row_in o t)
wanted_after PassedList t = anything
wanted_after PassedObject t = anything

abbrev pub seeing : Lexeme → Option Row → OpenObject → OpenObject
seeing t none o = o
seeing t (some r) o = record { kind = o.kind; place = o.place; schema = o.schema; seen = record { name = r.name; place = t.first } ∷ o.seen; action = o.action }

-- with a name
abbrev pub named : Frame → Lexeme → Frame
named Outside t = Outside
named (InList l) t = InList l
named (InObject o) t = InObject (seeing t (row_in o t) o)
named PassedList t = PassedList
named PassedObject t = PassedObject

-- a name of another action than the one that is known
abbrev pub foreign_by : Option Action → Lexeme → List Defect
foreign_by none t = []
foreign_by (some a) t = foreign_name a t

-- a name that is unknown or repeated, or stands in other rows only
abbrev pub row_said : Option Row → Option Action → Lexeme → List Defect
row_said none action t = refused_at t.first not_published
row_said (some r) action t = foreign_by action t

abbrev pub name_said : Frame → Lexeme → List Defect
name_said Outside t = []
name_said (InList l) t = []
name_said (InObject o) t = row_said (row_in o t) o.action t
name_said PassedList t = []
name_said PassedObject t = []

-- ---- the action

-- the action that a text names, where it is wanted
abbrev pub action_said_by : Bool → Option (List ℕ) → Option Action
action_said_by is_action none = none
action_said_by is_action (some word) = cond is_action (listed_action (some word)) none

abbrev pub acting : Action → OpenObject → OpenObject
acting a o = record { kind = o.kind; place = o.place; schema = o.schema; seen = o.seen; action = some a }

-- with the action, if one became known
abbrev pub knowing : Option Action → Frame → Frame
knowing none f = f
knowing (some a) Outside = Outside
knowing (some a) (InList l) = InList l
knowing (some a) (InObject o) = InObject (acting a o)
knowing (some a) PassedList = PassedList
knowing (some a) PassedObject = PassedObject

-- the names that were seen and stand in other rows only
abbrev pub foreign_seen : Action → List Seen → List Defect
foreign_seen a [] = []
foreign_seen a (s ∷ others) = unless (not (is_foreign a s.name)) s.place not_published ++ foreign_seen a others

abbrev pub known_said : Option Action → Frame → List Defect
known_said none f = []
known_said (some a) Outside = []
known_said (some a) (InList l) = []
known_said (some a) (InObject o) = foreign_seen a o.seen
known_said (some a) PassedList = []
known_said (some a) PassedObject = []

-- ---- the end

-- the names that an object has to have, by those that it has and by its action
abbrev pub needed : Kind → List (List ℕ) → Option Action → List (List ℕ)
needed AnUpdate names action = action_name ∷ elim action [ none ↦ [] | some a ↦ required_names a.rows ]
needed ASnapshot names action = required_names (rows_of ASnapshot) ++ both_or_neither names (bytes "first-row-id") (bytes "added-rows")
needed ASchema names action = required_names (rows_of ASchema)
needed AField names action = required_names (rows_of AField)
needed AnOrder names action = required_names (rows_of AnOrder)
needed ASortField names action = required_names (rows_of ASortField)
needed ASpec names action = required_names (rows_of ASpec)
needed APartitionField names action = required_names (rows_of APartitionField)

abbrev pub has_all : OpenObject → Bool
has_all o = all (is_one_of (names_in o.seen)) (needed o.kind (names_in o.seen) o.action)

-- a closed object that lacks a member is refused at its bracket
abbrev pub lacking : Frame → List Defect
lacking Outside = []
lacking (InList l) = []
lacking (InObject o) = unless (has_all o) o.place not_published
lacking PassedList = []
lacking PassedObject = []
