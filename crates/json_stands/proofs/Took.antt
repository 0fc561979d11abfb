-- What one whole lexeme does to the state of a judge, where nothing is refused: the states before and behind it, the spot of what became whole, and what happens.
use Prim.Native.Nat.{ℕ, suc, ◌≤◌}
use mathlib.Core.Path.{◌≡◌}
use mathlib.Core.Bool.{true, false}
use mathlib.Core.List.{List, [], ◌∷◌}
use mathlib.Core.Logic.{◌⊎◌}
use mathlib.Core.Option.{some}
use Rattle.rules.specs.Words.{is_some}
use Rattle.json_rule.specs.Lexemes.{Lexeme}
use Rattle.json_rule.specs.Values.{text_of}
use Rattle.json_rule.specs.Shapes.{Kind, Action}
use Rattle.json_rule.specs.Defects.{listing_of, kind_of, listed_action}
use Rattle.json_judge.specs.Frames.{Frame, ListBracket, ObjectBracket, bracket_of}
use Rattle.json_judge.specs.Course.{Happening, ListBegins, ObjectBegins, ScalarStands, NameStands, FrameEnds}
use Rattle.json_members.specs.Spots.{shape_at, name_at, item_at, room_in}
use Rattle.json_members.specs.Faults.{Judged, fault_of}
use Rattle.json_members.specs.Marks.{lacks_in}
use Rattle.json_stands.proofs.Marked.{is_marked, cleared}
use Rattle.json_stands.proofs.Laid.{Held, State, state, laid, changed}
use Rattle.json_stands.proofs.Members.{is_member, first_member, member_count}
use Rattle.json_stands.proofs.Open.{Open}
use Rattle.json_stands.proofs.Stands.{wanted_at, parent_of}
use Rattle.json_stands.proofs.Acting.{KindOf, acted}
use Rattle.json_stands.proofs.StandsScalars.{behind}
use Rattle.json_stands.proofs.StandsEnds.{left, skipped}
use Rattle.json_stands.proofs.Named.{object_of}
use Rattle.json_stands.proofs.StandsNames.{behind_known, behind_other}
use Rattle.json_stands.proofs.Holds.{count_in}
use Rattle.json_stands.proofs.Begun.{ListBegun, ObjectBegun}
use Rattle.json_stands.proofs.Begins.{held_then, in_judged_list, in_passed_list, in_judged_object, in_passed_object}

-- ---- what is held behind it

-- a list has one more element, and had room for it
pub record Elements (list : ℕ) (h g : Held) : Type 0 where
  pub room : suc (count_in list h) ≤ room_in (listing_of (shape_at list))
  pub more : count_in list g ≡ suc (count_in list h)

-- the marks and the kind are as before
pub record Kept (s : State) (g : Held) : Type 0 where
  pub marks : g.marks ≡ s.held.marks
  pub kind : g.kind ≡ s.held.kind

-- the value that is wanted stands in the innermost list or object
pub record InPlace (s : State) : Type 0 where
  pub none_passed : s.passed ≡ 0
  pub parent : parent_of s.wanted ≡ s.within

-- ---- what comes

-- an element is wanted next in a list that is judged; in one that is passed over anything
pub record NextItem (s : State) (v : ℕ) : Type 0 where
  pub judged : s.passed ≡ 0 → (v ≡ item_at s.within) × (is_some (listing_of (shape_at s.within)) ≡ true)
  pub passed : (s.passed ≡ 0 → ⊥) → v ≡ 0

pub record KnownMember (s : State) (t : Lexeme) (m : ℕ) : Type 0 where
  pub kind : Kind
  pub none_passed : s.passed ≡ 0
  pub object : s.within ≡ object_of kind
  pub is_member : is_member kind m ≡ true
  pub text : text_of t ≡ some (name_at m)
  pub unseen : is_marked s.held.marks m ≡ false

pub record ListEntered (s : State) (first : ℕ) (g : Held) : Type 0 where
  pub in_place : InPlace s
  pub is_list : is_some (listing_of (shape_at s.wanted)) ≡ true
  pub begun : ListBegun first (held_then s) s.wanted g
  pub kept : Kept s g
  pub items : (s.wanted ≡ 1 → ⊥) → g.items ≡ 0

pub record ObjectEntered (s : State) (first : ℕ) (g : Held) : Type 0 where
  pub kind : Kind
  pub in_place : InPlace s
  pub is_object : kind_of (shape_at s.wanted) ≡ some kind
  pub begun : ObjectBegun first (held_then s) s.wanted g
  pub marks : g.marks ≡ cleared (member_count kind) (first_member kind) s.held.marks
  pub same_kind : (s.wanted ≡ 2 → ⊥) → g.kind ≡ s.held.kind
  pub elements : is_some (listing_of (shape_at s.within)) ≡ true → Elements s.within s.held g

pub record ActionKnown (s : State) (t : Lexeme) (kind : ℕ) : Type 0 where
  pub action : Action
  pub none_passed : s.passed ≡ 0
  pub wanted : s.wanted ≡ 3
  pub object : s.within ≡ 2
  pub expects : s.expect ≡ 0
  pub listed : listed_action (text_of t) ≡ some action
  pub is_kind : KindOf kind action

pub record ScalarRight (s : State) (t : Lexeme) : Type 0 where
  pub in_place : InPlace s
  pub judged : Judged s.wanted
  pub right : fault_of (shape_at s.wanted) t ≡ 0
  pub kept : Kept s (held_then s)
  pub elements : is_some (listing_of (shape_at s.within)) ≡ true → Elements s.within s.held (held_then s)

-- a list or an object that is judged ends, and lacks nothing
pub record FrameWhole (s : State) (f : Frame) (around : List Frame) : Type 0 where
  pub none_passed : s.passed ≡ 0
  pub opened : Open s.held s.within (f ∷ around)
  pub lacks : lacks_in s.within (laid s) ≡ false

abbrev pub ValueMay : State → Type 0
ValueMay s = (s.expect ≡ 0) ⊎ (s.expect ≡ 1)

abbrev pub NameMay : State → Type 0
NameMay s = (s.expect ≡ 2) ⊎ (s.expect ≡ 3)

abbrev pub EndMay : State → Type 0
EndMay s = (s.expect ≡ 1) ⊎ ((s.expect ≡ 3) ⊎ (s.expect ≡ 5))

-- another number of what is expected, and another spot of what is wanted
abbrev pub moved : ℕ → ℕ → State → State
moved expect wanted s = state expect s.kinds s.within wanted s.passed s.number s.place s.held

-- ---- one lexeme

-- reading had stopped; a colon; a comma in an object or in a list; a name; a list or an object that is judged or passed over; a value that is passed over, the
-- action, or a value that is right; the end of what is judged or passed over
pub data Took (s : State) (t : Lexeme) (f : Frame) (around : List Frame) : State → ℕ → List Happening → Type 0 where
  stays : s.expect ≡ 6 → Took s t f around s 0 []
  colon : s.expect ≡ 4 → Took s t f around (moved 0 s.wanted s) 0 []
  comma_name : s.expect ≡ 5 → bracket_of f ≡ ObjectBracket → Took s t f around (moved 2 s.wanted s) 0 []
  comma_item : {v : ℕ} → s.expect ≡ 5 → bracket_of f ≡ ListBracket → NextItem s v → Took s t f around (moved 0 v s) 0 []
  name : {m n p : ℕ} → NameMay s → KnownMember s t m → Took s t f around (behind_known m t.first n p s) 0 (NameStands f t ∷ [])
  name_passed : {n p : ℕ} → NameMay s → (s.passed ≡ 0 → ⊥) → Took s t f around (behind_other n p s) 0 (NameStands f t ∷ [])
  list : {n p : ℕ} {g : Held} → ValueMay s → ListEntered s t.first g → Took s t f around (in_judged_list n p g s) 0 (ListBegins (wanted_at s.wanted) f t.first ∷ [])
  object : {n p : ℕ} {g : Held} → ValueMay s → ObjectEntered s t.first g → Took s t f around (in_judged_object n p g s) 0 (ObjectBegins (wanted_at s.wanted) f t.first ∷ [])
  list_passed : {n p : ℕ} → ValueMay s → s.wanted ≡ 0 → Kept s (held_then s) → Took s t f around (in_passed_list n p (held_then s) s) 0 (ListBegins (wanted_at s.wanted) f t.first ∷ [])
  object_passed : {n p : ℕ} → ValueMay s → s.wanted ≡ 0 → Kept s (held_then s) → Took s t f around (in_passed_object n p (held_then s) s) 0 (ObjectBegins (wanted_at s.wanted) f t.first ∷ [])
  scalar_any : {n p : ℕ} → ValueMay s → s.wanted ≡ 0 → Kept s (held_then s) → Took s t f around (changed n p (held_then s) (behind s)) 0 (ScalarStands (wanted_at s.wanted) f t ∷ [])
  action : {kind n p : ℕ} → ActionKnown s t kind → Kept s (held_then s) → Took s t f around (changed n p (acted kind (held_then s)) (behind s)) 0 (ScalarStands (wanted_at s.wanted) f t ∷ [])
  scalar : {n p : ℕ} → ValueMay s → ScalarRight s t → Took s t f around (changed n p (held_then s) (behind s)) s.wanted (ScalarStands (wanted_at s.wanted) f t ∷ [])
  closes : {n p : ℕ} → EndMay s → FrameWhole s f around → Took s t f around (left n p s) s.within (FrameEnds f ∷ [])
  closes_passed : EndMay s → (s.passed ≡ 0 → ⊥) → Took s t f around (skipped s) 0 (FrameEnds f ∷ [])
