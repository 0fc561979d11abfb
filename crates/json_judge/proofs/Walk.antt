-- The course over a tree: what happens from the first lexeme of a value to its last, and what of it is heard.
use Prim.Native.Nat.{ℕ}
use mathlib.Core.Path.{◌≡◌, refl, sym, ap, ◌∙◌}
use mathlib.Core.Bool.{Bool, true, false, cond}
use mathlib.Core.List.{List, [], ◌∷◌}
use mathlib.Core.Option.{Option, none, some}
use Rattle.rules.proofs.Checks.{by_option}
use Rattle.json_rule.specs.Lexemes.{Lexeme}
use Rattle.json_rule.specs.Tree.{Defect, Json, Scalar, Array, Object, Items, no_item, item, Members, no_member, bare_name, member}
use Rattle.json_rule.specs.Members.{text_in}
use Rattle.json_rule.specs.Shapes.{Row, Action}
use Rattle.json_rule.specs.Defects.{scalar_defects, listing_of, kind_of}
use Rattle.json_judge.specs.Refusal.{refusing}
use Rattle.json_judge.specs.Frames.{Wanted, Frame, Outside, InList, InObject, PassedList, PassedObject, ListBracket, ObjectBracket, bracket_of, stands, opened_list, list_said, opened_object, object_said, each, counted, count_said, row_in, wanted_after, seeing, named, name_said, action_said_by, knowing, known_said, lacking}
use Rattle.json_judge.specs.Course.{Happening, ListBegins, ObjectBegins, ScalarStands, NameStands, FrameEnds}
use Rattle.json_judge.specs.Judging.{heard_all}

-- the action that a value names, where it is wanted
abbrev pub action_said : Wanted → Json → Option Action
action_said w x = action_said_by w.is_action (text_in x)

-- the frame behind a value
abbrev pub settled : Wanted → Json → Frame → Frame
settled w x f = knowing (action_said w x) (counted f)

-- the frame behind a member
abbrev pub behind : Frame → Lexeme → Json → Frame
behind f t x = settled (wanted_after f t) x (named f t)

-- ---- what stays of a frame

-- as it was opened
abbrev pub as_opened : Frame → Frame
as_opened Outside = Outside
as_opened (InList l) = InList (record { room = l.room; each = l.each; place = l.place; schema = l.schema; count = 0 })
as_opened (InObject o) = InObject (record { kind = o.kind; place = o.place; schema = o.schema; seen = []; action = none })
as_opened PassedList = PassedList
as_opened PassedObject = PassedObject

knowing_opened : (a : Option Action) (f : Frame) → as_opened (knowing a f) ≡ as_opened f
knowing_opened none f = refl
knowing_opened (some a) Outside = refl
knowing_opened (some a) (InList l) = refl
knowing_opened (some a) (InObject o) = refl
knowing_opened (some a) PassedList = refl
knowing_opened (some a) PassedObject = refl

counted_opened : (f : Frame) → as_opened (counted f) ≡ as_opened f
counted_opened Outside = refl
counted_opened (InList l) = refl
counted_opened (InObject o) = refl
counted_opened PassedList = refl
counted_opened PassedObject = refl

named_opened : (f : Frame) (t : Lexeme) → as_opened (named f t) ≡ as_opened f
named_opened Outside t = refl
named_opened (InList l) t = refl
named_opened (InObject o) t = go (row_in o t)
  where
    go : (row : Option Row) → as_opened (InObject (seeing t row o)) ≡ as_opened (InObject o)
    go none = refl
    go (some r) = refl
named_opened PassedList t = refl
named_opened PassedObject t = refl

-- what is told of a frame by how it was opened stays
module _ {A : Type 0} (tell : Frame → A) (h : (f : Frame) → tell f ≡ tell (as_opened f)) where
  pub settled_stays : (w : Wanted) (x : Json) (f : Frame) → tell (settled w x f) ≡ tell f
  settled_stays w x f = h (settled w x f) ∙ (ap tell (knowing_opened (action_said w x) (counted f) ∙ counted_opened f) ∙ sym (h f))

  pub behind_stays : (f : Frame) (t : Lexeme) (x : Json) → tell (behind f t x) ≡ tell f
  behind_stays f t x = settled_stays (wanted_after f t) x (named f t) ∙ (h (named f t) ∙ (ap tell (named_opened f t) ∙ sym (h f)))

bracket_opened : (f : Frame) → bracket_of f ≡ bracket_of (as_opened f)
bracket_opened Outside = refl
bracket_opened (InList l) = refl
bracket_opened (InObject o) = refl
bracket_opened PassedList = refl
bracket_opened PassedObject = refl

pub settled_bracket : (w : Wanted) (x : Json) (f : Frame) → bracket_of (settled w x f) ≡ bracket_of f
settled_bracket = settled_stays bracket_of bracket_opened

pub behind_bracket : (f : Frame) (t : Lexeme) (x : Json) → bracket_of (behind f t x) ≡ bracket_of f
behind_bracket = behind_stays bracket_of bracket_opened

pub opened_list_lem : (w : Wanted) (f : Frame) (place : ℕ) → bracket_of (opened_list w f place) ≡ ListBracket
opened_list_lem w f place = by_option (λ (g : Frame). bracket_of g ≡ ListBracket) (listing_of w.shape) (λ e. refl) (λ l e. refl)

pub opened_object_lem : (w : Wanted) (f : Frame) (place : ℕ) → bracket_of (opened_object w f place) ≡ ObjectBracket
opened_object_lem w f place = by_option (λ (g : Frame). bracket_of g ≡ ObjectBracket) (kind_of w.shape) (λ e. refl) (λ k e. refl)

-- a list lacks nothing
list_lacks : (f : Frame) → bracket_of f ≡ ListBracket → lacking f ≡ []
list_lacks Outside e = refl
list_lacks (InList l) e = refl
list_lacks (InObject o) e = cc
list_lacks PassedList e = refl
list_lacks PassedObject e = refl

-- ---- what happens

-- the end of a frame, where it was closed, and what happens behind it
abbrev pub ending : Bool → Frame → List Happening → List Happening
ending true f later = FrameEnds f ∷ later
ending false f later = later

-- of a value that is wanted in a frame, and what happens behind it
unfoldable mutual
  pub happen : Json → Wanted → Frame → List Happening → List Happening
  happen (Scalar t) w f later = ScalarStands w f t ∷ later
  happen (Array place xs closed) w f later = ListBegins w f place ∷ items_happen xs closed (opened_list w f place) later
  happen (Object place ms closed) w f later = ObjectBegins w f place ∷ members_happen ms closed (opened_object w f place) later

  -- of the elements from one on
  pub items_happen : Items → Bool → Frame → List Happening → List Happening
  items_happen no_item closed f later = ending closed f later
  items_happen (item x xs) closed f later = happen x (each f) f (items_happen xs closed (settled (each f) x f) later)

  pub members_happen : Members → Bool → Frame → List Happening → List Happening
  members_happen no_member closed f later = ending closed f later
  members_happen (bare_name t) closed f later = NameStands f t ∷ ending closed (named f t) later
  members_happen (member t x ms) closed f later = NameStands f t ∷ happen x (wanted_after f t) (named f t) (members_happen ms closed (behind f t x) later)

-- ---- what is heard of it

unfoldable mutual
  -- inside a value that was begun
  pub inside : Json → Wanted → Frame → Option Defect → Option Defect
  inside (Scalar t) w f r = refusing (scalar_defects w.shape (stands w f t.first) t) r
  inside (Array place xs closed) w f r = items xs (opened_list w f place) (refusing (list_said w f place) r)
  inside (Object place ms closed) w f r = members ms closed (opened_object w f place) (refusing (object_said w f place) r)

  pub items : Items → Frame → Option Defect → Option Defect
  items no_item f r = r
  items (item x xs) f r =
      items xs (settled (each f) x f)
      (refusing (known_said (action_said (each f) x) (counted f)) (inside x (each f) f (refusing (count_said f) r)))

  pub members : Members → Bool → Frame → Option Defect → Option Defect
  members no_member closed f r = cond closed (refusing (lacking f) r) r
  members (bare_name t) closed f r = cond closed (refusing (lacking (named f t)) (refusing (name_said f t) r)) (refusing (name_said f t) r)
  members (member t x ms) closed f r =
      members ms closed (behind f t x)
      (refusing (known_said (action_said (wanted_after f t) x) (counted (named f t)))
      (inside x (wanted_after f t) (named f t) (refusing (count_said (named f t)) (refusing (name_said f t) r))))

-- from its first lexeme to its last
abbrev pub value_heard : Json → Wanted → Frame → Option Defect → Option Defect
value_heard x w f r = refusing (known_said (action_said w x) (counted f)) (inside x w f (refusing (count_said f) r))

ending_heard : (closed : Bool) (f : Frame) (later : List Happening) (r : Option Defect) → heard_all (ending closed f later) r ≡ heard_all later (cond closed (refusing (lacking f) r) r)
ending_heard true f later r = refl
ending_heard false f later r = refl

list_ending : (closed : Bool) (f : Frame) (r : Option Defect) → bracket_of f ≡ ListBracket → cond closed (refusing (lacking f) r) r ≡ r
list_ending true f r b = rw (list_lacks f b)
list_ending false f r b = refl

mutual
  unfolding happen inside

  pub happen_heard : (x : Json) (w : Wanted) (f : Frame) (later : List Happening) (r : Option Defect) → heard_all (happen x w f later) r ≡ heard_all later (value_heard x w f r)
  happen_heard (Scalar t) w f later r = refl
  happen_heard (Array place xs closed) w f later r = items_heard xs closed (opened_list w f place) later _ (opened_list_lem w f place)
  happen_heard (Object place ms closed) w f later r = members_heard ms closed (opened_object w f place) later _

  items_heard : (xs : Items) (closed : Bool) (f : Frame) (later : List Happening) (r : Option Defect) → bracket_of f ≡ ListBracket → heard_all (items_happen xs closed f later) r ≡ heard_all later (items xs f r)
  items_heard no_item closed f later r b = ending_heard closed f later r ∙ ap (λ (s : Option Defect). heard_all later s) (list_ending closed f r b)
  items_heard (item x xs) closed f later r b =
      happen_heard x (each f) f (items_happen xs closed (settled (each f) x f) later) r ∙ items_heard xs closed (settled (each f) x f) later _ (settled_bracket (each f) x f ∙ b)

  members_heard : (ms : Members) (closed : Bool) (f : Frame) (later : List Happening) (r : Option Defect) → heard_all (members_happen ms closed f later) r ≡ heard_all later (members ms closed f r)
  members_heard no_member closed f later r = ending_heard closed f later r
  members_heard (bare_name t) closed f later r = ending_heard closed (named f t) later (refusing (name_said f t) r)
  members_heard (member t x ms) closed f later r =
      happen_heard x (wanted_after f t) (named f t) (members_happen ms closed (behind f t x) later) (refusing (name_said f t) r) ∙ members_heard ms closed (behind f t x) later _
