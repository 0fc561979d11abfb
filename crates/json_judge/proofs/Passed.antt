-- What is passed over says nothing: no frame changes, and nothing is refused.
use mathlib.Core.Path.{◌≡◌, refl}
use mathlib.Core.Bool.{Bool, true, false}
use mathlib.Core.List.{List}
use mathlib.Core.Option.{Option, none, some}
use Prim.Native.Nat.{ℕ}
use Rattle.json_rule.specs.Tree.{Defect, Json, Scalar, Array, Object, Items, no_item, item, Members, no_member, bare_name, member}
use Rattle.json_rule.specs.Members.{text_in}
use Rattle.json_judge.specs.Frames.{anything, Frame, PassedList, PassedObject, action_said_by}
use Rattle.json_judge.proofs.Walk.{inside, items, members}

-- a value that is not wanted as an action names none
pub no_action : (o : Option (List ℕ)) → action_said_by false o ≡ none
no_action none = refl
no_action (some word) = refl

mutual
  unfolding inside

  pub passed_value : (x : Json) (f : Frame) (r : Option Defect) → inside x anything f r ≡ r
  passed_value (Scalar t) f r = refl
  passed_value (Array place xs closed) f r = passed_items xs r
  passed_value (Object place ms closed) f r = passed_members ms closed r

  pub passed_items : (xs : Items) (r : Option Defect) → items xs PassedList r ≡ r
  passed_items no_item r = refl
  passed_items (item x xs) r = rw (no_action (text_in x), passed_value x PassedList r) (passed_items xs r)

  pub passed_members : (ms : Members) (closed : Bool) (r : Option Defect) → members ms closed PassedObject r ≡ r
  passed_members no_member true r = refl
  passed_members no_member false r = refl
  passed_members (bare_name t) true r = refl
  passed_members (bare_name t) false r = refl
  passed_members (member t x ms) closed r = rw (no_action (text_in x), passed_value x PassedObject r) (passed_members ms closed r)
