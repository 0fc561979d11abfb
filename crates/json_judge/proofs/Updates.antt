-- Updates stand in the list of updates alone, so what is sent over a whole text is what the rule takes from its tree.
use Prim.Native.Nat.{ℕ}
use mathlib.Core.Path.{◌≡◌, refl, ap, ap₂, ◌∙◌}
use mathlib.Core.Bool.{Bool, true, false, cond, not, false≢true}
use mathlib.Core.List.{List, [], ◌∷◌, ◌++◌}
use mathlib.Core.Option.{Option, none, some}
use borrow.Author.Tests.{not-true}
use Rattle.rules.specs.Words.{if_some, all, same_bytes}
use Rattle.rules.proofs.Checks.{and_left, and_right}
use Rattle.rules.proofs.Tables.{all_first}
use Rattle.json_rule.specs.Lexemes.{Lexeme}
use Rattle.json_rule.specs.Values.{text_of}
use Rattle.json_rule.specs.Tree.{Json, Scalar, Array, Object, Items, no_item, item, Members, no_member, bare_name, member}
use Rattle.json_rule.specs.Members.{is_one_of, names_of, text_in, members_in}
use Rattle.json_rule.specs.Records.{Sent}
use Rattle.json_rule.specs.Shapes.{Kind, AnUpdate, ASnapshot, ASchema, AField, AnOrder, ASortField, ASpec, APartitionField, Shape, Anything, TextUpTo, OneOf, NumberIn, No, AUuid, ATransform, ListUpTo, ARecord, Row, Action, rows_of, update_list}
use Rattle.json_rule.specs.Defects.{row_named, row_of, action_of}
use Rattle.json_rule.specs.Reading.{sent_by, sent_of, list_of}
use Rattle.json_judge.specs.Frames.{Wanted, plainly, OpenList, Frame, Outside, InList, InObject, PassedList, PassedObject, schema_around, opened_list, opened_object, each_shape, each, counted_in, is_update, names_in, row_in, wanted_by, wanted_after, named}
use Rattle.json_judge.specs.Sending.{sent_as, sent_at}
use Rattle.json_judge.proofs.Walk.{settled, behind, as_opened, settled_stays, behind_stays}
use Rattle.json_judge.proofs.Follow.{is_closed, are_closed, are_all}
use Rattle.json_judge.proofs.Passed.{no_action}
use Rattle.json_judge.proofs.Sends.{in_value, in_items, in_members}
use Rattle.json_judge.proofs.Values.{opened}
use Rattle.json_judge.proofs.Ended.{through, Ended, ended_object}

-- ---- no update stands in such a value

abbrev is_free : Shape → Bool
is_free Anything = true
is_free (TextUpTo room) = true
is_free (OneOf words) = true
is_free (NumberIn low high) = true
is_free No = true
is_free AUuid = true
is_free ATransform = true
is_free (ListUpTo room each) = is_free each
is_free (ARecord kind) = not (is_update kind)

abbrev is_free_frame : Frame → Bool
is_free_frame Outside = true
is_free_frame (InList l) = is_free l.each
is_free_frame (InObject o) = not (is_update o.kind)
is_free_frame PassedList = true
is_free_frame PassedObject = true

-- no published member is an update
rows_free : (kind : Kind) → all (λ (r : Row). is_free r.shape) (rows_of kind) ≡ true
rows_free AnUpdate = refl
rows_free ASnapshot = refl
rows_free ASchema = refl
rows_free AField = refl
rows_free AnOrder = refl
rows_free ASortField = refl
rows_free ASpec = refl
rows_free APartitionField = refl

row_free : (rows : List Row) (seen : List (List ℕ)) (m : Option (List ℕ)) → all (λ (r : Row). is_free r.shape) rows ≡ true → if_some (λ (r : Row). is_free r.shape) (row_of rows seen m) ≡ true
row_free rows seen none h = refl
row_free rows seen (some n) h = go (is_one_of seen n)
  where
    go : (b : Bool) → if_some (λ (r : Row). is_free r.shape) (cond b none (row_named n rows)) ≡ true
    go true = refl
    go false = all_first (λ (r : Row). is_free r.shape) (λ (r : Row). same_bytes r.name n) rows h

wanted_free : (f : Frame) (t : Lexeme) → is_free (wanted_after f t).shape ≡ true
wanted_free Outside t = refl
wanted_free (InList l) t = refl
wanted_free (InObject o) t = go (row_in o t) (row_free (rows_of o.kind) (names_in o.seen) (text_of t) (rows_free o.kind))
  where
    go : (row : Option Row) → if_some (λ (r : Row). is_free r.shape) row ≡ true → is_free (wanted_by o.kind row).shape ≡ true
    go none h = refl
    go (some r) h = h
wanted_free PassedList t = refl
wanted_free PassedObject t = refl

each_free : (f : Frame) → is_free_frame f ≡ true → is_free (each_shape f) ≡ true
each_free Outside h = refl
each_free (InList l) h = h
each_free (InObject o) h = refl
each_free PassedList h = refl
each_free PassedObject h = refl

list_free : (shape : Shape) (of_schema is_action : Bool) (f : Frame) (place : ℕ) → is_free shape ≡ true → is_free_frame (opened_list (record { shape = shape; of_schema = of_schema; is_action = is_action }) f place) ≡ true
list_free Anything of_schema is_action f place h = refl
list_free (TextUpTo room) of_schema is_action f place h = refl
list_free (OneOf words) of_schema is_action f place h = refl
list_free (NumberIn low high) of_schema is_action f place h = refl
list_free No of_schema is_action f place h = refl
list_free AUuid of_schema is_action f place h = refl
list_free ATransform of_schema is_action f place h = refl
list_free (ListUpTo room each) of_schema is_action f place h = h
list_free (ARecord kind) of_schema is_action f place h = refl

object_free : (shape : Shape) (of_schema is_action : Bool) (f : Frame) (place : ℕ) → is_free shape ≡ true → is_free_frame (opened_object (record { shape = shape; of_schema = of_schema; is_action = is_action }) f place) ≡ true
object_free Anything of_schema is_action f place h = refl
object_free (TextUpTo room) of_schema is_action f place h = refl
object_free (OneOf words) of_schema is_action f place h = refl
object_free (NumberIn low high) of_schema is_action f place h = refl
object_free No of_schema is_action f place h = refl
object_free AUuid of_schema is_action f place h = refl
object_free ATransform of_schema is_action f place h = refl
object_free (ListUpTo room each) of_schema is_action f place h = refl
object_free (ARecord kind) of_schema is_action f place h = h

-- whether it is free of updates is told by how a frame was opened
free_opened : (f : Frame) → is_free_frame f ≡ is_free_frame (as_opened f)
free_opened Outside = refl
free_opened (InList l) = refl
free_opened (InObject o) = refl
free_opened PassedList = refl
free_opened PassedObject = refl

-- what is free of updates is none, and sends nothing when it ends
free_end : (f : Frame) (ms : Members) → is_free_frame f ≡ true → sent_at f ms ≡ []
free_end Outside ms h = refl
free_end (InList l) ms h = refl
free_end (InObject o) ms h = rw (not-true (is_update o.kind) h)
free_end PassedList ms h = refl
free_end PassedObject ms h = refl

-- ---- such a value sends nothing

nothing : (a b : List Sent) → a ≡ [] → b ≡ [] → a ++ b ≡ []
nothing a b e h = rw (e, h)

mutual
  unfolding in_value

  free_value : (x : Json) (w : Wanted) (f : Frame) → is_free w.shape ≡ true → in_value x w f ≡ []
  free_value (Scalar t) w f h = refl
  free_value (Array place xs closed) w f h = free_items xs (opened_list w f place) (list_free w.shape w.of_schema w.is_action f place h)
  free_value (Object place ms closed) w f h = free_members ms ms (opened_object w f place) (object_free w.shape w.of_schema w.is_action f place h)

  free_items : (xs : Items) (f : Frame) → is_free_frame f ≡ true → in_items xs f ≡ []
  free_items no_item f h = refl
  free_items (item x xs) f h =
      nothing (in_value x (each f) f) (in_items xs (settled (each f) x f)) (free_value x (each f) f (each_free f h))
      (free_items xs (settled (each f) x f) (settled_stays is_free_frame free_opened (each f) x f ∙ h))

  free_members : (ms whole : Members) (f : Frame) → is_free_frame f ≡ true → in_members ms whole f ≡ []
  free_members no_member whole f h = free_end f whole h
  free_members (bare_name t) whole f h = refl
  free_members (member t x ms) whole f h =
      nothing (in_value x (wanted_after f t) (named f t)) (in_members ms whole (behind f t x)) (free_value x (wanted_after f t) (named f t) (wanted_free f t))
      (free_members ms whole (behind f t x) (behind_stays is_free_frame free_opened f t x ∙ h))

-- ---- an update, and the list of them

-- the members of an object send nothing but what it sends itself when it ends
members_send : (ms whole : Members) (f : Frame) → are_all ms ≡ true → in_members ms whole f ≡ sent_at (through ms f) whole
unfolding in_value is_closed
members_send no_member whole f c = refl
members_send (bare_name t) whole f c = absurd (false≢true c)
members_send (member t x ms) whole f c =
    ap (λ (l : List Sent). l ++ in_members ms whole (behind f t x)) (free_value x (wanted_after f t) (named f t) (wanted_free f t))
    ∙ members_send ms whole (behind f t x) (and_right (is_closed x) (are_all ms) c)

sent_as_lem : (ms : Members) (action : Option Action) → sent_as action ms ≡ (elim action as (λ _. List Sent) [ none ↦ [] | some a ↦ a.sends ms ∷ [] ])
sent_as_lem ms none = refl
sent_as_lem ms (some a) = refl

update_ends : (ms : Members) (place schema : ℕ) → are_all ms ≡ true → sent_at (through ms (InObject (opened AnUpdate place schema))) ms ≡ sent_by ms
update_ends ms place schema c =
    let e : Ended (names_of ms) (action_of ms) AnUpdate (through ms (InObject (opened AnUpdate place schema))) = ended_object ms AnUpdate place schema c in
    ap (λ (f : Frame). sent_at f ms) e.is
    ∙ (ap₂ (λ (k : Kind) (a : Option Action). cond (is_update k) (sent_as a ms) []) e.of_kind e.acts ∙ sent_as_lem ms (action_of ms))

update_value : (x : Json) (f : Frame) → is_closed x ≡ true → in_value x (plainly (ARecord AnUpdate)) f ≡ sent_by (members_in x)
unfolding in_value is_closed action_of
update_value (Scalar t) f c = refl
update_value (Array place xs closed) f c = free_items xs PassedList refl
update_value (Object place ms closed) f c =
    members_send ms ms (InObject (opened AnUpdate place (schema_around f))) (and_right closed (are_all ms) c) ∙ update_ends ms place (schema_around f) (and_right closed (are_all ms) c)

list_items : (xs : Items) (l : OpenList) → l.each ≡ ARecord AnUpdate → are_closed xs ≡ true → in_items xs (InList l) ≡ sent_of xs
unfolding in_value is_closed
list_items no_item l e c = refl
list_items (item x xs) l e c =
    ap₂ ◌++◌
    (ap (λ (s : Shape). in_value x (plainly s) (InList l)) e ∙ update_value x (InList l) (and_left (is_closed x) (are_closed xs) c))
    (rw (no_action (text_in x)) (list_items xs (counted_in l) e (and_right (is_closed x) (are_closed xs) c)))

-- what the updates of a whole text send
pub text_sends : (x : Json) → is_closed x ≡ true → in_value x (plainly update_list) Outside ≡ list_of (some x)
unfolding in_value is_closed
text_sends (Scalar t) c = refl
text_sends (Array place xs closed) c = list_items xs _ refl (and_right closed (are_closed xs) c)
text_sends (Object place ms closed) c = free_members ms ms PassedObject refl
