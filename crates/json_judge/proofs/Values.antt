-- The judge says of a tree what the rule says of it.
use Prim.Native.Nat.{ℕ, suc, ◌+◌, ◌≤◌}
use native.Mathlib.Nat.{zero-add}
use native.Mathlib.Omega.{arith}
use mathlib.Core.Path.{◌≡◌, refl, sym, ap, ap₂, ◌∙◌}
use mathlib.Core.Bool.{Bool, true, false, not, ◌||◌, false≢true}
use mathlib.Core.List.{List, [], ◌++◌}
use mathlib.Core.Option.{Option, none, some}
use lib.Dec.{leb}
use Rattle.rules.specs.Words.{if_some, all}
use Rattle.json_rule.specs.Tree.{Defect, over_capacity, Json, Scalar, Array, Object, Items, no_item, item, Members, no_member, bare_name, member}
use Rattle.json_rule.specs.Members.{is_one_of, names_of, text_in}
use Rattle.json_rule.specs.Shapes.{Kind, AnUpdate, ASnapshot, ASchema, AField, AnOrder, ASortField, ASpec, APartitionField, Shape, Anything, TextUpTo, OneOf, NumberIn, No, AUuid, ATransform, ListUpTo, ARecord, Action, rows_of}
use Rattle.json_rule.specs.Defects.{not_published, unless, action_of, foreign_names, foreign_defects, needed_names, missing_defects, count_of, schema_place, defects, item_defects, member_defects, least}
use Rattle.json_judge.specs.Refusal.{sooner, refusing}
use Rattle.json_judge.specs.Frames.{plainly, OpenList, OpenObject, Frame, InList, InObject, schema_around, counted_in, count_said, is_update}
use Rattle.json_judge.proofs.Least.{sooner_none, least_append, least_three}
use Rattle.json_judge.proofs.Walk.{inside, items, members}
use Rattle.json_judge.proofs.Passed.{no_action, passed_items, passed_members}
use Rattle.json_judge.proofs.Elements.{over, over_none, counted_fits, element_said}
use Rattle.json_judge.proofs.Kept.{Kept, final_by}
use Rattle.json_judge.proofs.Missing.{is_sound, has_all_by, action_sound}
use Rattle.json_judge.proofs.Foreign.{foreign_left}
use Rattle.json_judge.proofs.Objects.{Says, SaysValue, end_said, bare_said, member_said}

-- ---- a list

-- the elements from one on
abbrev SaysItems : Items → Type 0
SaysItems xs = (l : OpenList) (r : Option Defect) → l.count ≤ l.room → items xs (InList l) r ≡ sooner r (sooner (over l (count_of xs)) (least (item_defects l.schema l.each xs)))

no_items_said : SaysItems no_item
unfolding inside item_defects
no_items_said l r h = sym (rw (over_none l h))

item_said : (x : Json) (xs : Items) → SaysValue x → SaysItems xs → SaysItems (item x xs)
unfolding inside item_defects
item_said x xs value says l r h =
    rw (no_action (text_in x), value (plainly l.each) (InList l) (refusing (count_said (InList l)) r))
    (says (counted_in l) _ (counted_fits l h)
    ∙ (element_said l (count_of xs) r (least (defects l.schema false l.each x)) (least (item_defects l.schema l.each xs)) h
    ∙ ap (λ (d : Option Defect). sooner r (sooner (over l (suc (count_of xs))) d)) (sym (least_append (defects l.schema false l.each x) (item_defects l.schema l.each xs)))))

-- a list that was opened has no elements yet
list_defects : (room place count : ℕ) (ds : List Defect) → sooner (least (unless (leb (0 + count) room) place over_capacity)) (least ds) ≡ least (unless (leb count room) place over_capacity ++ ds)
list_defects room place count ds = rw (zero-add count) (sym (least_append (unless (leb count room) place over_capacity) ds))

-- ---- an object

-- the action of an object: that of its members, if it is an update
abbrev pub final_of : Kind → Members → Option Action
final_of kind ms = final_by none (not (is_update kind) || false) (action_of ms)

final_sound : (kind : Kind) (ms : Members) → if_some is_sound (final_of kind ms) ≡ true
final_sound AnUpdate ms = action_sound ms
final_sound ASnapshot ms = refl
final_sound ASchema ms = refl
final_sound AField ms = refl
final_sound AnOrder ms = refl
final_sound ASortField ms = refl
final_sound ASpec ms = refl
final_sound APartitionField ms = refl

needs_all : (kind : Kind) (ms : Members) → has_all_by kind (names_of ms) (final_of kind ms) ≡ all (is_one_of (names_of ms)) (needed_names kind ms)
needs_all AnUpdate ms = refl
needs_all ASnapshot ms = refl
needs_all ASchema ms = refl
needs_all AField ms = refl
needs_all AnOrder ms = refl
needs_all ASortField ms = refl
needs_all ASpec ms = refl
needs_all APartitionField ms = refl

foreign_from : (ms : Members) (final : Option Action) → foreign_left final none [] (λ a. least (foreign_names a ms)) ≡ least (elim final as (λ _. List Defect) [ none ↦ [] | some a ↦ foreign_names a ms ])
foreign_from ms none = refl
foreign_from ms (some a) = sooner_none (least (foreign_names a ms))

foreign_all : (kind : Kind) (ms : Members) → foreign_left (final_of kind ms) none [] (λ a. least (foreign_names a ms)) ≡ least (foreign_defects kind ms)
foreign_all AnUpdate ms = foreign_from ms (action_of ms)
foreign_all ASnapshot ms = refl
foreign_all ASchema ms = refl
foreign_all AField ms = refl
foreign_all AnOrder ms = refl
foreign_all ASortField ms = refl
foreign_all ASpec ms = refl
foreign_all APartitionField ms = refl

-- an object that was opened: nothing was seen
abbrev pub opened : Kind → ℕ → ℕ → OpenObject
opened kind place schema = record { kind = kind; place = place; schema = schema_place kind place schema; seen = []; action = none }

pub kept_opened : (ms : Members) (kind : Kind) (place schema : ℕ) → Kept (names_of ms) (final_of kind ms) (opened kind place schema) [] (names_of ms) (action_of ms)
kept_opened ms kind place schema = record { told = λ n u. refl; total = λ n u. refl; acts = refl; acted = λ u. absurd (false≢true u) }

object_said_lem : (ms : Members) → Says ms → (kind : Kind) (place schema : ℕ) (closed : Bool) (r : Option Defect)
    → members ms closed (InObject (opened kind place schema)) r ≡ sooner r (least (member_defects (schema_place kind place schema) (rows_of kind) [] ms ++ foreign_defects kind ms ++ missing_defects kind place ms closed))
object_said_lem ms says kind place schema closed r =
    says (names_of ms) (final_of kind ms) (opened kind place schema) [] closed r (final_sound kind ms) (kept_opened ms kind place schema)
    ∙ ap (λ (d : Option Defect). sooner r d)
    (ap₂ (λ (f : Option Defect) (h : Bool). sooner (least (member_defects (schema_place kind place schema) (rows_of kind) [] ms)) (sooner f (least (unless (not closed || h) place not_published)))) (foreign_all kind ms) (needs_all kind ms)
    ∙ sym (least_three (member_defects (schema_place kind place schema) (rows_of kind) [] ms) (foreign_defects kind ms) (missing_defects kind place ms closed)))

-- ---- by what is wanted

array_said : (place : ℕ) (xs : Items) (closed : Bool) → SaysItems xs → (shape : Shape) (of_schema is_action : Bool) (f : Frame) (r : Option Defect)
    → inside (Array place xs closed) (record { shape = shape; of_schema = of_schema; is_action = is_action }) f r ≡ sooner r (least (defects (schema_around f) of_schema shape (Array place xs closed)))
unfolding inside defects
array_said place xs closed says Anything of_schema is_action f r = passed_items xs r
array_said place xs closed says (TextUpTo room) of_schema is_action f r = passed_items xs _
array_said place xs closed says (OneOf words) of_schema is_action f r = passed_items xs _
array_said place xs closed says (NumberIn low high) of_schema is_action f r = passed_items xs _
array_said place xs closed says No of_schema is_action f r = passed_items xs _
array_said place xs closed says AUuid of_schema is_action f r = passed_items xs _
array_said place xs closed says ATransform of_schema is_action f r = passed_items xs _
array_said place xs closed says (ListUpTo room each) of_schema is_action f r =
    says (record { room = room; each = each; place = place; schema = schema_around f; count = 0 }) r (omega arith)
    ∙ ap (λ (d : Option Defect). sooner r d) (list_defects room place (count_of xs) (item_defects (schema_around f) each xs))
array_said place xs closed says (ARecord kind) of_schema is_action f r = passed_items xs _

braced_said : (place : ℕ) (ms : Members) (closed : Bool) → Says ms → (shape : Shape) (of_schema is_action : Bool) (f : Frame) (r : Option Defect)
    → inside (Object place ms closed) (record { shape = shape; of_schema = of_schema; is_action = is_action }) f r ≡ sooner r (least (defects (schema_around f) of_schema shape (Object place ms closed)))
unfolding inside defects
braced_said place ms closed says Anything of_schema is_action f r = passed_members ms closed r
braced_said place ms closed says (TextUpTo room) of_schema is_action f r = passed_members ms closed _
braced_said place ms closed says (OneOf words) of_schema is_action f r = passed_members ms closed _
braced_said place ms closed says (NumberIn low high) of_schema is_action f r = passed_members ms closed _
braced_said place ms closed says No of_schema is_action f r = passed_members ms closed _
braced_said place ms closed says AUuid of_schema is_action f r = passed_members ms closed _
braced_said place ms closed says ATransform of_schema is_action f r = passed_members ms closed _
braced_said place ms closed says (ListUpTo room each) of_schema is_action f r = passed_members ms closed _
braced_said place ms closed says (ARecord kind) of_schema is_action f r = object_said_lem ms says kind place (schema_around f) closed r

-- ---- all

mutual
  unfolding inside defects

  pub value_said_lem : (x : Json) → SaysValue x
  value_said_lem (Scalar t) w f r = refl
  value_said_lem (Array place xs closed) w f r = array_said place xs closed (λ l s h. items_said_lem xs l s h) w.shape w.of_schema w.is_action f r
  value_said_lem (Object place ms closed) w f r = braced_said place ms closed (λ whole final o before closed s sound k. members_said_lem ms whole final o before closed s sound k) w.shape w.of_schema w.is_action f r

  items_said_lem : (xs : Items) → SaysItems xs
  items_said_lem no_item l r h = no_items_said l r h
  items_said_lem (item x xs) l r h = item_said x xs (λ w f s. value_said_lem x w f s) (λ k s u. items_said_lem xs k s u) l r h

  members_said_lem : (ms : Members) → Says ms
  members_said_lem no_member whole final o before closed r sound k = end_said whole final o before closed r sound k
  members_said_lem (bare_name t) whole final o before closed r sound k = bare_said t whole final o before closed r sound k
  members_said_lem (member t x ms) whole final o before closed r sound k =
      member_said t x ms (λ w f s. value_said_lem x w f s) (λ wh fi p be cl s so q. members_said_lem ms wh fi p be cl s so q) whole final o before closed r sound k
