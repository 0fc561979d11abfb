-- The members of an object: what the judge says from here on is what the rule says of the members that are left, of names of other actions, and of the object's lack.
use mathlib.Core.Path.{◌≡◌, refl, sym, ap, ap₂, subst₂, ◌∙◌}
use mathlib.Core.Bool.{Bool, true, false, cond, not, ◌&&◌, ◌||◌, or-false}
use mathlib.Core.List.{List, [], ◌∷◌}
use mathlib.Core.Option.{Option, none, some}
use Prim.Native.Nat.{ℕ}
use Rattle.rules.specs.Words.{if_some, same_bytes}
use Rattle.json_rule.specs.Lexemes.{Lexeme}
use Rattle.json_rule.specs.Values.{text_of}
use Rattle.json_rule.specs.Tree.{Defect, Json, Members, no_member, bare_name, member}
use Rattle.json_rule.specs.Members.{is_one_of, is_named, names_of, value_of, text_in}
use Rattle.json_rule.specs.Shapes.{Row, Action, action_name, rows_of}
use Rattle.json_rule.specs.Defects.{not_published, unless, row_of, with_name, listed_action, action_of, foreign_name, foreign_names, defects, member_defects, least}
use Rattle.json_judge.specs.Refusal.{sooner, refusing}
use Rattle.json_judge.specs.Frames.{Wanted, schema_around, OpenObject, Frame, InObject, Seen, names_in, row_in, is_update, wanted_by, seeing, foreign_by, acting, knowing, known_said, action_said_by, has_all, foreign_seen}
use Rattle.json_judge.proofs.Least.{sooner_none, least_cons, least_append, order_old, order_new}
use Rattle.json_judge.proofs.Walk.{action_said, inside, members}
use Rattle.json_judge.proofs.Passed.{no_action, passed_value}
use Rattle.json_judge.proofs.Names.{is_said, row_new, row_told}
use Rattle.json_judge.proofs.Kept.{final_by, is_settled, Kept, kept_old, kept_new, kept_acting, no_action_yet, is_final}
use Rattle.json_judge.proofs.Missing.{is_sound, has_all_by, has_same, action_in}
use Rattle.json_judge.proofs.Foreign.{waiting, foreign_left, also_later, foreign_old, foreign_new, foreign_acting}

-- ---- what is left to say

abbrev foreign_of : Members → Action → Option Defect
foreign_of ms a = least (foreign_names a ms)

abbrev lack : List (List ℕ) → Option Action → OpenObject → Bool → Option Defect
lack whole final o closed = least (unless (not closed || has_all_by o.kind whole final) o.place not_published)

-- of members, where the names before them are given
abbrev member_left : OpenObject → List (List ℕ) → Members → Option Defect
member_left o before ms = least (member_defects o.schema (rows_of o.kind) before ms)

abbrev left : List (List ℕ) → Option Action → OpenObject → List (List ℕ) → Members → Bool → Option Defect
left whole final o before ms closed = sooner (member_left o before ms) (sooner (foreign_left final o.action o.seen (foreign_of ms)) (lack whole final o closed))

-- the judge says what is left
abbrev pub Says : Members → Type 0
Says ms = (whole : List (List ℕ)) (final : Option Action) (o : OpenObject) (before : List (List ℕ)) (closed : Bool) (r : Option Defect) → if_some is_sound final ≡ true → Kept whole final o before (names_of ms) (action_of ms)
    → members ms closed (InObject o) r ≡ sooner r (left whole final o before ms closed)

-- ---- the end

pub final_end : (a : Option Action) (settled : Bool) → final_by a settled none ≡ a
final_end none true = refl
final_end none false = refl
final_end (some a) settled = refl

nothing_left : (known : Option Action) (seen : List Seen) → foreign_left known known seen (λ a. none) ≡ none
nothing_left none seen = refl
nothing_left (some a) seen = refl

pub end_said : Says no_member
unfolding inside member_defects action_of
end_said whole final o before closed r s k =
    let e : o.action ≡ final = sym (final_end o.action (is_settled o)) ∙ k.acts in
    let h : has_all o ≡ has_all_by o.kind whole final =
    has_same o.kind (names_in o.seen) whole o.action (λ n u. sym (k.total n u ∙ or-false (is_one_of (names_in o.seen) n))) (ap (if_some is_sound) e ∙ s)
    ∙ ap (has_all_by o.kind whole) e in
    let f : foreign_left final o.action o.seen (λ a. none) ≡ none = ap (λ (a : Option Action). foreign_left a o.action o.seen (λ b. none)) (sym e) ∙ nothing_left o.action o.seen in
    go closed (has_all o) (has_all_by o.kind whole final) h (foreign_left final o.action o.seen (λ a. none)) f
  where
    go : (closed has hasWhole : Bool) → has ≡ hasWhole → (f : Option Defect) → f ≡ none
        → cond closed (refusing (unless has o.place not_published) r) r ≡ sooner r (sooner none (sooner f (least (unless (not closed || hasWhole) o.place not_published))))
    go true has hasWhole h f e = rw (h, e, sooner_none (least (unless hasWhole o.place not_published)), sooner_none (least (unless hasWhole o.place not_published)))
    go false has hasWhole h f e = rw e

-- ---- a name, and what follows it

abbrev refused_name : Lexeme → Option Defect
refused_name t = some (record { place = t.first; number = not_published })

foreign_same : (final known : Option Action) (seen : List Seen) (g h : Action → Option Defect) → ((a : Action) → g a ≡ h a) → foreign_left final known seen g ≡ foreign_left final known seen h
foreign_same none known seen g h e = refl
foreign_same (some a) known seen g h e = ap (λ (d : Option Defect). sooner (waiting known a seen) d) (e a)

final_known : (known : Option Action) (settled : Bool) (later final : Option Action) → final_by known settled later ≡ final → (b : Action) → known ≡ some b → final ≡ some b
final_known known settled later final e b k = sym e ∙ rw k

-- Of one name, what is said of it and of its value, `here`, and of the names of other actions, `foreign`, are given beside those of the rest.
module _ (whole : List (List ℕ)) (final : Option Action) (o : OpenObject) (before : List (List ℕ)) (closed : Bool) (r : Option Defect) (sound : if_some is_sound final ≡ true)
    (t : Lexeme) (rest : Members) (says : Says rest) (answer here : Option Defect) (foreign : Action → Option Defect) (f : (a : Action) → foreign a ≡ also_later t (foreign_of rest) a) where
  abbrev left_here : Option Defect
  left_here = sooner here (sooner (foreign_left final o.action o.seen foreign) (lack whole final o closed))

  abbrev rest_left : Option Defect
  rest_left = member_left o (with_name before (text_of t)) rest

  as_foreign : (d : Option Defect) → here ≡ d → sooner r (sooner d (sooner (foreign_left final o.action o.seen (also_later t (foreign_of rest))) (lack whole final o closed))) ≡ sooner r left_here
  as_foreign d e =
      ap₂ (λ (a b : Option Defect). sooner r (sooner a (sooner b (lack whole final o closed)))) (sym e)
      (foreign_same final o.action o.seen (also_later t (foreign_of rest)) foreign (λ a. sym (f a)))

  old_said : here ≡ sooner (refused_name t) rest_left → Kept whole final o (with_name before (text_of t)) (names_of rest) (action_of rest)
      → answer ≡ members rest closed (InObject o) (sooner r (refused_name t)) → answer ≡ sooner r left_here
  old_said h k e =
      e
      ∙ (says whole final o (with_name before (text_of t)) closed (sooner r (refused_name t)) sound k
      ∙ (order_old r (refused_name t) rest_left _ (foreign_left final o.action o.seen (also_later t (foreign_of rest))) (lack whole final o closed) (foreign_old final o.action o.seen t (foreign_of rest))
      ∙ as_foreign (sooner (refused_name t) rest_left) h))

  module _ (ρ : Row) (e : text_of t ≡ some ρ.name) (value : Option Defect) (h : here ≡ sooner value rest_left) where
    new_said : ((b : Action) → o.action ≡ some b → final ≡ some b) → Kept whole final (seeing t (some ρ) o) (with_name before (text_of t)) (names_of rest) (action_of rest)
        → answer ≡ members rest closed (InObject (seeing t (some ρ) o)) (sooner (sooner r (least (foreign_by o.action t))) value) → answer ≡ sooner r left_here
    new_said a k g =
        g
        ∙ (says whole final (seeing t (some ρ) o) (with_name before (text_of t)) closed _ sound k
        ∙ (order_new r (least (foreign_by o.action t)) value none rest_left _ (foreign_left final o.action o.seen (also_later t (foreign_of rest))) (lack whole final o closed)
        (ap (λ (d : Option Defect). sooner (least (foreign_by o.action t)) d) (sooner_none (foreign_left final o.action (seeing t (some ρ) o).seen (foreign_of rest))) ∙ foreign_new t ρ.name e o.seen (foreign_of rest) final o.action a)
        ∙ as_foreign (sooner value rest_left) h))

    acting_said : (a : Action) → o.action ≡ none → final ≡ some a → Kept whole final (acting a (seeing t (some ρ) o)) (with_name before (text_of t)) (names_of rest) (action_of rest)
        → answer ≡ members rest closed (InObject (acting a (seeing t (some ρ) o))) (sooner (sooner (sooner r (least (foreign_by o.action t))) value) (least (foreign_seen a (seeing t (some ρ) o).seen))) → answer ≡ sooner r left_here
    acting_said a n e' k g =
        g
        ∙ (says whole final (acting a (seeing t (some ρ) o)) (with_name before (text_of t)) closed _ sound k
        ∙ (order_new r (least (foreign_by o.action t)) value (least (foreign_seen a (seeing t (some ρ) o).seen)) rest_left _ (foreign_left final o.action o.seen (also_later t (foreign_of rest))) (lack whole final o closed)
        (rw (n, e') (sooner_none _ ∙ foreign_acting t ρ.name e o.seen (foreign_of rest) a))
        ∙ as_foreign (sooner value rest_left) h))

-- ---- members

pub names_here : (l : List (List ℕ)) (m : Option (List ℕ)) → (elim m as (λ _. List (List ℕ)) [ none ↦ l | some name ↦ name ∷ l ]) ≡ with_name l m
names_here l none = refl
names_here l (some name) = refl

pub action_here : (t : Lexeme) (x : Json) (ms : Members) → action_of (member t x ms) ≡ cond (is_said (text_of t) action_name) (listed_action (text_in x)) (action_of ms)
unfolding action_of
action_here t x ms = go (is_named action_name t)
  where
    go : (b : Bool) → action_in (cond b (some x) (value_of action_name ms)) ≡ cond b (listed_action (text_in x)) (action_of ms)
    go true = refl
    go false = refl

-- what the rule says of a member
module _ (schema : ℕ) (rows : List Row) (before : List (List ℕ)) (t : Lexeme) (x : Json) (ms : Members) where
  member_old : row_of rows before (text_of t) ≡ none → least (member_defects schema rows before (member t x ms)) ≡ sooner (refused_name t) (least (member_defects schema rows (with_name before (text_of t)) ms))
  unfolding member_defects
  member_old e = rw e (least_cons (record { place = t.first; number = not_published }) (member_defects schema rows (with_name before (text_of t)) ms))

  member_new : (ρ : Row) → row_of rows before (text_of t) ≡ some ρ
      → least (member_defects schema rows before (member t x ms)) ≡ sooner (least (defects schema ρ.of_schema ρ.shape x)) (least (member_defects schema rows (with_name before (text_of t)) ms))
  unfolding member_defects
  member_new ρ e = rw e (least_append (defects schema ρ.of_schema ρ.shape x) (member_defects schema rows (with_name before (text_of t)) ms))

-- what the judge says of it
module _ (o : OpenObject) (t : Lexeme) (x : Json) (ms : Members) (closed : Bool) (r : Option Defect) where
  walk_old : row_in o t ≡ none → members (member t x ms) closed (InObject o) r ≡ members ms closed (InObject o) (sooner r (refused_name t))
  unfolding inside
  walk_old e = rw (e, no_action (text_in x), passed_value x (InObject o) (sooner r (refused_name t)))

  walk_new : (ρ : Row) → row_in o t ≡ some ρ
      → members (member t x ms) closed (InObject o) r
      ≡ members ms closed (knowing (action_said (wanted_by o.kind (some ρ)) x) (InObject (seeing t (some ρ) o)))
      (refusing (known_said (action_said (wanted_by o.kind (some ρ)) x) (InObject (seeing t (some ρ) o))) (inside x (wanted_by o.kind (some ρ)) (InObject (seeing t (some ρ) o)) (refusing (foreign_by o.action t) r)))
  unfolding inside
  walk_new ρ e = rw e

-- a value that is wanted as the action, and what it names
pub no_action_named : (update isName : Bool) (text : Option (List ℕ)) → action_said_by (update && isName) text ≡ none → update ≡ true → isName ≡ true → listed_action text ≡ none
no_action_named update isName none e u s = refl
no_action_named update isName (some word) e u s = rw (u, s) at e

pub action_named : (update isName : Bool) (text : Option (List ℕ)) (a : Action) → action_said_by (update && isName) text ≡ some a → (update ≡ true) × (isName ≡ true) × (listed_action text ≡ some a)
action_named update isName none a e = (cc, cc, cc)
action_named false isName (some word) a e = (cc, cc, cc)
action_named true false (some word) a e = (cc, cc, cc)
action_named true true (some word) a e = (refl, refl, e)

-- the judge says of a value what the rule says
abbrev pub SaysValue : Json → Type 0
SaysValue x = (w : Wanted) (f : Frame) (r : Option Defect) → inside x w f r ≡ sooner r (least (defects (schema_around f) w.of_schema w.shape x))

module _ (t : Lexeme) (x : Json) (ms : Members) (value : SaysValue x) (says : Says ms) (whole : List (List ℕ)) (final : Option Action) (o : OpenObject) (before : List (List ℕ)) (closed : Bool) (r : Option Defect)
    (sound : if_some is_sound final ≡ true) (k : Kept whole final o before (with_name (names_of ms) (text_of t)) (cond (is_said (text_of t) action_name) (listed_action (text_in x)) (action_of ms))) where
  foreign_here : (a : Action) → foreign_of (member t x ms) a ≡ also_later t (foreign_of ms) a
  foreign_here a = least_append (foreign_name a t) (foreign_names a ms)

  row_here : row_of (rows_of o.kind) before (text_of t) ≡ row_in o t
  row_here = row_told (rows_of o.kind) before (names_in o.seen) (text_of t) k.told

  member_by_row : (row : Option Row) → row_in o t ≡ row → members (member t x ms) closed (InObject o) r ≡ sooner r (left whole final o before (member t x ms) closed)
  member_by_row none e =
      old_said whole final o before closed r sound t ms says _ (member_left o before (member t x ms)) (foreign_of (member t x ms)) foreign_here
      (member_old o.schema (rows_of o.kind) before t x ms (row_here ∙ e))
      (kept_old whole final o before (names_of ms) (listed_action (text_in x)) (action_of ms) (text_of t) k e)
      (walk_old o t x ms closed r e)
  member_by_row (some ρ) e = by_action (action_said (wanted_by o.kind (some ρ)) x) refl
    where
      by_action : (a : Option Action) → action_said (wanted_by o.kind (some ρ)) x ≡ a → members (member t x ms) closed (InObject o) r ≡ sooner r (left whole final o before (member t x ms) closed)
      by_action none n =
          new_said whole final o before closed r sound t ms says _ (member_left o before (member t x ms)) (foreign_of (member t x ms)) foreign_here ρ
          (row_new (rows_of o.kind) (names_in o.seen) (text_of t) ρ e).0
          (least (defects o.schema ρ.of_schema ρ.shape x))
          (member_new o.schema (rows_of o.kind) before t x ms ρ (row_here ∙ e))
          (final_known o.action (is_settled o) _ final k.acts)
          (kept_new whole final o before (names_of ms) (listed_action (text_in x)) (action_of ms) (text_of t) k ρ e t (no_action_named (is_update o.kind) (same_bytes action_name ρ.name) (text_in x) n))
          (walk_new o t x ms closed r ρ e ∙ rw (n, value (wanted_by o.kind (some ρ)) (InObject (seeing t (some ρ) o)) (refusing (foreign_by o.action t) r)))
      by_action (some a) n =
          let d = action_named (is_update o.kind) (same_bytes action_name ρ.name) (text_in x) a n in
          acting_said whole final o before closed r sound t ms says _ (member_left o before (member t x ms)) (foreign_of (member t x ms)) foreign_here ρ
          (row_new (rows_of o.kind) (names_in o.seen) (text_of t) ρ e).0
          (least (defects o.schema ρ.of_schema ρ.shape x))
          (member_new o.schema (rows_of o.kind) before t x ms ρ (row_here ∙ e))
          a
          (no_action_yet whole final o before (names_of ms) (listed_action (text_in x)) (action_of ms) (text_of t) k ρ e a d.0 d.1 d.2)
          (is_final whole final o before (names_of ms) (listed_action (text_in x)) (action_of ms) (text_of t) k ρ e a d.0 d.1 d.2)
          (kept_acting whole final o before (names_of ms) (listed_action (text_in x)) (action_of ms) (text_of t) k ρ e a d.0 d.1 d.2 t)
          (walk_new o t x ms closed r ρ e ∙ rw (n, value (wanted_by o.kind (some ρ)) (InObject (seeing t (some ρ) o)) (refusing (foreign_by o.action t) r)))

pub member_said : (t : Lexeme) (x : Json) (ms : Members) → SaysValue x → Says ms → Says (member t x ms)
member_said t x ms value says whole final o before closed r sound k =
    member_by_row t x ms value says whole final o before closed r sound
    (subst₂ (λ (l : List (List ℕ)) (a : Option Action). Kept whole final o before l a) (names_here (names_of ms) (text_of t)) (action_here t x ms) k)
    (row_in o t) refl

-- a name without its value, where the text stops
module _ (t : Lexeme) (whole : List (List ℕ)) (final : Option Action) (o : OpenObject) (before : List (List ℕ)) (closed : Bool) (r : Option Defect)
    (sound : if_some is_sound final ≡ true) (k : Kept whole final o before (with_name [] (text_of t)) (cond (is_said (text_of t) action_name) none none)) where
  bare_row : row_of (rows_of o.kind) before (text_of t) ≡ row_in o t
  bare_row = row_told (rows_of o.kind) before (names_in o.seen) (text_of t) k.told

  bare_by_row : (row : Option Row) → row_in o t ≡ row → members (bare_name t) closed (InObject o) r ≡ sooner r (left whole final o before (bare_name t) closed)
  unfolding inside member_defects action_of
  bare_by_row none e =
      old_said whole final o before closed r sound t no_member end_said _ (member_left o before (bare_name t)) (foreign_of (bare_name t)) (λ a. refl)
      (rw (bare_row ∙ e))
      (kept_old whole final o before [] none none (text_of t) k e)
      (rw e)
  bare_by_row (some ρ) e =
      new_said whole final o before closed r sound t no_member end_said _ (member_left o before (bare_name t)) (foreign_of (bare_name t)) (λ a. refl) ρ
      (row_new (rows_of o.kind) (names_in o.seen) (text_of t) ρ e).0
      none
      (rw (bare_row ∙ e))
      (final_known o.action (is_settled o) _ final k.acts)
      (kept_new whole final o before [] none none (text_of t) k ρ e t (λ u s. refl))
      (rw e)

same_either : (b : Bool) → none ≡ cond {A = Option Action} b none none
same_either true = refl
same_either false = refl

pub bare_said : (t : Lexeme) → Says (bare_name t)
unfolding action_of
bare_said t whole final o before closed r sound k =
    bare_by_row t whole final o before closed r sound
    (subst₂ (λ (l : List (List ℕ)) (a : Option Action). Kept whole final o before l a) (names_here [] (text_of t)) (same_either (is_said (text_of t) action_name)) k)
    (row_in o t) refl
