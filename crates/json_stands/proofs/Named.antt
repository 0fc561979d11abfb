-- The members of an open object by their names: which one a name is, and the object with one more that was seen.
use Prim.Native.Nat.{ℕ, ◌≤◌, ◌<◌}
use mathlib.Core.Path.{◌≡◌, refl, sym, ap, subst, ◌∙◌}
use mathlib.Core.Bool.{Bool, true, false, cond, ◌&&◌}
use mathlib.Core.List.{List}
use mathlib.Core.Option.{Option, none, some}
use native.Mathlib.Omega.{arith}
use borrow.Author.Tests.{eqb-true, ltb-true}
use borrow.Table.Steps.{cases}
use lib.Dec.{eqb, ltb}
use Rattle.rules.specs.Words.{all, same_bytes}
use Rattle.rules.proofs.Checks.{and_left, and_right}
use Rattle.json_rule.specs.Lexemes.{Lexeme}
use Rattle.json_rule.specs.Values.{text_of}
use Rattle.json_rule.specs.Members.{is_one_of}
use Rattle.json_rule.specs.Shapes.{Kind, AnUpdate, ASnapshot, ASchema, AField, AnOrder, ASortField, ASpec, APartitionField, Row, action_name, rows_of}
use Rattle.json_rule.specs.Defects.{kind_of, is_anything, row_named, row_of}
use Rattle.json_judge.specs.Frames.{Seen, names_in, is_update, wanted_by}
use Rattle.json_members.specs.Slots.{seen_in}
use Rattle.json_members.specs.Kept.{front, TextKept}
use Rattle.json_members.specs.Words.{number_of}
use Rattle.json_members.specs.Spots.{row_at, shape_at, name_at, spots_of, names_of, members_of, row_found, member_named, value_at}
use Rattle.json_members.specs.Model.{new_spot, known_in}
use Rattle.json_members.proofs.Names.{all_at, alike, alike_is, member_row, Found, found, member_kept}
use Rattle.json_members.proofs.Wanted.{value_shape}
use Rattle.json_members.proofs.Kept.{told_of}
use Rattle.json_stands.proofs.Laid.{State, Sized, laid, seen_laid}
use Rattle.json_stands.proofs.Members.{is_member, MarksSay, first_member, from_first, before_end, ends_below}
use Rattle.json_stands.proofs.Stands.{wanted_at, parent_of, Waits, anything, within}

-- ---- the objects and their members

-- the spot of an object
abbrev pub object_of : Kind → ℕ
object_of AnUpdate = 2
object_of ASnapshot = 7
object_of ASchema = 15
object_of AField = 39
object_of AnOrder = 19
object_of ASortField = 46
object_of ASpec = 21
object_of APartitionField = 53

pub object_kind : (kind : Kind) → kind_of (shape_at (object_of kind)) ≡ some kind
unfolding row_at
object_kind AnUpdate = refl
object_kind ASnapshot = refl
object_kind ASchema = refl
object_kind AField = refl
object_kind AnOrder = refl
object_kind ASortField = refl
object_kind ASpec = refl
object_kind APartitionField = refl

-- a member stands in its object, is of the schema as its value is, and is the action where that is so
abbrev is_right : Kind → ℕ → Bool
is_right kind m =
    (eqb (parent_of m) (object_of kind) && ltb m 58)
    && (alike (row_at (value_at m)).of_schema (row_at m).of_schema && alike (eqb (value_at m) 3) (is_update kind && same_bytes action_name (name_at m)))

all_right : (kind : Kind) → all (is_right kind) (spots_of kind) ≡ true
unfolding row_at parent_of value_at
all_right AnUpdate = refl
all_right ASnapshot = refl
all_right ASchema = refl
all_right AField = refl
all_right AnOrder = refl
all_right ASortField = refl
all_right ASpec = refl
all_right APartitionField = refl

module _ (kind : Kind) (m : ℕ) (g : is_member kind m ≡ true) where
  right : is_right kind m ≡ true
  right = all_at (is_right kind) (spots_of kind) m (all_right kind) g

  pub member_parent : parent_of m ≡ object_of kind
  member_parent = eqb-true (parent_of m) (object_of kind) (and_left (eqb (parent_of m) (object_of kind)) (ltb m 58) (and_left _ _ right))

  pub member_below : m < 58
  member_below = ltb-true m 58 (and_right (eqb (parent_of m) (object_of kind)) (ltb m 58) (and_left _ _ right))

  pub member_some : m ≡ 0 → ⊥
  member_some e = omega (arith, from_first kind m g, first_some kind)
    where
      first_some : (k : Kind) → 3 ≤ first_member k
      first_some AnUpdate = omega arith
      first_some ASnapshot = omega arith
      first_some ASchema = omega arith
      first_some AField = omega arith
      first_some AnOrder = omega arith
      first_some ASortField = omega arith
      first_some ASpec = omega arith
      first_some APartitionField = omega arith

  -- its value is awaited in the object
  pub member_waits : Waits (value_at m) (object_of kind)
  unfolding value_at
  member_waits =
      cases (is_anything (shape_at m))
      (λ t. rw t anything)
      (λ f. rw f (within member_below f member_parent))

  -- as the rule's row says
  pub member_wanted : wanted_at (value_at m) ≡ wanted_by kind (some (row_at m))
  member_wanted =
      let b = and_right (eqb (parent_of m) (object_of kind) && ltb m 58) _ right in
      let schema = alike_is (row_at (value_at m)).of_schema (row_at m).of_schema (and_left _ _ b) in
      let action = alike_is (eqb (value_at m) 3) (is_update kind && same_bytes action_name (name_at m)) (and_right (alike (row_at (value_at m)).of_schema (row_at m).of_schema) _ b) in
      rw (value_shape m, schema, action)

-- ---- which member a name is

-- one that was not seen, or none
pub data IsNamed (kind : Kind) (seen : List Seen) (t : Lexeme) : ℕ → Type 0 where
  none_such : row_of (rows_of kind) (names_in seen) (text_of t) ≡ none → IsNamed kind seen t 0
  one_such : {m : ℕ} → is_member kind m ≡ true → text_of t ≡ some (name_at m) → is_one_of (names_in seen) (name_at m) ≡ false → row_of (rows_of kind) (names_in seen) (text_of t) ≡ some (row_at m)
      → IsNamed kind seen t m

module _ (s : State) (z : Sized s.held.marks s.held.places) (kind : Kind) (seen : List Seen) (says : MarksSay s.held.marks kind seen) (t : Lexeme) where
  abbrev rows : List Row
  rows = rows_of kind

  abbrev names : List (List ℕ)
  names = names_in seen

  -- none, whatever was seen
  as_none : {m : ℕ} → m ≡ 0 → row_of rows names (text_of t) ≡ none → IsNamed kind seen t m
  as_none e r = rw e (none_such r)

  none_or_none : (b : Bool) (n : ℕ) → cond b n n ≡ n
  none_or_none true n = refl
  none_or_none false n = refl

  no_row : (b : Bool) {o : Option Row} → o ≡ none → cond b none o ≡ none
  no_row true e = refl
  no_row false e = e

  -- a name of these bytes
  module _ (text : List ℕ) (is : text_of t ≡ some text) where
    spot_is : member_named (object_of kind) text ≡ number_of 0 (names_of (spots_of kind)) text
    unfolding member_named
    spot_is = ap (λ (k : Option Kind). number_of 0 (names_of (members_of k)) text) (object_kind kind)

    seen_spot : (m : ℕ) → is_member kind m ≡ true → seen_in (laid s) m ≡ is_one_of names (name_at m)
    seen_spot m g = seen_laid s z m (omega (arith, before_end kind m g, ends_below kind)) ∙ says m g

    found_spot : (m : ℕ) → row_named text rows ≡ row_found m → eqb m 0 ≡ false → Found (spots_of kind) text m → IsNamed kind seen t (new_spot (laid s) m)
    found_spot m r e f =
        cases (is_one_of names (name_at m))
        (λ y. as_none (rw (seen_spot m f.member, y)) (rw (is, f.is, y)))
        (λ n. let u : IsNamed kind seen t m = one_such f.member (is ∙ ap some f.is) n (rw (is, f.is, n) (sym (ap (λ (l : List ℕ). row_named l rows) f.is) ∙ (r ∙ rw e))) in
        rw (seen_spot m f.member, n) u)

    by_spot : (m : ℕ) → row_named text rows ≡ row_found m → (eqb m 0 ≡ false → Found (spots_of kind) text m) → IsNamed kind seen t (new_spot (laid s) m)
    by_spot m r f =
        cases (eqb m 0)
        (λ y. as_none (ap (new_spot (laid s)) (eqb-true m 0 y) ∙ none_or_none (seen_in (laid s) 0) 0) (rw is (no_row (is_one_of names text) (r ∙ rw y))))
        (λ n. found_spot m r n (f n))

    named_text : IsNamed kind seen t (new_spot (laid s) (member_named (object_of kind) text))
    named_text = by_spot (member_named (object_of kind) text) (member_row (object_of kind) kind text (object_kind kind)) (λ e. rw spot_is (found (spots_of kind) text (rw spot_is at e)))

  -- as it is told of what is kept of the lexeme
  module _ (kept : List ℕ) (len : ℕ) (at : s.within ≡ object_of kind) (k : TextKept kept len (text_of t)) where
    named_by : (x : Option (List ℕ)) → text_of t ≡ x → IsNamed kind seen t (new_spot (laid s) (told_of (member_named (object_of kind)) 0 x))
    named_by none e = as_none (none_or_none (seen_in (laid s) 0) 0) (rw e)
    named_by (some text) e = named_text text e

    pub name_is : IsNamed kind seen t (known_in (laid s) kept len)
    name_is =
        let e = ap (λ (w : ℕ). new_spot (laid s) (member_named w (front len kept))) at ∙ ap (new_spot (laid s)) (member_kept (object_of kind) kept len (text_of t) k) in
        subst (IsNamed kind seen t) (sym e) (named_by (text_of t) refl)
