-- What is said and held of a list, by what is wanted where it stands.
use Prim.Native.Nat.{ℕ}
use native.Mathlib.Nat.{zero-add}
use mathlib.Core.Path.{◌≡◌, refl, sym, ◌∙◌}
use mathlib.Core.Bool.{Bool, true, false, cond, not, ◌&&◌, true≢false}
use mathlib.Core.List.{List, []}
use mathlib.Core.Option.{Option, none, some}
use lib.Dec.{eqb, leb}
use borrow.Table.Steps.{cases}
use borrow.Author.Tests.{not-true}
use Rattle.rules.proofs.Checks.{and_left, and_right}
use Rattle.json_rule.specs.Tree.{Defect, over_capacity, Json, Scalar, Array, Object, Items, no_item, item, Listed, Closed, Open, array_at}
use Rattle.json_rule.specs.Defects.{unless, not_published, count_of, stands_at, is_anything, least}
use Rattle.json_judge.specs.Refusal.{sooner}
use Rattle.json_judge.proofs.Least.{sooner_none, sooner_associates, least_append}
use Rattle.file_rule.specs.Tables.{FileShape, Single, IdOrNull, Several, ByName, OfKind, anything}
use Rattle.file_rule.specs.FileDefects.{defects, item_defects}
use Rattle.file_cells.specs.Wants.{passes_over, shape_of, stands_at_schema, item_in, room_in, item_at, room_at}
use Rattle.file_cells.specs.Filled.{filled, put_count}
use Rattle.file_walk.specs.Seats.{refusal_of}
use Rattle.file_walk.specs.Outcomes.{Outcome, outcome, Meant, misplaced_number, wanted_defects, of_value, items_said, of_items}
use Rattle.file_walk.proofs.Said.{said_unless}
use Rattle.file_walk.proofs.Wanted.{is_record, sound, always_sound, record_shape, record_some, nothing_shape}

module _ (version : ℕ) where
  -- ---- where anything may stand nothing is wrong

  pub anything_right : (schema : ℕ) (b : Bool) (x : Json) → defects version schema b anything x ≡ []
  unfolding defects
  anything_right schema b (Scalar t) = refl
  anything_right schema b (Array place xs closed) = refl
  anything_right schema b (Object place ms closed) = refl

  items_right : (schema : ℕ) (xs : Items) → item_defects version schema anything xs ≡ []
  unfolding defects
  items_right schema no_item = refl
  items_right schema (item x xs) = rw (anything_right schema false x, items_right schema xs)

  no_items_said : (schema room first count : ℕ) (xs : Items) → items_said version schema 0 room first count xs ≡ none
  no_items_said schema room first count xs = rw (nothing_shape, items_right schema xs)

  -- ---- a list, by its shape

  only_misplaced : (schema want room first : ℕ) (xs : Items) (place : ℕ) → eqb want 0 ≡ false
      → some (record { place = place; number = not_published }) ≡ sooner (refusal_of (misplaced_number want 0) place) (items_said version schema 0 room first 0 xs)
  only_misplaced schema want room first xs place e = rw (e, no_items_said schema room first 0 xs)

  by_shape : (schema want first : ℕ) (xs : Items) (closed : Bool) (shape : FileShape) (b : Bool) → sound shape b ≡ true → eqb want 0 ≡ passes_over shape
      → least (defects version schema b shape (Array first xs closed))
      ≡ sooner (refusal_of (misplaced_number want (item_in shape)) (stands_at b schema first)) (items_said version schema (item_in shape) (room_in shape) first 0 xs)
  unfolding defects
  by_shape schema want first xs closed (Single shape) b h e =
      rw (e, no_items_said schema 0 first 0 xs) (said_unless (is_anything shape) (stands_at b schema first) not_published refl ∙ cases (is_anything shape) (λ a. rw a) (λ a. rw a))
  by_shape schema want first xs closed IdOrNull b h e = rw (not-true b h) (only_misplaced schema want 0 first xs first e)
  by_shape schema want first xs closed (ByName room each) b h e =
      rw (not-true b (and_left (not b) (leb room 128 && is_record each) h)) (only_misplaced schema want room first xs first e)
  by_shape schema want first xs closed (OfKind k) b h e = rw (not-true b h) (only_misplaced schema want 0 first xs first e)
  by_shape schema want first xs closed (Several room (OfKind k)) b h e =
      least_append (unless (leb (count_of xs) room) first over_capacity) (item_defects version schema (OfKind k) xs)
      ∙ rw (e, record_some k, record_shape k, zero-add (count_of xs)) (sym (sooner_none _))
  by_shape schema want first xs closed (Several room (Single s)) b h e = absurd (true≢false (sym (and_right (leb room 128) false (and_right (not b) (leb room 128 && false) h))))
  by_shape schema want first xs closed (Several room IdOrNull) b h e = absurd (true≢false (sym (and_right (leb room 128) false (and_right (not b) (leb room 128 && false) h))))
  by_shape schema want first xs closed (Several room (Several n s)) b h e = absurd (true≢false (sym (and_right (leb room 128) false (and_right (not b) (leb room 128 && false) h))))
  by_shape schema want first xs closed (Several room (ByName n s)) b h e = absurd (true≢false (sym (and_right (leb room 128) false (and_right (not b) (leb room 128 && false) h))))

  list_said_lem : (schema want first : ℕ) (xs : Items) (closed : Bool) → Meant want
      → least (wanted_defects version schema want (Array first xs closed))
      ≡ sooner (refusal_of (misplaced_number want (item_at want)) (stands_at (stands_at_schema want) schema first)) (items_said version schema (item_at want) (room_at want) first 0 xs)
  unfolding item_at room_at
  list_said_lem schema want first xs closed m = by_shape schema want first xs closed (shape_of want) (stands_at_schema want) (always_sound want) m.passes

  -- ---- the whole list

  -- the count is put where the list was closed
  abbrev pub closing : ℕ → ℕ → Outcome → Outcome
  closing each base o = outcome o.said (cond (eqb o.state 0) (put_count each base o.count o.cells) o.cells) o.state o.rest 0

  pub array : (schema want base first : ℕ) (said : Option Defect) (cells : List ℕ) (l : Listed) → Meant want
      → of_value version schema want base said cells (array_at first l)
      ≡ closing (item_at want) base
      (of_items version schema (item_at want) (room_at want) base first 0 (sooner said (refusal_of (misplaced_number want (item_at want)) (stands_at (stands_at_schema want) schema first))) cells l)
  unfolding filled
  array schema want base first said cells (Closed xs ts) m =
      rw (list_said_lem schema want first xs true m, sooner_associates said (refusal_of (misplaced_number want (item_at want)) (stands_at (stands_at_schema want) schema first)) (items_said version schema (item_at want) (room_at want) first 0 xs))
  array schema want base first said cells (Open xs stop) m =
      rw (list_said_lem schema want first xs false m, sooner_associates said (refusal_of (misplaced_number want (item_at want)) (stands_at (stands_at_schema want) schema first)) (items_said version schema (item_at want) (room_at want) first 0 xs))
