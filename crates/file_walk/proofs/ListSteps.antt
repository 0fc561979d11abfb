-- What an element adds to what a list comes to.
use Prim.Native.Nat.{ℕ, suc, ◌+◌, ◌≤◌}
use native.Mathlib.Omega.{arith}
use native.Mathlib.Nat.{add-suc, suc-add}
use mathlib.Core.Path.{◌≡◌, sym, ap, ◌∙◌}
use mathlib.Core.Bool.{false, cond}
use mathlib.Core.List.{List, []}
use mathlib.Core.Option.{Option}
use lib.Dec.{eqb, leb, ltb}
use borrow.Table.Steps.{cases}
use borrow.Author.Tests.{ltb-false, lt-leb}
use Rattle.json_rule.specs.Tree.{Defect, over_capacity, Json, Items, item, Listed, Closed, Open, with_item}
use Rattle.json_rule.specs.Defects.{unless, count_of, least}
use Rattle.json_judge.specs.Refusal.{sooner}
use Rattle.json_judge.proofs.Least.{sooner_none, sooner_itself, sooner_associates, sooner_swaps, least_append}
use Rattle.file_rule.specs.FileDefects.{defects, item_defects}
use Rattle.file_cells.specs.Wants.{shape_of, stands_at_schema}
use Rattle.file_cells.specs.Filled.{filled, next_count, item_cells}
use Rattle.file_walk.specs.Seats.{refusal_of, over_number}
use Rattle.file_walk.specs.Outcomes.{wanted_defects, over_defects, items_said, of_items}

-- ---- the room

over_one : (each room first count n : ℕ) → count ≤ room
    → sooner (refusal_of (over_number each room count) first) (least (cond (eqb each 0) [] (unless (leb (next_count room count + n) room) first over_capacity)))
    ≡ least (cond (eqb each 0) [] (unless (leb (count + suc n) room) first over_capacity))
over_one each room first count n h =
    cases (eqb each 0)
    (λ z. rw z (cases (ltb count room) (λ l. rw l) (λ l. rw l)))
    (λ z. rw z (cases (ltb count room)
    (λ l. rw (l, suc-add count n, add-suc count n) (sooner_none _))
    (λ l.
    let g : room ≤ count = ltb-false count room l in
    rw (l, lt-leb (count + suc n) room (omega arith)) (cases (leb (count + n) room) (λ k. rw k) (λ k. rw k (sooner_itself _))))))

regroup_item : (s o d p i q : Option Defect) → sooner o p ≡ q → sooner (sooner (sooner s d) o) (sooner p i) ≡ sooner s (sooner q (sooner d i))
regroup_item s o d p i q e =
    rw (← e) (simp (sooner_associates, sooner_swaps d o (sooner p i), sooner_swaps d p i))

module _ (version schema each room base first : ℕ) (plain : stands_at_schema each ≡ false) where
  -- the refusal after an element, of which so many were there before
  abbrev pub with_one : ℕ → Option Defect → Json → Option Defect
  with_one count said x = sooner (sooner said (least (wanted_defects version schema each x))) (refusal_of (over_number each room count) first)

  said_one : (count : ℕ) (said : Option Defect) (x : Json) (xs : Items) → count ≤ room
      → sooner said (items_said version schema each room first count (item x xs)) ≡ sooner (with_one count said x) (items_said version schema each room first (next_count room count) xs)
  unfolding defects
  said_one count said x xs h =
      ap (λ (y : Option Defect). sooner said (sooner (least (over_defects each room first count (item x xs))) y)) (least_append (defects version schema false (shape_of each) x) (item_defects version schema (shape_of each) xs))
      ∙ rw plain (sym (regroup_item said (refusal_of (over_number each room count) first) (least (defects version schema false (shape_of each) x)) (least (over_defects each room first (next_count room count) xs))
      (least (item_defects version schema (shape_of each) xs)) (least (over_defects each room first count (item x xs))) (over_one each room first count (count_of xs) h)))

  -- an element more in front
  pub items_with : (count : ℕ) (said : Option Defect) (cells : List ℕ) (x : Json) (l : Listed) → count ≤ room
      → of_items version schema each room base first count said cells (with_item x l)
      ≡ of_items version schema each room base first (next_count room count) (with_one count said x) (filled version each (item_cells base each count) x cells) l
  unfolding filled
  items_with count said cells x (Closed xs ts) h = rw (said_one count said x xs h)
  items_with count said cells x (Open xs stop) h = rw (said_one count said x xs h)
