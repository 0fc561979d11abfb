-- What a name and its value add to what an object under names of its own comes to.
use Prim.Native.Nat.{ℕ, suc, ◌+◌, ◌≤◌}
use native.Mathlib.Omega.{arith}
use native.Mathlib.Nat.{add-suc, suc-add}
use mathlib.Core.Path.{◌≡◌, sym, ap, ◌∙◌}
use mathlib.Core.Bool.{false}
use mathlib.Core.List.{List, []}
use mathlib.Core.Option.{Option, none, some}
use lib.Dec.{leb, ltb}
use borrow.Table.Steps.{cases}
use borrow.Author.Tests.{ltb-true, ltb-false, lt-leb, le-leb}
use Rattle.json_rule.specs.Lexemes.{Lexeme}
use Rattle.json_rule.specs.Values.{text_of}
use Rattle.json_rule.specs.Tree.{Defect, over_capacity, Json, Members, no_member, bare_name, member, Named, ClosedBy, OpenBy, with_member}
use Rattle.json_rule.specs.Defects.{unless, with_name, least}
use Rattle.json_judge.specs.Refusal.{sooner}
use Rattle.json_judge.proofs.Least.{sooner_none, sooner_itself, sooner_associates, sooner_swaps, least_three}
use Rattle.file_rule.specs.FileDefects.{defects, named_defects, members_count, own_name_defects}
use Rattle.file_cells.specs.Wants.{shape_of, stands_at_schema}
use Rattle.file_cells.specs.Filled.{put_value, filled, next_count, named_cells}
use Rattle.file_walk.specs.Seats.{refusal_of}
use Rattle.file_walk.specs.Outcomes.{outcome, wanted_defects}
use Rattle.file_walk.specs.Named.{over_room, named_said, of_named}

-- ---- the room

over_more : (room first count n : ℕ) → count ≤ room
    → sooner (refusal_of (over_room room count) first) (least (unless (leb (next_count room count + n) room) first over_capacity)) ≡ least (unless (leb (count + suc n) room) first over_capacity)
over_more room first count n h =
    cases (ltb count room)
    (λ l. rw (l, suc-add count n, add-suc count n) (sooner_none _))
    (λ l.
    let g : room ≤ count = ltb-false count room l in
    rw (l, lt-leb (count + suc n) room (omega arith)) (cases (leb (count + n) room) (λ k. rw k) (λ k. rw k (sooner_itself _))))

next_fits : (room count : ℕ) → count ≤ room → next_count room count ≤ room
next_fits room count h = cases (ltb count room) (λ l. rw l (let k : suc count ≤ room = ltb-true count room l in k)) (λ l. rw l h)

-- a name without a value
over_last : (room first count : ℕ) → count ≤ room → least (unless (leb (count + 1) room) first over_capacity) ≡ refusal_of (over_room room count) first
over_last room first count h =
    let k : next_count room count + 0 ≤ room = omega (arith, next_fits room count h) in
    sym (over_more room first count 0 h) ∙ rw (le-leb (next_count room count + 0) room k)

regroup_member : (s o w d p i q : Option Defect) → sooner o p ≡ q
    → sooner (sooner (sooner (sooner s o) w) d) (sooner p i) ≡ sooner s (sooner q (sooner w (sooner d i)))
regroup_member s o w d p i q e =
    rw (← e) (simp (sooner_associates, sooner_swaps d p i, sooner_swaps w p (sooner d i)))

module _ (version schema each room base first : ℕ) (plain : stands_at_schema each ≡ false) where
  -- the refusal after a name, of which so many were there before with these names
  abbrev pub with_one_name : ℕ → List (List ℕ) → Option Defect → Lexeme → Option Defect
  with_one_name count seen said t = sooner (sooner said (refusal_of (over_room room count) first)) (least (own_name_defects seen t))

  said_bare : (count : ℕ) (seen : List (List ℕ)) (said : Option Defect) (t : Lexeme) → count ≤ room
      → sooner said (named_said version schema each room first count seen (bare_name t)) ≡ with_one_name count seen said t
  unfolding defects
  said_bare count seen said t h =
      rw (over_last room first count h) (sym (sooner_associates said (refusal_of (over_room room count) first) (least (own_name_defects seen t))))

  said_member : (count : ℕ) (seen : List (List ℕ)) (said : Option Defect) (t : Lexeme) (x : Json) (ms : Members) → count ≤ room
      → sooner said (named_said version schema each room first count seen (member t x ms))
      ≡ sooner (sooner (with_one_name count seen said t) (least (wanted_defects version schema each x))) (named_said version schema each room first (next_count room count) (with_name seen (text_of t)) ms)
  unfolding defects
  said_member count seen said t x ms h =
      ap (λ (y : Option Defect). sooner said (sooner (least (unless (leb (count + suc (members_count ms)) room) first over_capacity)) y))
      (least_three (own_name_defects seen t) (defects version schema false (shape_of each) x) (named_defects version schema (shape_of each) (with_name seen (text_of t)) ms))
      ∙ rw plain (sym (regroup_member said (refusal_of (over_room room count) first) (least (own_name_defects seen t)) (least (defects version schema false (shape_of each) x))
      (least (unless (leb (next_count room count + members_count ms) room) first over_capacity)) (least (named_defects version schema (shape_of each) (with_name seen (text_of t)) ms))
      (least (unless (leb (count + suc (members_count ms)) room) first over_capacity)) (over_more room first count (members_count ms) h)))

  -- the cells with a name and its value
  abbrev pub cells_with : ℕ → Lexeme → Json → List ℕ → List ℕ
  cells_with count t x cells = filled version each (2 + named_cells base each count) x (put_value (named_cells base each count) t.first 0 cells)

  -- a member more in front
  pub named_with : (count : ℕ) (seen : List (List ℕ)) (said : Option Defect) (cells : List ℕ) (t : Lexeme) (x : Json) (l : Named) → count ≤ room
      → of_named version schema each room base first count seen said cells (with_member t x l)
      ≡ of_named version schema each room base first (next_count room count) (with_name seen (text_of t))
      (sooner (with_one_name count seen said t) (least (wanted_defects version schema each x))) (cells_with count t x cells) l
  unfolding filled
  named_with count seen said cells t x (ClosedBy ms ts) h = rw (said_member count seen said t x ms h)
  named_with count seen said cells t x (OpenBy ms stop) h = rw (said_member count seen said t x ms h)

  -- a name without a value
  pub named_bare : (count : ℕ) (seen : List (List ℕ)) (said : Option Defect) (cells : List ℕ) (t : Lexeme) (stop : Defect) → count ≤ room
      → of_named version schema each room base first count seen said cells (OpenBy (bare_name t) stop)
      ≡ outcome (sooner (with_one_name count seen said t) (some stop)) cells 1 [] count
  unfolding filled
  named_bare count seen said cells t stop h = rw (said_bare count seen said t h)

  none_said : (count : ℕ) (seen : List (List ℕ)) → count ≤ room → named_said version schema each room first count seen no_member ≡ none
  unfolding defects
  none_said count seen h = rw (le-leb (count + 0) room (omega arith))

  pub none_open : (count : ℕ) (seen : List (List ℕ)) (said : Option Defect) (cells : List ℕ) (stop : Defect) → count ≤ room
      → of_named version schema each room base first count seen said cells (OpenBy no_member stop) ≡ outcome (sooner said (some stop)) cells 1 [] count
  unfolding filled
  none_open count seen said cells stop h = rw (none_said count seen h)

  pub none_closed : (count : ℕ) (seen : List (List ℕ)) (said : Option Defect) (cells : List ℕ) (ts : List Lexeme) → count ≤ room
      → of_named version schema each room base first count seen said cells (ClosedBy no_member ts) ≡ outcome said cells 0 ts count
  unfolding filled
  none_closed count seen said cells ts h = rw (none_said count seen h)
