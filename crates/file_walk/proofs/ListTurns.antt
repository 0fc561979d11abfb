-- One turn of the reader of a list: an element, and what stands behind it.
use Prim.Native.Nat.{ℕ, suc, ◌+◌, ◌≤◌}
use native.Mathlib.Omega.{arith}
use mathlib.Core.Path.{◌≡◌, sym, ap, ◌∙◌}
use mathlib.Core.Bool.{false, cond}
use mathlib.Core.List.{List, []}
use mathlib.Core.Option.{Option, none, some}
use lib.Dec.{eqb, ltb}
use lib.ListN.{length}
use borrow.Table.Steps.{cases}
use borrow.Author.Tests.{ltb-true, le-leb}
use Rattle.json_rule.specs.Lexemes.{Lexeme}
use Rattle.json_rule.specs.Tree.{Defect, no_item, Value, Whole, Cut, Missing, Listed, Closed, Open, first_item, next_item, more_items}
use Rattle.json_rule.specs.Defects.{least}
use Rattle.json_judge.specs.Refusal.{sooner}
use Rattle.json_judge.proofs.Least.{sooner_commutes, sooner_associates}
use Rattle.json_tokens.specs.Tokens.{lexemes_at, TokenAt}
use Rattle.json_tokens.specs.declared.token.Token.{Token}
use Rattle.json_descent.specs.Descent.{items_from}
use Rattle.file_rule.specs.FileDefects.{defects}
use Rattle.file_cells.specs.Wants.{stands_at_schema}
use Rattle.file_cells.specs.Filled.{filled, next_count, item_cells}
use Rattle.file_walk.specs.declared.seat.Seat.{Seat}
use Rattle.file_walk.specs.Seats.{refusal_of, said_by, over_number, counting, is_mark, stop_place, begun_by, after_one, counted}
use Rattle.file_walk.specs.Outcomes.{Outcome, outcome, told, wanted_defects, of_value, items_said, of_items, items_told}
use Rattle.file_walk.proofs.Said.{said_refused}
use Rattle.file_walk.proofs.Tokens.{items_more, items_begin}
use Rattle.file_walk.proofs.ListSteps.{with_one, items_with}

pub next_fits : (room count : ℕ) → count ≤ room → next_count room count ≤ room
next_fits room count h = cases (ltb count room) (λ l. rw l (let k : suc count ≤ room = ltb-true count room l in k)) (λ l. rw l h)

late : (a o : Option Defect) (d : Defect) → sooner (sooner a o) (some d) ≡ sooner (sooner a (some d)) o
late a o d = sooner_associates a o (some d) ∙ (ap (λ (x : Option Defect). sooner a x) (sooner_commutes o (some d)) ∙ sym (sooner_associates a (some d) o))

module _ (version schema each room base first depth : ℕ) (plain : stands_at_schema each ≡ false) (bs : List ℕ) where
  abbrev again : List Lexeme → Listed
  again us = items_from (length bs) depth us

  none_said : (count : ℕ) → count ≤ room → items_said version schema each room first count no_item ≡ none
  unfolding defects
  none_said count h = rw (le-leb (count + 0) room (omega arith)) (cases (eqb each 0) (λ z. rw z) (λ z. rw z))

  none_open : (count : ℕ) (said : Option Defect) (cells : List ℕ) (stop : Defect) → count ≤ room
      → of_items version schema each room base first count said cells (Open no_item stop) ≡ outcome (sooner said (some stop)) cells 1 [] count
  unfolding filled
  none_open count said cells stop h = rw (none_said count h)

  none_closed : (count : ℕ) (said : Option Defect) (cells : List ℕ) (ts : List Lexeme) → count ≤ room
      → of_items version schema each room base first count said cells (Closed no_item ts) ≡ outcome said cells 0 ts count
  unfolding filled
  none_closed count said cells ts h = rw (none_said count h)

  pub begun : (t : Token) (slots : List ℕ) (s : Seat) (cells : List ℕ) → TokenAt bs s.from t slots
      → items_told version bs schema each room base first depth (begun_by 93 t s) cells
      ≡ of_items version schema each room base first 0 (said_by s) cells (first_item (length bs) again (lexemes_at bs s.from))
  unfolding begun_by
  begun t slots s cells n =
      rw (items_begin bs s.from t slots n again)
      (cases (is_mark 93 t) (λ e. rw e (sym (none_closed 0 (said_by s) cells (lexemes_at bs t.after) (omega arith)))) (λ e. rw e))

  pub after : (t : Token) (slots : List ℕ) (s : Seat) (cells : List ℕ) → TokenAt bs s.from t slots → s.count ≤ room
      → items_told version bs schema each room base first depth (after_one 93 (length bs) t s) cells
      ≡ of_items version schema each room base first s.count (said_by s) cells (more_items (length bs) again (lexemes_at bs s.from))
  unfolding after_one
  after t slots s cells n h =
      rw (items_more bs s.from t slots n again)
      (cases (is_mark 44 t)
      (λ e. rw e)
      (λ e. rw e (cases (is_mark 93 t)
      (λ f. rw f (sym (none_closed s.count (said_by s) cells (lexemes_at bs t.after) h)))
      (λ f. rw (f, said_refused 27 (stop_place (length bs) t) s) (sym (none_open s.count (said_by s) cells (record { place = stop_place (length bs) t; number = 27 }) h))))))

  -- an element, by what its value came to
  pub turned : (count : ℕ) (said : Option Defect) (cells cells' : List ℕ) (s : Seat) (v : Value) → count ≤ room
      → told bs s cells' ≡ of_value version schema each (item_cells base each count) said cells v
      → cond (eqb s.state 0)
      (of_items version schema each room base first (counted each room first count s).count (said_by (counted each room first count s)) cells' (more_items (length bs) again (lexemes_at bs s.from)))
      (told bs (counted each room first count s) cells')
      ≡ of_items version schema each room base first count said cells (next_item (length bs) again v)
  unfolding counted
  turned count said cells cells' s (Whole x ts) h e =
      let state : s.state ≡ 0 = ap (λ (o : Outcome). o.state) e in
      let rest : lexemes_at bs s.from ≡ ts = rw state at (ap (λ (o : Outcome). o.rest) e) in
      let is_said : said_by s ≡ sooner said (least (wanted_defects version schema each x)) = ap (λ (o : Outcome). o.said) e in
      let is_cells : cells' ≡ filled version each (item_cells base each count) x cells = ap (λ (o : Outcome). o.cells) e in
      rw (ap (λ (n : ℕ). eqb n 0) state, ap (λ (n : ℕ). eqb n 2) state, said_refused (over_number each room count) first (counting (next_count room count) s), is_said, is_cells, rest)
      (sym (items_with version schema each room base first plain count said cells x (more_items (length bs) again ts) h))
  turned count said cells cells' s (Cut x stop) h e =
      let state : s.state ≡ 1 = ap (λ (o : Outcome). o.state) e in
      let is_said : said_by s ≡ sooner (sooner said (least (wanted_defects version schema each x))) (some stop) = ap (λ (o : Outcome). o.said) e in
      let is_cells : cells' ≡ filled version each (item_cells base each count) x cells = ap (λ (o : Outcome). o.cells) e in
      rw (ap (λ (n : ℕ). eqb n 0) state, ap (λ (n : ℕ). eqb n 2) state, said_refused (over_number each room count) first (counting (next_count room count) s), is_said, is_cells, state)
      (ap (λ (d : Option Defect). outcome d (filled version each (item_cells base each count) x cells) 1 [] (next_count room count)) (sym (late (sooner said (least (wanted_defects version schema each x))) (refusal_of (over_number each room count) first) stop))
      ∙ (sym (none_open (next_count room count) (with_one version schema each room base first plain count said x) (filled version each (item_cells base each count) x cells) stop (next_fits room count h))
      ∙ sym (items_with version schema each room base first plain count said cells x (Open no_item stop) h)))
  turned count said cells cells' s (Missing stop) h e =
      let state : s.state ≡ 2 = ap (λ (o : Outcome). o.state) e in
      let is_said : said_by s ≡ sooner said (some stop) = ap (λ (o : Outcome). o.said) e in
      let is_cells : cells' ≡ cells = ap (λ (o : Outcome). o.cells) e in
      rw (ap (λ (n : ℕ). eqb n 0) state, ap (λ (n : ℕ). eqb n 2) state, is_said, is_cells) (sym (none_open count said cells stop h))
