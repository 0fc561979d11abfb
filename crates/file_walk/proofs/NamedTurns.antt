-- One turn of the reader of an object under names of its own: a name, its value, and what stands behind it.
use Prim.Native.Nat.{ℕ, suc, ◌+◌, ◌≤◌}
use native.Mathlib.Omega.{arith}
use mathlib.Core.Path.{◌≡◌, sym, ap, ◌∙◌}
use mathlib.Core.Bool.{false, cond}
use mathlib.Core.List.{List, []}
use mathlib.Core.Option.{Option, some}
use lib.Dec.{eqb, ltb}
use lib.ListN.{length}
use borrow.Table.Steps.{cases}
use borrow.Author.Tests.{ltb-true}
use Rattle.json_rule.specs.Lexemes.{Lexeme}
use Rattle.json_rule.specs.Values.{text_of}
use Rattle.json_rule.specs.Tree.{Defect, no_member, Value, Whole, Cut, Missing, Named, OpenBy, first_member, more_members, next_member}
use Rattle.json_rule.specs.Defects.{with_name, least}
use Rattle.json_judge.specs.Refusal.{sooner}
use Rattle.json_tokens.specs.Tokens.{lexemes_at, TokenAt}
use Rattle.json_tokens.specs.declared.token.Token.{Token}
use Rattle.json_descent.specs.Descent.{members_from}
use Rattle.file_cells.specs.Wants.{stands_at_schema}
use Rattle.file_cells.specs.Filled.{filled, next_count, named_cells}
use Rattle.file_walk.specs.declared.seat.Seat.{Seat}
use Rattle.file_walk.specs.Seats.{said_by, over_number, counting, refused, is_mark, stop_place, begun_by, after_one, counted}
use Rattle.file_walk.specs.Outcomes.{Outcome, told, wanted_defects, of_value}
use Rattle.file_walk.specs.Named.{of_named, named_told, name_put}
use Rattle.file_walk.proofs.Said.{said_refused}
use Rattle.file_walk.proofs.Tokens.{members_more, members_begin}
use Rattle.file_walk.proofs.NamedCells.{name_apart}
use Rattle.file_walk.proofs.NamedSteps.{with_one_name, cells_with, named_with, named_bare, none_open, none_closed}

pub next_fits : (room count : ℕ) → count ≤ room → next_count room count ≤ room
next_fits room count h = cases (ltb count room) (λ l. rw l (let k : suc count ≤ room = ltb-true count room l in k)) (λ l. rw l h)

-- the room was judged at the name: nothing is said of it behind the value
pub nothing_over : (room count first : ℕ) (s : Seat) → said_by (refused (over_number 0 room count) first s) ≡ said_by s
nothing_over room count first s = said_refused (over_number 0 room count) first s ∙ cases (ltb count room) (λ l. rw l) (λ l. rw l)

module _ (version schema each room base first depth : ℕ) (plain : stands_at_schema each ≡ false) (bs : List ℕ) where
  abbrev again : List Lexeme → Named
  again us = members_from (length bs) depth us

  pub begun : (t : Token) (slots : List ℕ) (s : Seat) (cells : List ℕ) → TokenAt bs s.from t slots
      → named_told version bs schema each room base first depth [] (begun_by 125 t s) cells
      ≡ of_named version schema each room base first 0 [] (said_by s) cells (first_member (length bs) again (lexemes_at bs s.from))
  unfolding begun_by
  begun t slots s cells n =
      rw (members_begin bs s.from t slots n again)
      (cases (is_mark 125 t) (λ e. rw e (sym (none_closed version schema each room base first plain 0 [] (said_by s) cells (lexemes_at bs t.after) (omega arith)))) (λ e. rw e))

  pub after : (t : Token) (slots : List ℕ) (seen : List (List ℕ)) (s : Seat) (cells : List ℕ) → TokenAt bs s.from t slots → s.count ≤ room
      → named_told version bs schema each room base first depth seen (after_one 125 (length bs) t s) cells
      ≡ of_named version schema each room base first s.count seen (said_by s) cells (more_members (length bs) again (lexemes_at bs s.from))
  unfolding after_one
  after t slots seen s cells n h =
      rw (members_more bs s.from t slots n again)
      (cases (is_mark 44 t)
      (λ e. rw e)
      (λ e. rw e (cases (is_mark 125 t)
      (λ f. rw f (sym (none_closed version schema each room base first plain s.count seen (said_by s) cells (lexemes_at bs t.after) h)))
      (λ f. rw (f, said_refused 27 (stop_place (length bs) t) s)
      (sym (none_open version schema each room base first plain s.count seen (said_by s) cells (record { place = stop_place (length bs) t; number = 27 }) h))))))

  -- a name, by what its value came to; so much was said behind the name
  pub turned : (count : ℕ) (seen : List (List ℕ)) (said : Option Defect) (cells cells' : List ℕ) (u : Lexeme) (s : Seat) (v : Value) → count ≤ room
      → told bs s cells' ≡ of_value version schema each (2 + named_cells base each count) (with_one_name version schema each room base first plain count seen said u) cells v
      → cond (eqb s.state 0)
      (of_named version schema each room base first (counted 0 room first count s).count (with_name seen (text_of u)) (said_by (counted 0 room first count s))
      (name_put s.state (named_cells base each count) u.first cells') (more_members (length bs) again (lexemes_at bs s.from)))
      (told bs (counted 0 room first count s) (name_put s.state (named_cells base each count) u.first cells'))
      ≡ of_named version schema each room base first count seen said cells (next_member (length bs) u again v)
  unfolding counted
  turned count seen said cells cells' u s (Whole x ts) h e =
      let state : s.state ≡ 0 = ap (λ (o : Outcome). o.state) e in
      let rest : lexemes_at bs s.from ≡ ts = rw state at (ap (λ (o : Outcome). o.rest) e) in
      let is_said : said_by s ≡ sooner (with_one_name version schema each room base first plain count seen said u) (least (wanted_defects version schema each x)) = ap (λ (o : Outcome). o.said) e in
      let is_cells : cells' ≡ filled version each (2 + named_cells base each count) x cells = ap (λ (o : Outcome). o.cells) e in
      rw (ap (λ (n : ℕ). eqb n 0) state, ap (λ (n : ℕ). eqb n 2) state, nothing_over room count first (counting (next_count room count) s), is_said, is_cells, name_apart version each (named_cells base each count) u.first x cells, rest)
      (sym (named_with version schema each room base first plain count seen said cells u x (more_members (length bs) again ts) h))
  turned count seen said cells cells' u s (Cut x stop) h e =
      let state : s.state ≡ 1 = ap (λ (o : Outcome). o.state) e in
      let is_said : said_by s ≡ sooner (sooner (with_one_name version schema each room base first plain count seen said u) (least (wanted_defects version schema each x))) (some stop) = ap (λ (o : Outcome). o.said) e in
      let is_cells : cells' ≡ filled version each (2 + named_cells base each count) x cells = ap (λ (o : Outcome). o.cells) e in
      rw (ap (λ (n : ℕ). eqb n 0) state, ap (λ (n : ℕ). eqb n 2) state, nothing_over room count first (counting (next_count room count) s), is_said, is_cells, name_apart version each (named_cells base each count) u.first x cells, state)
      (sym (none_open version schema each room base first plain (next_count room count) (with_name seen (text_of u))
      (sooner (with_one_name version schema each room base first plain count seen said u) (least (wanted_defects version schema each x)))
      (cells_with version schema each room base first plain count u x cells) stop (next_fits room count h))
      ∙ sym (named_with version schema each room base first plain count seen said cells u x (OpenBy no_member stop) h))
  turned count seen said cells cells' u s (Missing stop) h e =
      let state : s.state ≡ 2 = ap (λ (o : Outcome). o.state) e in
      let is_said : said_by s ≡ sooner (with_one_name version schema each room base first plain count seen said u) (some stop) = ap (λ (o : Outcome). o.said) e in
      let is_cells : cells' ≡ cells = ap (λ (o : Outcome). o.cells) e in
      rw (ap (λ (n : ℕ). eqb n 0) state, ap (λ (n : ℕ). eqb n 2) state, is_said, is_cells) (sym (named_bare version schema each room base first plain count seen said cells u stop h))
