-- The reader of a list keeps its promise: at an element, and from the first bracket to the last.
use Prim.Native.Nat.{ℕ, suc, ◌-◌, ◌≤◌, ◌<◌}
use native.Mathlib.Omega.{arith}
use mathlib.Core.Path.{◌≡◌, refl, sym, ap, ap₂, subst, ◌∙◌}
use mathlib.Core.Bool.{false, cond}
use mathlib.Core.List.{List}
use mathlib.Core.Option.{Option}
use lib.Dec.{eqb}
use lib.ListN.{length}
use borrow.Table.Steps.{cases}
use borrow.Author.Tests.{eqb-true, eq-eqb, ne_eqb}
use Rattle.json_rule.specs.Tree.{Defect, Value, Whole, Cut, Missing, Listed, array_at, first_item, more_items}
use Rattle.json_rule.specs.Defects.{stands_at}
use Rattle.json_judge.specs.Refusal.{sooner}
use Rattle.json_descent.specs.Descent.{value_from, items_from}
use Rattle.json_descent.proofs.Laws.{items_one}
use Rattle.json_tokens.specs.Tokens.{lexemes_at, TokenAt}
use Rattle.json_tokens.specs.declared.token.Token.{Token}
use Rattle.file_cells.specs.Wants.{stands_at_schema, item_at, room_at}
use Rattle.file_cells.specs.Filled.{item_cells, put_count}
use Rattle.file_walk.specs.declared.seat.Seat.{Seat}
use Rattle.file_walk.specs.Seats.{refusal_of, said_by, refused, counting, is_mark, begun_by, after_one, counted}
use Rattle.file_walk.specs.Outcomes.{Outcome, told, misplaced_number, of_value, of_items, items_told}
use Rattle.file_walk.specs.Walked.{MayWalk, Walked, MayEnter, ListWalked, MayTurn, ItemTurned}
use Rattle.file_walk.proofs.Said.{said_refused}
use Rattle.file_walk.proofs.ValueSteps.{mark_bounds}
use Rattle.file_walk.proofs.ListTurns.{next_fits, begun, after, turned}
use Rattle.file_walk.proofs.Wanted.{item_element, room_small}
use Rattle.file_walk.proofs.Bounds.{product_small}
use Rattle.file_cells.specs.Cells.{size_at}
use Rattle.file_walk.proofs.Lists.{closing, array}

-- ---- places

-- how far the reader is behind an element or a member
pub record Onward (from len : ℕ) (r : Seat) : Type 0 where
  pub later : r.state ≡ 3 → from < r.from
  pub onward : from ≤ r.from
  pub fits : r.from ≤ len

pub after_onward : (bs : List ℕ) (close : ℕ) (t : Token) (slots : List ℕ) (s : Seat) → TokenAt bs s.from t slots → s.from ≤ length bs
    → Onward s.from (length bs) (after_one close (length bs) t s)
unfolding after_one
after_onward bs close t slots s n h =
    cases (is_mark 44 t)
    (λ e. let m = mark_bounds bs 0 s.from t slots n 44 e in rw e (record { later = λ z. m.0; onward = omega (arith, m.0); fits = m.1 }))
    (λ e. rw e (cases (is_mark close t)
    (λ f. let m = mark_bounds bs 0 s.from t slots n close f in rw f (record { later = λ z. m.0; onward = omega (arith, m.0); fits = m.1 }))
    (λ f. rw f (record { later = λ z. absurd (omega (arith, z)); onward = omega arith; fits = h }))))

pub begun_onward : (bs : List ℕ) (close : ℕ) (t : Token) (slots : List ℕ) (s : Seat) → TokenAt bs s.from t slots → s.from ≤ length bs
    → (s.from ≤ (begun_by close t s).from) × (((begun_by close t s).from ≤ length bs) × ((begun_by close t s).count ≡ 0))
unfolding begun_by
begun_onward bs close t slots s n h =
    cases (is_mark close t)
    (λ e. let m = mark_bounds bs 0 s.from t slots n close e in rw e (omega (arith, m.0), (m.1, refl)))
    (λ e. rw e (omega arith, (h, refl)))

pub after_count : (close len : ℕ) (t : Token) (s : Seat) → (after_one close len t s).count ≡ s.count
unfolding after_one
after_count close len t s = cases (is_mark 44 t) (λ e. rw e) (λ e. rw e (cases (is_mark close t) (λ f. rw f) (λ f. rw f)))

-- ---- how a value ended

pub by_value : {P : Type 0} (bs : List ℕ) (version schema want base : ℕ) (said : Option Defect) (cells after : List ℕ) (v : Seat) (x : Value)
    → told bs v after ≡ of_value version schema want base said cells x → (v.state ≡ 0 → P) → (v.state ≡ 1 → P) → (v.state ≡ 2 → P) → P
by_value bs version schema want base said cells after v (Whole x ts) e f g h = f (ap (λ (o : Outcome). o.state) e)
by_value bs version schema want base said cells after v (Cut x stop) e f g h = g (ap (λ (o : Outcome). o.state) e)
by_value bs version schema want base said cells after v (Missing stop) e f g h = h (ap (λ (o : Outcome). o.state) e)

-- behind an element: what is counted, and whether more is to be read
module _ (each room first count : ℕ) (v : Seat) where
  counted_from : (counted each room first count v).from ≡ v.from
  unfolding counted
  counted_from = cases (eqb v.state 2) (λ e. rw e) (λ e. rw e)

  counted_state : (v.state ≡ 2 → ⊥) → (counted each room first count v).state ≡ v.state
  unfolding counted
  counted_state f = rw (ne_eqb v.state 2 f)

  counted_missing : v.state ≡ 2 → (counted each room first count v).state ≡ 1
  unfolding counted
  counted_missing e = rw (eq-eqb v.state 2 e)

  counted_fits : count ≤ room → (counted each room first count v).count ≤ room
  unfolding counted
  counted_fits h = cases (eqb v.state 2) (λ e. rw e h) (λ e. rw e (next_fits room count h))

module _ (bs : List ℕ) (version each room schema base depth first : ℕ) (seat : Seat) (cells : List ℕ) (m : MayTurn bs each room base depth seat) (v : Seat) (held : List ℕ)
    (w : Walked bs version each schema (item_cells base each seat.count) depth seat cells v held) where
  abbrev element : Seat
  element = counted each room first seat.count v

  abbrev x : Value
  x = value_from (length bs) depth (lexemes_at bs seat.from)

  by : {P : Type 0} → (v.state ≡ 0 → P) → (v.state ≡ 1 → P) → (v.state ≡ 2 → P) → P
  by f g h = by_value bs version schema each (item_cells base each seat.count) (said_by seat) cells held v x w.is f g h

  turn : cond (eqb v.state 0)
      (of_items version schema each room base first element.count (said_by element) held (more_items (length bs) (λ us. items_from (length bs) depth us) (lexemes_at bs v.from)))
      (told bs element held)
      ≡ of_items version schema each room base first seat.count (said_by seat) cells (items_from (length bs) depth (lexemes_at bs seat.from))
  turn =
      turned version schema each room base first depth m.plain bs seat.count (said_by seat) cells held v x m.counts w.is
      ∙ ap (of_items version schema each room base first seat.count (said_by seat) cells) (sym (items_one (length bs) depth (lexemes_at bs seat.from)))

  -- the list ends with it
  pub ends : (element.state ≡ 0 → ⊥) → ItemTurned bs version each room schema base depth first seat cells element held
  ends f =
      let cut : element.state ≡ 1 =
      by (λ e. absurd (f (counted_state each room first seat.count v (λ z. omega (arith, e, z)) ∙ e)))
      (λ e. counted_state each room first seat.count v (λ z. omega (arith, e, z)) ∙ e)
      (λ e. counted_missing each room first seat.count v e)
      in
      let open' : v.state ≡ 0 → ⊥ = λ e. f (counted_state each room first seat.count v (λ z. omega (arith, e, z)) ∙ e) in
      record {
        is = rw (ap (λ (k : ℕ). eqb k 3) cut) (rw (ne_eqb v.state 0 open') at turn);
        later = λ e. absurd (omega (arith, e, cut));
        onward = omega (arith, counted_from each room first seat.count v, w.onward);
        fits = omega (arith, counted_from each room first seat.count v, w.fits);
        counts = counted_fits each room first seat.count v m.counts;
      }

  -- something stands behind it
  pub goes : (t : Token) (slots : List ℕ) (r : Seat) → element.state ≡ 0 → TokenAt bs element.from t slots → r ≡ after_one 93 (length bs) t element
      → ItemTurned bs version each room schema base depth first seat cells r held
  goes t slots r e n f =
      let whole : v.state ≡ 0 =
      by (λ z. z) (λ z. absurd (omega (arith, e, z, counted_state each room first seat.count v (λ y. omega (arith, y, z)))))
      (λ z. absurd (omega (arith, e, counted_missing each room first seat.count v z)))
      in
      let same : element.from ≡ v.from = counted_from each room first seat.count v in
      let o = after_onward bs 93 t slots element n (omega (arith, same, w.fits)) in
      let before = w.later whole in
      rw f
      (record {
        is =
            after version schema each room base first depth m.plain bs t slots element held n (counted_fits each room first seat.count v m.counts)
            ∙ (ap (λ (p : ℕ). of_items version schema each room base first element.count (said_by element) held (more_items (length bs) (λ us. items_from (length bs) depth us) (lexemes_at bs p))) same
            ∙ (rw (eq-eqb v.state 0 whole) at turn));
        later = λ z. omega (arith, o.onward, before, same);
        onward = omega (arith, o.onward, before, same);
        fits = o.fits;
        counts = rw (after_count 93 (length bs) t element) (counted_fits each room first seat.count v m.counts);
      })

-- ---- the loop

module _ (bs : List ℕ) (version each room schema base depth first : ℕ) (begin : Seat) (start : List ℕ) where
  -- what is said of the list from its first element on is what is said of it from here on
  pub record Listing (s : Seat) (cells : List ℕ) : Type 0 where
    pub is : items_told version bs schema each room base first depth s cells ≡ items_told version bs schema each room base first depth begin start
    pub onward : begin.from ≤ s.from
    pub fits : s.from ≤ length bs
    pub counts : s.count ≤ room

  pub listing_more : (s : Seat) (cells : List ℕ) (r : Seat) (after : List ℕ) → Listing s cells → s.state ≡ 3 → ItemTurned bs version each room schema base depth first s cells r after → Listing r after
  listing_more s cells r after l e i =
      record {
        is = i.is ∙ (rw (eq-eqb s.state 3 e) at l.is);
        onward = omega (arith, l.onward, i.onward);
        fits = i.fits;
        counts = i.counts;
      }

-- fewer bytes are left, or the list has ended
pub left : ℕ → Seat → ℕ
left len s = cond (eqb s.state 3) (suc (len - s.from)) 0

pub fewer : (len : ℕ) (s r : Seat) → s.state ≡ 3 → (r.state ≡ 3 → s.from < r.from) → r.from ≤ len → left len r < left len s
unfolding left
fewer len s r e later fits =
    rw (eq-eqb s.state 3 e)
    (cases (eqb r.state 3) (λ f. let h = later (eqb-true r.state 3 f) in rw f (omega arith)) (λ f. rw f (omega arith)))

module _ (bs : List ℕ) (version want schema base depth first : ℕ) (seat : Seat) (start : List ℕ) (m : MayEnter bs want base depth seat) (each room : ℕ) (is-each : each ≡ item_at want) (is-room : room ≡ room_at want)
    (p : Seat) (is-placed : p ≡ refused (misplaced_number want each) (stands_at (stands_at_schema want) schema first) seat) (t : Token) (slots : List ℕ) (n : TokenAt bs seat.from t slots)
    (begin : Seat) (is-begun : begin ≡ begun_by 93 t p) where
  same_from : p.from ≡ seat.from
  same_from = ap (λ (x : Seat). x.from) is-placed

  at_placed : TokenAt bs p.from t slots
  at_placed = subst (λ (k : ℕ). TokenAt bs k t slots) (sym same_from) n

  begun_at : (seat.from ≤ begin.from) × ((begin.from ≤ length bs) × (begin.count ≡ 0))
  begun_at =
      let o = begun_onward bs 93 t slots p at_placed (omega (arith, same_from, m.fits)) in
      rw (is-begun, ← same_from) o

  pub list_begins : Listing bs version each room schema base depth first begin start begin start
  list_begins = record { is = refl; onward = omega arith; fits = begun_at.1.0; counts = omega (arith, begun_at.1.1) }

  pub plain_each : stands_at_schema each ≡ false
  plain_each = rw is-each (item_element want).plain

  abbrev inside : Listed
  inside = first_item (length bs) (λ us. items_from (length bs) depth us) (lexemes_at bs seat.from)

  abbrev misplacing : ℕ → Option Defect
  misplacing e = refusal_of (misplaced_number want e) (stands_at (stands_at_schema want) schema first)

  whole : closing version each base (items_told version bs schema each room base first depth begin start) ≡ of_value version schema want base (said_by seat) start (array_at first inside)
  whole =
      ap (closing version each base)
      (ap (λ (y : Seat). items_told version bs schema each room base first depth y start) is-begun
      ∙ begun version schema each room base first depth plain_each bs t slots p start at_placed
      ∙ ap₂ (λ (d : Option Defect) (k : ℕ). of_items version schema each room base first 0 d start (first_item (length bs) (λ us. items_from (length bs) depth us) (lexemes_at bs k)))
      (ap said_by is-placed ∙ said_refused (misplaced_number want each) (stands_at (stands_at_schema want) schema first) seat) same_from)
      ∙ (ap₂ (λ (e k : ℕ). closing version e base (of_items version schema e k base first 0 (sooner (said_by seat) (misplacing e)) start inside)) is-each is-room
      ∙ sym (array version schema want base first (said_by seat) start inside m.meant))

  pub list_ends : (s : Seat) (cells : List ℕ) (r : Seat) (after : List ℕ) → Listing bs version each room schema base depth first begin start s cells → (s.state ≡ 3 → ⊥)
      → r ≡ counting 0 s → after ≡ cond (eqb s.state 0) (put_count each base s.count cells) cells → ListWalked bs version want schema base depth first seat start r after
  list_ends s cells r after l f e a =
      record {
        is =
            rw (e, a)
            (◌∙◌ {b = closing version each base (items_told version bs schema each room base first depth begin start)}
            (ap (closing version each base) (rw (ne_eqb s.state 3 f) at l.is)) whole);
        onward = omega (arith, begun_at.0, l.onward, ap (λ (x : Seat). x.from) e);
        fits = omega (arith, l.fits, ap (λ (x : Seat). x.from) e);
      }

-- ---- the calls

-- what holds of every element holds at the next
pub may_turn : (bs : List ℕ) (version want schema base depth first : ℕ) (seat : Seat) (each room : ℕ) (begin : Seat) (start : List ℕ) (s : Seat) (cells : List ℕ) → MayEnter bs want base depth seat
    → each ≡ item_at want → room ≡ room_at want → Listing bs version each room schema base depth first begin start s cells → MayTurn bs each room base depth s
may_turn bs version want schema base depth first seat each room begin start s cells m e f l =
    record {
      meant = rw e (item_element want).meant;
      plain = rw e (item_element want).plain;
      small = rw e (item_element want).small;
      narrow = rw f (room_small want);
      counts = l.counts;
      shallow = m.shallow;
      low = m.low;
      fits = l.fits;
    }

pub may_item : (bs : List ℕ) (each room base depth : ℕ) (seat : Seat) (place : ℕ) → MayTurn bs each room base depth seat → place ≡ item_cells base each seat.count → MayWalk bs each place depth seat
may_item bs each room base depth seat place m e =
    let p = product_small seat.count (size_at each) (omega (arith, m.counts, m.narrow)) m.small in
    record { meant = m.meant; shallow = m.shallow; low = omega (arith, e, p, m.low); fits = m.fits }

module _ (bs : List ℕ) (version each room schema base depth first : ℕ) (seat : Seat) (cells : List ℕ) (m : MayTurn bs each room base depth seat) (place : ℕ) (p : place ≡ item_cells base each seat.count)
    (v : Seat) (held : List ℕ) (w : Walked bs version each schema place depth seat cells v held) (s : Seat) (e : s ≡ counted each room first seat.count v) where
  at_cells : Walked bs version each schema (item_cells base each seat.count) depth seat cells v held
  at_cells = subst (λ (k : ℕ). Walked bs version each schema k depth seat cells v held) p w

  pub item_ends : (s.state ≡ 0 → ⊥) → ItemTurned bs version each room schema base depth first seat cells s held
  item_ends f =
      subst (λ (y : Seat). ItemTurned bs version each room schema base depth first seat cells y held) (sym e)
      (ends bs version each room schema base depth first seat cells m v held at_cells (λ z. f (ap (λ (y : Seat). y.state) e ∙ z)))

  pub item_goes : s.state ≡ 0 → (t : Token) (slots : List ℕ) → TokenAt bs s.from t slots → (r : Seat) → r ≡ after_one 93 (length bs) t s
      → ItemTurned bs version each room schema base depth first seat cells r held
  item_goes z t slots n r f =
      goes bs version each room schema base depth first seat cells m v held at_cells t slots r (sym (ap (λ (y : Seat). y.state) e) ∙ z)
      (subst (λ (k : Seat). TokenAt bs k.from t slots) e n) (f ∙ ap (after_one 93 (length bs) t) e)
