-- The reader of an object under names of its own keeps its promise: at a name, and from the first bracket to the last.
use Prim.Native.Nat.{ℕ, ◌+◌, ◌*◌, ◌≤◌, ◌<◌}
use native.Mathlib.Omega.{arith}
use native.Mathlib.Nat.{mul-le-mul}
use mathlib.Core.Path.{◌≡◌, refl, sym, ap, subst, ◌∙◌}
use mathlib.Core.Bool.{Bool, true, false, cond}
use mathlib.Core.List.{List, []}
use lib.Dec.{eqb}
use lib.ListN.{length}
use borrow.Table.Steps.{cases}
use borrow.Author.Tests.{ne_eqb}
use Rattle.json_rule.specs.Tree.{Named, object_at_lem, first_member}
use Rattle.json_tokens.specs.Tokens.{lexemes_at, TokenAt}
use Rattle.json_tokens.specs.declared.token.Token.{Token}
use Rattle.json_descent.specs.Descent.{value_from, members_from}
use Rattle.file_cells.specs.Wants.{stands_at_schema, named_at, room_at}
use Rattle.file_cells.specs.Cells.{size_at}
use Rattle.file_cells.specs.Filled.{put_count, named_cells}
use Rattle.file_walk.specs.declared.seat.Seat.{Seat}
use Rattle.file_walk.specs.Seats.{said_by, counting, begun_by, after_one, counted}
use Rattle.file_walk.specs.Outcomes.{Outcome, told, of_value}
use Rattle.file_walk.specs.Walked.{MayWalk, Walked, ObjectWalked}
use Rattle.file_walk.specs.Named.{of_named, named_told, MayName, NameRead, name_put, NamedLeft, NamedTurned, MayNamed, MayEnterNamed}
use Rattle.file_walk.proofs.Wanted.{named_element, room_small}
use Rattle.file_walk.proofs.ListWalks.{begun_onward}
use Rattle.file_walk.proofs.NamedTurns.{begun}
use Rattle.file_walk.proofs.NamedKnown.{known_none}
use Rattle.file_walk.proofs.NamedLoop.{counted_from, turn_stops, turn_ends, turn_goes, left_again, object_done}

-- ---- one name

counted_state : (room first count : ℕ) (v : Seat) → (counted 0 room first count v).state ≡ cond (eqb v.state 2) 1 v.state
unfolding counted
counted_state room first count v = cases (eqb v.state 2) (λ e. rw e) (λ e. rw e)

whole_then : (room first count : ℕ) (v : Seat) → v.state ≡ 0 → (counted 0 room first count v).state ≡ 0
whole_then room first count v e = counted_state room first count v ∙ rw e

whole_only : (room first count : ℕ) (v : Seat) → (counted 0 room first count v).state ≡ 0 → v.state ≡ 0
whole_only room first count v e = go (eqb v.state 2) (sym (counted_state room first count v) ∙ e)
  where
    go : (b : Bool) → cond b 1 v.state ≡ 0 → v.state ≡ 0
    go true f = absurd (omega arith)
    go false f = f

product_small : (count size : ℕ) → count ≤ 128 → size ≤ 9047 → count * (2 + size) ≤ 1158272
product_small count size h k = let l : 2 + size ≤ 9049 = omega arith in mul-le-mul h l

module _ (bs : List ℕ) (each room base depth first : ℕ) (seat : Seat) (m : MayNamed bs each room base depth first seat) where
  pub may_read : MayName bs room seat
  may_read = record { small = m.turn.narrow; counts = m.turn.counts; fits = m.turn.fits }

  -- the cells of a name
  pub may_cells : (base ≤ 33554432) × ((seat.count ≤ 128) × (size_at each ≤ 9047))
  may_cells = (omega (arith, m.turn.low, m.turn.shallow), (omega (arith, m.turn.counts, m.turn.narrow), m.turn.small))

  spot_low : (spot : ℕ) → spot ≡ named_cells base each seat.count → spot + 2 ≤ 2097152 * depth
  spot_low spot e = omega (arith, e, product_small seat.count (size_at each) (omega (arith, m.turn.counts, m.turn.narrow)) m.turn.small, m.turn.low)

  pub may_next : (spot : ℕ) → spot ≡ named_cells base each seat.count → spot + 2 ≤ 33554432
  may_next spot e = omega (arith, spot_low spot e, m.turn.shallow)

  module _ (places : List ℕ) (r : Seat) (places' : List ℕ) (read : NameRead bs room first seat places r places') (goes : r.state ≡ 3) (spot : ℕ) (is-spot : spot ≡ named_cells base each seat.count) where
    pub may_value : MayWalk bs each (spot + 2) depth r
    may_value = record { meant = m.turn.meant; shallow = m.turn.shallow; low = spot_low spot is-spot; fits = read.fits }

    pub may_put : (v : Seat) → r.from ≤ v.from → (spot ≤ 33554432) × (r.count < v.from)
    may_put v onward = (omega (arith, may_next spot is-spot), omega (arith, (read.there goes).place, (read.there goes).beyond))

module _ (bs : List ℕ) (version each room schema base depth first : ℕ) (seat : Seat) (cells places : List ℕ) (m : MayNamed bs each room base depth first seat) (r : Seat) (places' : List ℕ) (read : NameRead bs room first seat places r places') where
  pub named_stops : (r.state ≡ 3 → ⊥) → NamedTurned bs version each room schema base depth first seat cells places r cells places'
  named_stops f =
      turn_stops bs version each room schema base depth first m.turn.plain seat cells places (may_read bs each room base depth first seat m) m.before r places' read (ne_eqb r.state 3 f)

  module _ (goes : r.state ≡ 3) (spot : ℕ) (is-spot : spot ≡ named_cells base each seat.count) (v : Seat) (held : List ℕ) (w : Walked bs version each schema (spot + 2) depth r cells v held)
      (cells' : List ℕ) (puts : cells' ≡ name_put v.state spot r.count held) (s : Seat) (is-counted : s ≡ counted 0 room first seat.count v) where
    there : told bs v held ≡ of_value version schema each (2 + named_cells base each seat.count) (said_by r) cells (value_from (length bs) depth (lexemes_at bs r.from))
    there =
        let k : spot + 2 ≡ 2 + named_cells base each seat.count = omega (arith, is-spot) in
        w.is ∙ ap (λ (p : ℕ). of_value version schema each p (said_by r) cells (value_from (length bs) depth (lexemes_at bs r.from))) k

    is_cells : cells' ≡ name_put v.state (named_cells base each seat.count) r.count held
    is_cells = puts ∙ ap (λ (p : ℕ). name_put v.state p r.count held) is-spot

    so : (q x : Seat) → q ≡ x → NamedTurned bs version each room schema base depth first seat cells places x (name_put v.state (named_cells base each seat.count) r.count held) places'
        → NamedTurned bs version each room schema base depth first seat cells places q cells' places'
    so q x e t =
        subst (λ (l : List ℕ). NamedTurned bs version each room schema base depth first seat cells places q l places') (sym is_cells)
        (subst (λ (y : Seat). NamedTurned bs version each room schema base depth first seat cells places y (name_put v.state (named_cells base each seat.count) r.count held) places') (sym e) t)

    pub named_ends : (s.state ≡ 0 → ⊥) → NamedTurned bs version each room schema base depth first seat cells places s cells' places'
    named_ends f =
        so s (counted 0 room first seat.count v) is-counted
        (turn_ends bs version each room schema base depth first m.turn.plain seat cells places (may_read bs each room base depth first seat m) m.before r places' read goes v held there w.onward w.fits
        (ne_eqb v.state 0 (λ e. f (ap (λ (y : Seat). y.state) is-counted ∙ whole_then room first seat.count v e))))

    pub named_goes : s.state ≡ 0 → (t : Token) (slots : List ℕ) → TokenAt bs s.from t slots → (q : Seat) → q ≡ after_one 125 (length bs) t s
        → NamedTurned bs version each room schema base depth first seat cells places q cells' places'
    named_goes e t slots n q f =
        so q (after_one 125 (length bs) t (counted 0 room first seat.count v)) (f ∙ ap (after_one 125 (length bs) t) is-counted)
        (turn_goes bs version each room schema base depth first m.turn.plain seat cells places (may_read bs each room base depth first seat m) m.before r places' read goes v held there w.onward w.fits
        (whole_only room first seat.count v (sym (ap (λ (y : Seat). y.state) is-counted) ∙ e)) t slots
        (subst (λ (k : ℕ). TokenAt bs k t slots) (ap (λ (y : Seat). y.from) is-counted ∙ counted_from room first seat.count v) n))

-- ---- the loop

module _ (bs : List ℕ) (version each room schema base depth first : ℕ) (begin : Seat) (start : List ℕ) where
  -- what is said of the object from its first name on is what is said of it from here on
  pub record Naming (s : Seat) (cells places : List ℕ) : Type 0 where
    pub rest : NamedLeft bs version each room schema base depth first s cells places (named_told version bs schema each room base first depth [] begin start)
    pub onward : begin.from ≤ s.from
    pub fits : s.from ≤ length bs
    pub counts : s.count ≤ room

  pub naming_more : (s : Seat) (cells places : List ℕ) (r : Seat) (after places' : List ℕ) → stands_at_schema each ≡ false → Naming s cells places → s.state ≡ 3
      → NamedTurned bs version each room schema base depth first s cells places r after places' → Naming r after places'
  naming_more s cells places r after places' plain l e i =
      record {
        rest = left_again bs version each room schema base depth first plain s cells places (named_told version bs schema each room base first depth [] begin start) r after places' l.rest e i;
        onward = omega (arith, l.onward, i.onward);
        fits = i.fits;
        counts = i.counts;
      }

module _ (bs : List ℕ) (version want schema base depth first : ℕ) (seat : Seat) (start : List ℕ) (m : MayEnterNamed bs want base depth first seat) (each room : ℕ) (is-each : each ≡ named_at want) (is-room : room ≡ room_at want)
    (t : Token) (slots : List ℕ) (n : TokenAt bs seat.from t slots) (begin : Seat) (is-begun : begin ≡ begun_by 125 t seat) where
  begun_at : (seat.from ≤ begin.from) × ((begin.from ≤ length bs) × (begin.count ≡ 0))
  begun_at = rw is-begun (begun_onward bs 125 t slots seat n m.enter.fits)

  pub naming_begins : (places : List ℕ) → Naming bs version each room schema base depth first begin start begin start places
  naming_begins places =
      record {
        rest = record { names = []; known = λ e. known_none bs begin places begun_at.1.1; is = refl };
        onward = omega arith;
        fits = begun_at.1.0;
        counts = omega (arith, begun_at.1.1);
      }

  pub may_name : (s : Seat) (cells places : List ℕ) → Naming bs version each room schema base depth first begin start s cells places → MayNamed bs each room base depth first s
  may_name s cells places l =
      record {
        turn = record {
          meant = rw is-each (named_element want).meant;
          plain = rw is-each (named_element want).plain;
          small = rw is-each (named_element want).small;
          narrow = rw is-room (room_small want);
          counts = l.counts;
          shallow = m.enter.shallow;
          low = m.enter.low;
          fits = l.fits;
        };
        before = omega (arith, m.before, begun_at.0, l.onward);
      }

  pub plain_named : stands_at_schema each ≡ false
  plain_named = rw is-each (named_element want).plain

  abbrev inside : Named
  inside = first_member (length bs) (λ us. members_from (length bs) depth us) (lexemes_at bs seat.from)

  whole : named_told version bs schema each room base first depth [] begin start ≡ of_named version schema each room base first 0 [] (said_by seat) start inside
  whole =
      ap (λ (y : Seat). named_told version bs schema each room base first depth [] y start) is-begun
      ∙ begun version schema each room base first depth plain_named bs t slots seat start n

  done : (each' room' : ℕ) → each' ≡ named_at want → room' ≡ room_at want → stands_at_schema each' ≡ false → (s : Seat) (cells places : List ℕ)
      → NamedLeft bs version each' room' schema base depth first s cells places (of_named version schema each' room' base first 0 [] (said_by seat) start inside) → eqb s.state 3 ≡ false
      → told bs (counting 0 s) (cond (eqb s.state 0) (put_count each' base s.count cells) cells) ≡ of_value version schema want base (said_by seat) start (object_at_lem first inside)
  done each' room' e f plain s cells places =
      subst (λ (k : ℕ). NamedLeft bs version k room' schema base depth first s cells places (of_named version schema k room' base first 0 [] (said_by seat) start inside) → eqb s.state 3 ≡ false
      → told bs (counting 0 s) (cond (eqb s.state 0) (put_count k base s.count cells) cells) ≡ of_value version schema want base (said_by seat) start (object_at_lem first inside)) (sym e)
      (subst (λ (k : ℕ). NamedLeft bs version (named_at want) k schema base depth first s cells places (of_named version schema (named_at want) k base first 0 [] (said_by seat) start inside) → eqb s.state 3 ≡ false
      → told bs (counting 0 s) (cond (eqb s.state 0) (put_count (named_at want) base s.count cells) cells) ≡ of_value version schema want base (said_by seat) start (object_at_lem first inside)) (sym f)
      (λ l g. object_done bs version want schema base depth first s cells places (said_by seat) start inside (named_element want).plain m.named l g))

  pub naming_ends : (s : Seat) (cells places : List ℕ) (r : Seat) (after : List ℕ) → Naming bs version each room schema base depth first begin start s cells places → (s.state ≡ 3 → ⊥)
      → r ≡ counting 0 s → after ≡ cond (eqb s.state 0) (put_count each base s.count cells) cells → ObjectWalked bs version want schema base depth first seat start r after
  naming_ends s cells places r after l f e a =
      record {
        is =
            rw (e, a)
            (done each room is-each is-room plain_named s cells places
            (subst (λ (o : Outcome). NamedLeft bs version each room schema base depth first s cells places o) whole l.rest) (ne_eqb s.state 3 f));
        onward = omega (arith, begun_at.0, l.onward, ap (λ (x : Seat). x.from) e);
        fits = omega (arith, l.fits, ap (λ (x : Seat). x.from) e);
      }
