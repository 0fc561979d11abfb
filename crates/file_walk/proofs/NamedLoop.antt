-- The turns of the reader of an object under names of its own, one after the other.
use Prim.Native.Nat.{ℕ, ◌+◌, ◌≤◌, ◌<◌}
use native.Mathlib.Omega.{arith}
use mathlib.Core.Path.{◌≡◌, refl, sym, ap, subst, ◌∙◌}
use mathlib.Core.Bool.{true, false, cond}
use mathlib.Core.List.{List, []}
use mathlib.Core.Option.{Option}
use lib.Dec.{eqb}
use lib.ListN.{length}
use borrow.Table.Steps.{cases}
use borrow.Author.Tests.{eqb-true, eqb-false, ne_eqb}
use Rattle.rules.proofs.Checks.{and_left}
use Rattle.json_rule.specs.Values.{text_of}
use Rattle.json_rule.specs.Tree.{Defect, Named, object_at_lem, first_member, more_members}
use Rattle.json_rule.specs.Defects.{with_name}
use Rattle.json_tokens.specs.Tokens.{lexemes_at, WholeAt, TokenAt}
use Rattle.json_tokens.specs.declared.token.Token.{Token}
use Rattle.json_descent.specs.Descent.{value_from, members_from}
use Rattle.file_cells.specs.Wants.{stands_at_schema, named_at, room_at}
use Rattle.file_cells.specs.Filled.{put_count, next_count, named_cells}
use Rattle.file_walk.specs.declared.seat.Seat.{Seat}
use Rattle.file_walk.specs.Seats.{said_by, counting, is_mark, begun_by, after_one, counted}
use Rattle.file_walk.specs.Outcomes.{Outcome, told, of_value}
use Rattle.file_walk.specs.Named.{of_named, named_told, is_early, Known, MayName, NameThere, NameRead, name_put, NamedLeft, NamedTurned}
use Rattle.file_walk.proofs.Lists.{closing}
use Rattle.file_walk.proofs.NamedTurns.{next_fits, nothing_over, begun, after, turned}
use Rattle.file_walk.proofs.NamedKnown.{value_grows, value_state, known_next, known_none}
use Rattle.file_walk.proofs.NamedObjects.{object}

-- ---- seats

mark_whole : (bs : List ℕ) (from : ℕ) (t : Token) (slots : List ℕ) (b : ℕ) → TokenAt bs from t slots → is_mark b t ≡ true → WholeAt bs from t slots
mark_whole bs from t slots b n e = n.whole (eqb-true t.state 1 (and_left (eqb t.state 1) (eqb t.head b) e))

module _ (bs : List ℕ) (close : ℕ) (t : Token) (slots : List ℕ) (s : Seat) (n : TokenAt bs s.from t slots) where
  after_onward : s.from ≤ (after_one close (length bs) t s).from
  unfolding after_one
  after_onward =
      cases (is_mark 44 t)
      (λ e. let w = mark_whole bs s.from t slots 44 n e in rw e (omega (arith, w.later, w.beyond)))
      (λ e. cases (is_mark close t)
      (λ f. let w = mark_whole bs s.from t slots close n f in rw (e, f) (omega (arith, w.later, w.beyond)))
      (λ f. rw (e, f) (omega arith)))

  after_fits : s.from ≤ length bs → (after_one close (length bs) t s).from ≤ length bs
  unfolding after_one
  after_fits h =
      cases (is_mark 44 t)
      (λ e. rw e (mark_whole bs s.from t slots 44 n e).fits)
      (λ e. cases (is_mark close t)
      (λ f. rw (e, f) (mark_whole bs s.from t slots close n f).fits)
      (λ f. rw (e, f) h))

  after_count : (after_one close (length bs) t s).count ≡ s.count
  unfolding after_one
  after_count = cases (is_mark 44 t) (λ e. rw e) (λ e. cases (is_mark close t) (λ f. rw (e, f)) (λ f. rw (e, f)))

  -- where one more is to come nothing was refused behind the last
  after_said : (after_one close (length bs) t s).state ≡ 3 → said_by (after_one close (length bs) t s) ≡ said_by s
  unfolding after_one
  after_said =
      cases (is_mark 44 t)
      (λ e. rw e (λ g. refl))
      (λ e. cases (is_mark close t) (λ f. rw (e, f) (λ g. refl)) (λ f. rw (e, f) (λ g. absurd (omega arith))))

module _ (room first count : ℕ) (s : Seat) where
  pub counted_from : (counted 0 room first count s).from ≡ s.from
  unfolding counted
  counted_from = cases (eqb s.state 2) (λ e. rw e) (λ e. rw e)

  counted_fits : count ≤ room → (counted 0 room first count s).count ≤ room
  unfolding counted
  counted_fits h = cases (eqb s.state 2) (λ e. rw e h) (λ e. rw e (next_fits room count h))

  counted_ends : s.state < 3 → eqb (counted 0 room first count s).state 3 ≡ false
  unfolding counted
  counted_ends h = cases (eqb s.state 2) (λ e. rw e) (λ e. rw e (ne_eqb s.state 3 (λ q. omega arith)))

  counted_read : s.state ≡ 0 → (counted 0 room first count s).count ≡ next_count room count
  unfolding counted
  counted_read e = rw (ap (λ (n : ℕ). eqb n 2) e)

  counted_said : s.state ≡ 0 → said_by (counted 0 room first count s) ≡ said_by s
  unfolding counted
  counted_said e = rw (ap (λ (n : ℕ). eqb n 2) e) (nothing_over room count first (counting (next_count room count) s))

-- ---- one turn

ends_not : {P : Type 0} (n : ℕ) → eqb n 3 ≡ false → n ≡ 3 → P
ends_not n e f = absurd (eqb-false n 3 e f)

module _ (bs : List ℕ) (version each room schema base depth first : ℕ) (plain : stands_at_schema each ≡ false) (seat : Seat) (cells places : List ℕ) (may : MayName bs room seat) (before : first < seat.from) (r : Seat) (places' : List ℕ) (read : NameRead bs room first seat places r places') where
  -- no name, or no value behind it
  pub turn_stops : eqb r.state 3 ≡ false → NamedTurned bs version each room schema base depth first seat cells places r cells places'
  turn_stops e =
      record {
        left = λ seen k. record {
          names = [];
          known = λ f. ends_not r.state e f;
          is = rw e (read.stops version schema each base depth cells seen e plain k);
        };
        later = λ f. ends_not r.state e f;
        onward = read.onward;
        fits = read.fits;
        counts = read.counts e;
      }

  module _ (goes : r.state ≡ 3) (s : Seat) (cells' : List ℕ)
      (is : told bs s cells' ≡ of_value version schema each (2 + named_cells base each seat.count) (said_by r) cells (value_from (length bs) depth (lexemes_at bs r.from)))
      (onward : r.from ≤ s.from) (fits : s.from ≤ length bs) where
    abbrev w : NameThere bs room first seat places r places'
    w = read.there goes

    abbrev n : Seat
    n = counted 0 room first seat.count s

    abbrev cells'' : List ℕ
    cells'' = name_put s.state (named_cells base each seat.count) r.count cells'

    abbrev all : List (List ℕ) → Outcome
    all seen = of_named version schema each room base first seat.count seen (said_by seat) cells (members_from (length bs) depth (lexemes_at bs seat.from))

    so_far : (seen : List (List ℕ)) → Known bs seen seat places
        → cond (eqb s.state 0)
        (of_named version schema each room base first n.count (with_name seen (text_of w.lexeme)) (said_by n) cells'' (more_members (length bs) (λ us. members_from (length bs) depth us) (lexemes_at bs s.from)))
        (told bs n cells'')
        ≡ all seen
    so_far seen k =
        ap (λ (place : ℕ). cond (eqb s.state 0)
        (of_named version schema each room base first n.count (with_name seen (text_of w.lexeme)) (said_by n) (name_put s.state (named_cells base each seat.count) place cells') (more_members (length bs) (λ us. members_from (length bs) depth us) (lexemes_at bs s.from)))
        (told bs n (name_put s.state (named_cells base each seat.count) place cells')))
        w.place
        ∙ (turned version schema each room base first depth plain bs seat.count seen (said_by seat) cells cells' w.lexeme s (value_from (length bs) depth (lexemes_at bs r.from)) may.counts
        (is ∙ ap (λ (d : Option Defect). of_value version schema each (2 + named_cells base each seat.count) d cells (value_from (length bs) depth (lexemes_at bs r.from))) (w.said seen k))
        ∙ ap (λ (l : Named). of_named version schema each room base first seat.count seen (said_by seat) cells l) (sym (w.is depth)))

    -- a value that is not whole
    pub turn_ends : eqb s.state 0 ≡ false → NamedTurned bs version each room schema base depth first seat cells places n cells'' places'
    turn_ends e =
        let f : eqb n.state 3 ≡ false = counted_ends room first seat.count s
        (value_state bs version schema each (2 + named_cells base each seat.count) (said_by r) cells cells' s (value_from (length bs) depth (lexemes_at bs r.from)) is) in
        let same = counted_from room first seat.count s in
        record {
          left = λ seen k. record {
            names = [];
            known = λ g. ends_not n.state f g;
            is = rw f (rw e at (so_far seen k));
          };
          later = λ g. ends_not n.state f g;
          onward = omega (arith, read.onward);
          fits = omega arith;
          counts = counted_fits room first seat.count s may.counts;
        }

    module _ (whole : s.state ≡ 0) (t : Token) (slots : List ℕ) (m : TokenAt bs s.from t slots) where
      m' : TokenAt bs n.from t slots
      m' = subst (λ (i : ℕ). TokenAt bs i t slots) (sym (counted_from room first seat.count s)) m

      abbrev q : Seat
      q = after_one 125 (length bs) t n

      whole_so_far : (seen : List (List ℕ)) → Known bs seen seat places
          → named_told version bs schema each room base first depth (with_name seen (text_of w.lexeme)) q cells'' ≡ all seen
      whole_so_far seen k =
          after version schema each room base first depth plain bs t slots (with_name seen (text_of w.lexeme)) n cells'' m' (counted_fits room first seat.count s may.counts)
          ∙ (ap (λ (i : ℕ). of_named version schema each room base first n.count (with_name seen (text_of w.lexeme)) (said_by n) cells'' (more_members (length bs) (λ us. members_from (length bs) depth us) (lexemes_at bs i)))
          (counted_from room first seat.count s)
          ∙ rw (ap (λ (i : ℕ). eqb i 0) whole) at (so_far seen k))

      -- and the next name
      pub turn_goes : NamedTurned bs version each room schema base depth first seat cells places q cells'' places'
      turn_goes =
          let same = counted_from room first seat.count s in
          let on : n.from ≤ q.from = after_onward bs 125 t slots n m' in
          let late : seat.from < q.from = omega (arith, w.later, w.beyond) in
          record {
            left = λ seen k. record {
              names = with_name seen (text_of w.lexeme);
              known = λ g. known_next bs room first seat places r places' w may.small before seen k q
                  (λ p h. subst (λ (d : Option Defect). is_early d p ≡ true) (sym (after_said bs 125 t slots n m' g ∙ counted_said room first seat.count s whole))
                  (value_grows bs version schema each (2 + named_cells base each seat.count) (said_by r) cells cells' s (value_from (length bs) depth (lexemes_at bs r.from)) is p h))
                  (after_count bs 125 t slots n m' ∙ counted_read room first seat.count s whole)
                  (omega arith);
              is = whole_so_far seen k;
            };
            later = λ g. late;
            onward = omega arith;
            fits = after_fits bs 125 t slots n m' (omega arith);
            counts = rw (after_count bs 125 t slots n m') (counted_fits room first seat.count s may.counts);
          }

-- ---- turn by turn

module _ (bs : List ℕ) (version each room schema base depth first : ℕ) (plain : stands_at_schema each ≡ false) where
  begun_count : (t : Token) (s : Seat) → (begun_by 125 t s).count ≡ 0
  unfolding begun_by
  begun_count t s = cases (is_mark 125 t) (λ e. rw e) (λ e. rw e)

  pub left_begun : (t : Token) (slots : List ℕ) (s : Seat) (cells places : List ℕ) → TokenAt bs s.from t slots
      → NamedLeft bs version each room schema base depth first (begun_by 125 t s) cells places
      (of_named version schema each room base first 0 [] (said_by s) cells (first_member (length bs) (λ us. members_from (length bs) depth us) (lexemes_at bs s.from)))
  left_begun t slots s cells places n =
      record {
        names = [];
        known = λ e. known_none bs (begun_by 125 t s) places (begun_count t s);
        is = begun version schema each room base first depth plain bs t slots s cells n;
      }

  pub left_again : (s : Seat) (cells places : List ℕ) (o : Outcome) (r : Seat) (cells' places' : List ℕ) → NamedLeft bs version each room schema base depth first s cells places o → s.state ≡ 3
      → NamedTurned bs version each room schema base depth first s cells places r cells' places' → NamedLeft bs version each room schema base depth first r cells' places' o
  left_again s cells places o r cells' places' l e t =
      let is : of_named version schema each room base first s.count l.names (said_by s) cells (members_from (length bs) depth (lexemes_at bs s.from)) ≡ o = rw (ap (λ (n : ℕ). eqb n 3) e) at l.is in
      subst (λ (x : Outcome). NamedLeft bs version each room schema base depth first r cells' places' x) is (t.left l.names (l.known e))

  pub left_done : (s : Seat) (cells places : List ℕ) (o : Outcome) → NamedLeft bs version each room schema base depth first s cells places o → eqb s.state 3 ≡ false → told bs s cells ≡ o
  left_done s cells places o l e = rw e at l.is

-- the whole object
pub object_done : (bs : List ℕ) (version want schema base depth first : ℕ) (s : Seat) (cells places : List ℕ) (said : Option Defect) (cells₀ : List ℕ) (l : Named) → stands_at_schema (named_at want) ≡ false → eqb (named_at want) 0 ≡ false
    → NamedLeft bs version (named_at want) (room_at want) schema base depth first s cells places (of_named version schema (named_at want) (room_at want) base first 0 [] said cells₀ l)
    → eqb s.state 3 ≡ false
    → told bs (counting 0 s) (cond (eqb s.state 0) (put_count (named_at want) base s.count cells) cells) ≡ of_value version schema want base said cells₀ (object_at_lem first l)
object_done bs version want schema base depth first s cells places said cells₀ l plain named left e =
    ap (closing version (named_at want) base) (left_done bs version (named_at want) (room_at want) schema base depth first plain s cells places _ left e)
    ∙ sym (object version schema want base first said cells₀ l named)
