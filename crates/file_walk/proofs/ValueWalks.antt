-- The reader of a value keeps its promise, by the first token.
use Prim.Native.Nat.{ℕ, suc, ◌+◌, ◌≤◌, ◌<◌}
use native.Mathlib.Omega.{arith}
use native.Mathlib.Numerals.{add-one}
use mathlib.Core.Path.{◌≡◌, sym, ap, ◌∙◌}
use mathlib.Core.Bool.{true, false}
use mathlib.Core.List.{List}
use lib.ListN.{length}
use borrow.Author.Tests.{le-leb, lt-leb}
use Rattle.json_rule.specs.Tree.{Value, Missing, array_at, object_at_lem, first_item, first_member}
use Rattle.json_descent.specs.Descent.{value_from, items_from, members_from}
use Rattle.json_tokens.specs.Tokens.{lexemes_at, TokenAt}
use Rattle.json_tokens.specs.declared.token.Token.{Token}
use Rattle.file_walk.specs.declared.seat.Seat.{Seat}
use Rattle.file_walk.specs.Seats.{said_by, moved_to, counting, stopped, is_mark}
use Rattle.file_walk.specs.Outcomes.{of_value}
use Rattle.file_walk.specs.Walked.{ScalarRead, MayWalk, Walked, MayEnter, ListWalked, ObjectWalked}
use Rattle.file_walk.proofs.Said.{said_refused}
use Rattle.file_walk.proofs.ValueSteps.{mark_bounds, at_list, at_object, at_scalar}

module _ (bs : List ℕ) (version want schema base depth : ℕ) (seat : Seat) (cells : List ℕ) (m : MayWalk bs want base depth seat) (t : Token) (slots : List ℕ) (n : TokenAt bs seat.from t slots) where
  abbrev x : Value
  x = value_from (length bs) depth (lexemes_at bs seat.from)

  -- the bracket that is one too many
  stops : (r : Seat) → x ≡ Missing (record { place = t.first; number = 29 }) → r ≡ counting 0 (stopped 29 t.first 2 seat) → Walked bs version want schema base depth seat cells r cells
  stops r f e =
      record {
        is = rw (e, f, said_refused 29 t.first seat);
        later = λ s. absurd (omega (arith, ap (λ (y : Seat). y.state) e));
        onward = omega (arith, ap (λ (y : Seat). y.from) e);
        fits = omega (arith, m.fits, ap (λ (y : Seat). y.from) e);
      }

  pub deep_list : (r : Seat) → is_mark 91 t ≡ true → 16 ≤ depth → r ≡ counting 0 (stopped 29 t.first 2 seat) → Walked bs version want schema base depth seat cells r cells
  deep_list r k d e = stops r (at_list bs depth seat.from t slots n k ∙ rw (le-leb 16 depth d)) e

  pub deep_object : (r : Seat) → is_mark 91 t ≡ false → is_mark 123 t ≡ true → 16 ≤ depth → r ≡ counting 0 (stopped 29 t.first 2 seat) → Walked bs version want schema base depth seat cells r cells
  deep_object r j k d e = stops r (at_object bs depth seat.from t slots n j k ∙ rw (le-leb 16 depth d)) e

  -- behind a bracket
  pub may_enter : (b : ℕ) (i : Seat) → is_mark b t ≡ true → depth < 16 → i ≡ moved_to t.after seat.state seat → MayEnter bs want base (depth + 1) i
  may_enter b i k d e =
      record { meant = m.meant; shallow = omega arith; low = omega (arith, m.low); fits = omega (arith, (mark_bounds bs depth seat.from t slots n b k).1, ap (λ (y : Seat). y.from) e) }

  shallow_list : is_mark 91 t ≡ true → depth < 16 → x ≡ array_at t.first (first_item (length bs) (λ us. items_from (length bs) (suc depth) us) (lexemes_at bs t.after))
  shallow_list k d = at_list bs depth seat.from t slots n k ∙ rw (lt-leb 16 depth d)

  shallow_object : is_mark 91 t ≡ false → is_mark 123 t ≡ true → depth < 16 → x ≡ object_at_lem t.first (first_member (length bs) (λ us. members_from (length bs) (suc depth) us) (lexemes_at bs t.after))
  shallow_object j k d = at_object bs depth seat.from t slots n j k ∙ rw (lt-leb 16 depth d)

  pub by_list : (i r : Seat) (after : List ℕ) → is_mark 91 t ≡ true → depth < 16 → i ≡ moved_to t.after seat.state seat → ListWalked bs version want schema base (depth + 1) t.first i cells r after
      → Walked bs version want schema base depth seat cells r after
  by_list i r after k d e w =
      let b = mark_bounds bs depth seat.from t slots n 91 k in
      let f : i.from ≡ t.after = ap (λ (y : Seat). y.from) e in
      record {
        is = w.is ∙ rw (e, add-one depth, shallow_list k d);
        later = λ s. omega (arith, b.0, f, w.onward);
        onward = omega (arith, b.0, f, w.onward);
        fits = w.fits;
      }

  pub by_object : (i r : Seat) (after : List ℕ) → is_mark 91 t ≡ false → is_mark 123 t ≡ true → depth < 16 → i ≡ moved_to t.after seat.state seat → ObjectWalked bs version want schema base (depth + 1) t.first i cells r after
      → Walked bs version want schema base depth seat cells r after
  by_object i r after j k d e w =
      let b = mark_bounds bs depth seat.from t slots n 123 k in
      let f : i.from ≡ t.after = ap (λ (y : Seat). y.from) e in
      record {
        is = w.is ∙ rw (e, add-one depth, shallow_object j k d);
        later = λ s. omega (arith, b.0, f, w.onward);
        onward = omega (arith, b.0, f, w.onward);
        fits = w.fits;
      }

  pub by_scalar : (r : Seat) (after : List ℕ) → is_mark 91 t ≡ false → is_mark 123 t ≡ false → ScalarRead bs want schema base seat cells r after → Walked bs version want schema base depth seat cells r after
  by_scalar r after j k w =
      record {
        is = w.is version ∙ ap (of_value version schema want base (said_by seat) cells) (sym (at_scalar bs depth seat.from t slots n j k));
        later = w.later;
        onward = w.onward;
        fits = w.fits;
      }
