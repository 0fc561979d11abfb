-- The frames of a judge nest, and the bits say how.
use Prim.Native.Nat.{ℕ, suc, ◌≤◌}
use mathlib.Core.Path.{◌≡◌, refl, sym, ap, ◌∙◌}
use mathlib.Core.Bool.{Bool, true, false, cond, not, true≢false}
use mathlib.Core.List.{List, [], ◌∷◌}
use native.Mathlib.Omega.{arith}
use borrow.Author.Tests.{eqb-true}
use lib.Dec.{eqb}
use lib.ListN.{length}
use Rattle.json_rule.specs.Lexemes.{Lexeme}
use Rattle.json_judge.specs.Frames.{Frame, Outside, Bracket, NoBracket, ListBracket, ObjectBracket, bracket_of}
use Rattle.json_judge.specs.Course.{Next, is_end_of, closes, is_outside as isNothing}
use Rattle.json_members.specs.Nesting.{is_outside, is_in_object, closes_list, closes_object, closes_at}
use Rattle.json_stands.proofs.Laid.{Held}
use Rattle.json_stands.proofs.Bits.{bits, Nested, outermost, in_list, in_object, is_object_bracket, bits_outside, bits_in_object}
use Rattle.json_stands.proofs.Open.{Open, nothing, updates, update, ids, part, fields, field, Passed, here, list, object}
use Rattle.json_stands.proofs.Stands.{NextIs, a_value, first_item, a_name, first_name, a_colon, after_value, stopped}

pub open_nested : {h : Held} {w : ℕ} {fs : List Frame} → Open h w fs → Nested fs
open_nested nothing = outermost
open_nested updates = in_list refl outermost
open_nested (update u) = in_object refl (in_list refl outermost)
open_nested (ids i u) = in_list refl (in_object refl (in_list refl outermost))
open_nested (part p m u) = in_object refl (in_object refl (in_list refl outermost))
open_nested (fields f m u) = in_list refl (in_object refl (in_object refl (in_list refl outermost)))
open_nested (field f n m u) = in_object refl (in_list refl (in_object refl (in_object refl (in_list refl outermost))))

pub nested : {h : Held} {w q : ℕ} {fs js : List Frame} → Passed q fs js → Open h w js → Nested fs
nested here o = open_nested o
nested (list p) o = in_list refl (nested p o)
nested (object p) o = in_object refl (nested p o)

nested_some : {fs : List Frame} → Nested fs → 1 ≤ length fs
nested_some outermost = omega arith
nested_some (in_list e n) = omega (arith, nested_some n)
nested_some (in_object e n) = omega (arith, nested_some n)

-- less are passed over than there are frames
pub passed_few : {h : Held} {w q : ℕ} {fs js : List Frame} → Passed q fs js → Open h w js → suc q ≤ length fs
passed_few here o = nested_some (open_nested o)
passed_few (list p) o = omega (arith, passed_few p o)
passed_few (object p) o = omega (arith, passed_few p o)

-- ---- which bracket ends the innermost

neither : (a b : Bool) → cond a false (cond b false false) ≡ false
neither true b = refl
neither false true = refl
neither false false = refl

only_first : (a b : Bool) → cond a true (cond b false false) ≡ a
only_first true b = refl
only_first false true = refl
only_first false false = refl

only_second : (a b : Bool) → (a ≡ true → b ≡ true → ⊥) → cond a false (cond b true false) ≡ b
only_second true true n = absurd (n refl refl)
only_second true false n = refl
only_second false true n = refl
only_second false false n = refl

-- no byte is both ends
not_both : (head : ℕ) → eqb head 93 ≡ true → eqb head 125 ≡ true → ⊥
not_both head a b = omega (arith, eqb-true head 93 a, eqb-true head 125 b)

by_bracket : (t : Lexeme) (b : Bracket) → cond (eqb t.head 93) (cond (isNothing b) false (not (is_object_bracket b))) (cond (eqb t.head 125) (cond (isNothing b) false (is_object_bracket b)) false) ≡ is_end_of b t
by_bracket t NoBracket = neither (eqb t.head 93) (eqb t.head 125)
by_bracket t ListBracket = only_first (eqb t.head 93) (eqb t.head 125)
by_bracket t ObjectBracket = only_second (eqb t.head 93) (eqb t.head 125) (not_both t.head)

pub closes_same : {e v w : ℕ} {f : Frame} {around : List Frame} {next : Next} (kinds : ℕ) (t : Lexeme) → NextIs e v w f next → Nested (f ∷ around) → kinds ≡ bits (f ∷ around)
    → closes_at e kinds t.head ≡ closes next f t
unfolding closes_at closes_list closes_object
closes_same kinds t (a_value x) n k = neither (eqb t.head 93) (eqb t.head 125)
closes_same kinds t (first_item b x) n k = only_first (eqb t.head 93) (eqb t.head 125)
closes_same kinds t (a_name b) n k = neither (eqb t.head 93) (eqb t.head 125)
closes_same kinds t (first_name b) n k = only_second (eqb t.head 93) (eqb t.head 125) (not_both t.head)
closes_same kinds t (a_colon x) n k = neither (eqb t.head 93) (eqb t.head 125)
closes_same kinds t (after_value {f = f}) n k = rw (k, bits_outside n, bits_in_object n) (by_bracket t (bracket_of f))
closes_same kinds t stopped n k = neither (eqb t.head 93) (eqb t.head 125)

-- what is closed is a list or an object
pub closes_some : {e v w : ℕ} {f : Frame} {next : Next} (t : Lexeme) → NextIs e v w f next → closes next f t ≡ true → isNothing (bracket_of f) ≡ false
closes_some t (a_value x) c = absurd (true≢false (sym c))
closes_some t (first_item b x) c = rw b
closes_some t (a_name b) c = rw b
closes_some t (first_name b) c = rw b
closes_some t (a_colon x) c = absurd (true≢false (sym c))
closes_some t (after_value {f = f}) c = some (bracket_of f) c
  where
    some : (b : Bracket) → is_end_of b t ≡ true → isNothing b ≡ false
    some NoBracket e = absurd (true≢false (sym e))
    some ListBracket e = refl
    some ObjectBracket e = refl
closes_some t stopped c = absurd (true≢false (sym c))
