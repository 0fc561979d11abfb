-- A value begins: a list or an object, within the depth that is allowed, or a text, a number or a word; and what is none of these.
use Prim.Native.Nat.{ℕ}
use mathlib.Core.Path.{◌≡◌, refl, sym, ap, ◌∙◌}
use mathlib.Core.Bool.{Bool, true, false, cond, ◌||◌, true≢false}
use mathlib.Core.List.{List}
use mathlib.Core.Option.{Option}
use native.Mathlib.Omega.{arith}
use borrow.Author.Tests.{ne_eqb, leb-false}
use borrow.Table.Steps.{cases}
use lib.Dec.{eqb, leb}
use lib.ListN.{length}
use Rattle.json_rule.specs.Lexemes.{Lexeme, quote, minus, is_digit}
use Rattle.json_rule.specs.Tree.{Defect, not_json, over_capacity, is_scalar}
use Rattle.json_judge.specs.Frames.{Frame}
use Rattle.json_judge.specs.Course.{Next, on_value, unless_full, on_list, on_object, on_whole, stop}
use Rattle.json_members.specs.Kept.{LexemeKept}
use Rattle.json_members.specs.Nesting.{is_full}
use Rattle.json_members.specs.Model.{told, is_scalar as scalarHead, on_bracket, on_bare, on_value as valueIn}
use Rattle.json_stands.proofs.Laid.{State, laid}
use Rattle.json_stands.proofs.Bits.{bits_full}
use Rattle.json_stands.proofs.Stands.{wanted_at, Waits, Stands}
use Rattle.json_stands.proofs.Nested.{nested}
use Rattle.json_stands.proofs.StandsBrackets.{list_reaches, object_reaches}
use Rattle.json_stands.proofs.StandsScalars.{scalar_reaches}
use Rattle.json_stands.proofs.Reach.{Reaches, by_flag, stops}

-- ---- the first byte

-- the same tests in another order
pub scalar_head : (t : Lexeme) → scalarHead t.head ≡ is_scalar t
unfolding scalarHead is_scalar
scalar_head t = turned (eqb t.head quote) (eqb t.head minus) (is_digit t.head) (eqb t.head 116) (eqb t.head 102) (eqb t.head 110)
  where
    turned : (a b d x y z : Bool) → cond a true (cond b true (cond x true (cond y true (cond z true d)))) ≡ (a || b || d || x || y || z)
    turned true b d x y z = refl
    turned false true d x y z = refl
    turned false false true true y z = refl
    turned false false true false true z = refl
    turned false false true false false true = refl
    turned false false true false false false = refl
    turned false false false true y z = refl
    turned false false false false true z = refl
    turned false false false false false true = refl
    turned false false false false false false = refl

-- a bracket begins none of them
pub no_scalar : (t : Lexeme) (b : ℕ) → scalarHead b ≡ false → is_scalar t ≡ true → eqb t.head b ≡ false
no_scalar t b n i = ne_eqb t.head b (λ e. true≢false (sym (scalar_head t ∙ i) ∙ (ap scalarHead e ∙ n)))

-- a test that holds
pub when : {A : Type 0} (b : Bool) (x y : A) → b ≡ true → cond b x y ≡ x
when true x y e = refl
when false x y e = absurd (true≢false (sym e))

not_zero : not_json ≡ 0 → ⊥
not_zero e = omega arith

full_not_zero : over_capacity ≡ 0 → ⊥
full_not_zero e = omega arith

module _ (s : State) (t : Lexeme) {next : Next} {f : Frame} {around : List Frame} {r : Option Defect} (st : Stands next f around r s) (x : Waits s.wanted s.within) where
  -- sixteen are open
  pub full_is : is_full s.kinds ≡ leb 16 (length around)
  full_is = ap is_full st.frames.bit ∙ bits_full (nested st.frames.passing st.frames.opened)

  begins_list : eqb t.head 91 ≡ true → Reaches r (unless_full f around t.first (on_list (wanted_at s.wanted) f around t.first)) (on_bracket t.head t.first (laid s))
  unfolding on_bracket
  begins_list e =
      rw (e, full_is)
      (by_flag (leb 16 (length around))
      (λ _. stops s st over_capacity t.first full_not_zero)
      (λ n. list_reaches s t.first st.frames st.refusal x (leb-false 16 (length around) n)))

  begins_object : eqb t.head 91 ≡ false → Reaches r (unless_full f around t.first (on_object (wanted_at s.wanted) f around t.first)) (on_bracket t.head t.first (laid s))
  unfolding on_bracket
  begins_object e =
      rw (e, full_is)
      (by_flag (leb 16 (length around))
      (λ _. stops s st over_capacity t.first full_not_zero)
      (λ n. object_reaches s t.first st.frames st.refusal x (leb-false 16 (length around) n)))

  module _ (w : t.whole ≡ true) {kept : List ℕ} {len : ℕ} {integer : Bool} {magnitude : ℕ} (k : LexemeKept kept len integer magnitude t) where
    pub value_reaches : Reaches r (on_value (wanted_at s.wanted) f around t) (valueIn (told kept t.head t.first len integer magnitude) (laid s)).slots
    unfolding on_value valueIn on_bare scalarHead is_digit
    value_reaches =
        cases (is_scalar t)
        (λ i. rw (scalar_head t ∙ i, no_scalar t 91 refl i, no_scalar t 123 refl i, i, when t.whole (on_whole (wanted_at s.wanted) f around t) (stop f around t.stop not_json) w) (scalar_reaches s t st.frames st.refusal x k))
        (λ i. rw (scalar_head t ∙ i)
        (cases (eqb t.head 91)
        (λ a. rw a (begins_list a))
        (λ a. cases (eqb t.head 123)
        (λ b. rw (a, b) (begins_object a))
        (λ b. rw (a, b, i) (stops s st not_json t.first not_zero)))))
