-- The rule's tree without a count of steps: one law a production, the text, and that what is left is shorter.
use Prim.Native.Nat.{ℕ, suc, ◌+◌, ◌*◌, ◌<◌}
use native.Mathlib.Omega.{arith}
use mathlib.Core.Path.{◌≡◌, refl, ap, subst, ◌∙◌}
use mathlib.Core.Bool.{cond}
use mathlib.Core.List.{List, [], ◌∷◌}
use lib.ListN.{length}
use Rattle.json_rule.specs.Lexemes.{Lexeme, lexemes}
use Rattle.json_rule.specs.Tree.{is_byte, Json, Items, Members, Value, Whole, Missing, Listed, Closed, Named, ClosedBy, array_at, object_at_lem, stop_at, scalar, bracketed, first_item, next_item, first_member, next_member, after_name, name, value, items, members, text_of_value, text}
use Rattle.json_descent.specs.Descent.{value_from, items_from, members_from}
use Rattle.json_descent.proofs.Shorter.{ValueBelow, ListedBelow, NamedBelow, first_item_below, first_member_below, value_below, items_below, members_below}
use Rattle.json_descent.proofs.Enough.{value_by, next_item_same, next_member_same, after_name_same, name_same, value_same, items_same, members_same}

-- ---- a value

pub value_none : (len depth : ℕ) → value_from len depth [] ≡ Missing (stop_at len [])
unfolding value_from value
value_none len depth = refl

pub value_one : (len depth : ℕ) (t : Lexeme) (ts : List Lexeme)
    → value_from len depth (t ∷ ts)
    ≡ cond (is_byte 91 t) (bracketed len depth t (array_at t.first (first_item len (λ us. items_from len (suc depth) us) ts)))
    (cond (is_byte 123 t) (bracketed len depth t (object_at_lem t.first (first_member len (λ us. members_from len (suc depth) us) ts)))
    (scalar len t ts))
unfolding value_from items_from members_from
value_one len depth t ts =
    let n : 2 * suc (length ts) + 1 ≡ suc (2 * length ts + 2) = omega arith in
    ap (λ (n : ℕ). value len n depth (t ∷ ts)) n
    ∙ value_by len (2 * length ts + 2) depth t ts (λ us. items_from len (suc depth) us) (λ us. members_from len (suc depth) us) refl refl

-- ---- lists and objects, from an element or a member on

items_by_lem : (len n depth : ℕ) (ts : List Lexeme) → items len (suc n) depth ts ≡ next_item len (λ us. items len n depth us) (value len n depth ts)
unfolding value
items_by_lem len n depth ts = refl

pub items_one : (len depth : ℕ) (ts : List Lexeme) → items_from len depth ts ≡ next_item len (λ us. items_from len depth us) (value_from len depth ts)
unfolding value_from items_from
items_one len depth ts =
    let n : 2 * length ts + 2 ≡ suc (2 * length ts + 1) = omega arith in
    ap (λ (n : ℕ). items len n depth ts) n
    ∙ items_by_lem len (2 * length ts + 1) depth ts
    ∙ next_item_same len (length ts) (λ us. items len (2 * length ts + 1) depth us) (λ us. items_from len depth us) (value len (2 * length ts + 1) depth ts)
    (value_below len (2 * length ts + 1) depth ts) (λ us k. items_same len (2 * length ts + 1) (2 * length us + 2) depth us (omega arith) (omega arith))

members_by_lem : (len n depth : ℕ) (ts : List Lexeme)
    → members len (suc n) depth ts ≡ name len (λ t us. after_name len t (λ vs. next_member len t (λ ws. members len n depth ws) (value len n depth vs)) us) ts
unfolding value
members_by_lem len n depth ts = refl

pub members_one : (len depth : ℕ) (ts : List Lexeme)
    → members_from len depth ts ≡ name len (λ t us. after_name len t (λ vs. next_member len t (λ ws. members_from len depth ws) (value_from len depth vs)) us) ts
unfolding value_from members_from
members_one len depth ts =
    let n : 2 * length ts + 2 ≡ suc (2 * length ts + 1) = omega arith in
    ap (λ (n : ℕ). members len n depth ts) n
    ∙ members_by_lem len (2 * length ts + 1) depth ts
    ∙ name_same len _ _ ts
    (λ t us a. after_name_same len t _ _ us
    (λ vs b. next_member_same len (length vs) t (λ ws. members len (2 * length ts + 1) depth ws) (λ ws. members_from len depth ws) (value len (2 * length ts + 1) depth vs)
    (value_below len (2 * length ts + 1) depth vs) (λ ws c. members_same len (2 * length ts + 1) (2 * length ws + 2) depth ws (omega arith) (omega arith))
    ∙ ap (λ (v : Value). next_member len t (λ ws. members_from len depth ws) v) (value_same len (2 * length ts + 1) (2 * length vs + 1) depth vs (omega arith) (omega arith))))

-- ---- a text

pub text_from_lem : (bs : List ℕ) → text bs ≡ text_of_value (length bs) (value_from (length bs) 0 (lexemes (length bs) 0 bs))
unfolding text value_from
text_from_lem bs = refl

-- ---- what is left is shorter

pub value_shorter : (len depth : ℕ) (ts : List Lexeme) → ValueBelow (length ts) (value_from len depth ts)
unfolding value_from
value_shorter len depth ts = value_below len (2 * length ts + 1) depth ts

pub items_shorter : (len depth : ℕ) (ts : List Lexeme) → ListedBelow (length ts) (items_from len depth ts)
unfolding items_from
items_shorter len depth ts = items_below len (2 * length ts + 2) depth ts

pub members_shorter : (len depth : ℕ) (ts : List Lexeme) → NamedBelow (length ts) (members_from len depth ts)
unfolding members_from
members_shorter len depth ts = members_below len (2 * length ts + 2) depth ts

pub value_left : (len depth : ℕ) (ts : List Lexeme) (x : Json) (us : List Lexeme) → value_from len depth ts ≡ Whole x us → length us < length ts
value_left len depth ts x us e = subst (λ (v : Value). ValueBelow (length ts) v) e (value_shorter len depth ts)

pub items_left : (len depth : ℕ) (ts : List Lexeme) (xs : Items) (us : List Lexeme) → items_from len depth ts ≡ Closed xs us → length us < length ts
items_left len depth ts xs us e = subst (λ (l : Listed). ListedBelow (length ts) l) e (items_shorter len depth ts)

pub members_left : (len depth : ℕ) (ts : List Lexeme) (ms : Members) (us : List Lexeme) → members_from len depth ts ≡ ClosedBy ms us → length us < length ts
members_left len depth ts ms us e = subst (λ (l : Named). NamedBelow (length ts) l) e (members_shorter len depth ts)

-- from the first bracket on

pub list_left : (len depth : ℕ) (ts : List Lexeme) (xs : Items) (us : List Lexeme) → first_item len (λ vs. items_from len depth vs) ts ≡ Closed xs us → length us < length ts
list_left len depth ts xs us e = subst (λ (l : Listed). ListedBelow (length ts) l) e (first_item_below len (λ vs. items_from len depth vs) ts (items_shorter len depth ts))

pub object_left : (len depth : ℕ) (ts : List Lexeme) (ms : Members) (us : List Lexeme) → first_member len (λ vs. members_from len depth vs) ts ≡ ClosedBy ms us → length us < length ts
object_left len depth ts ms us e = subst (λ (l : Named). NamedBelow (length ts) l) e (first_member_below len (λ vs. members_from len depth vs) ts (members_shorter len depth ts))
