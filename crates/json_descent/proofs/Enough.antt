-- With enough steps the answer is one: two numbers of steps that are both above twice the lexemes give the same value, the same list, the same object.
use Prim.Native.Nat.{ℕ, zero, suc, ◌+◌, ◌*◌, ◌<◌}
use native.Mathlib.Omega.{arith}
use mathlib.Core.Path.{◌≡◌, refl, ap, ◌∙◌}
use mathlib.Core.Bool.{cond}
use mathlib.Core.List.{List, [], ◌∷◌}
use lib.ListN.{length}
use Rattle.json_rule.specs.Lexemes.{Lexeme, quote}
use Rattle.json_rule.specs.Tree.{is_byte, no_item, no_member, bare_name, Value, Whole, Cut, Missing, Listed, Closed, Open, Named, ClosedBy, OpenBy, array_at, object_at_lem, with_item, with_member, stop_at, broken_at, scalar, bracketed, first_item, more_items, next_item, first_member, more_members, next_member, after_name, name, value, items, members}
use Rattle.json_descent.proofs.Shorter.{ValueBelow, value_below}

-- ---- what is read by two readers that agree on fewer lexemes

pub first_item_same : (len : ℕ) (f g : List Lexeme → Listed) (ts : List Lexeme) → f ts ≡ g ts → first_item len f ts ≡ first_item len g ts
first_item_same len f g [] e = e
first_item_same len f g (t ∷ ts) e = ap (λ (l : Listed). cond (is_byte 93 t) (Closed no_item ts) l) e

pub more_items_same : (len : ℕ) (f g : List Lexeme → Listed) (us : List Lexeme) → ((vs : List Lexeme) → length vs < length us → f vs ≡ g vs) → more_items len f us ≡ more_items len g us
more_items_same len f g [] h = refl
more_items_same len f g (t ∷ vs) h =
    ap (λ (l : Listed). cond (is_byte 44 t) l (cond (is_byte 93 t) (Closed no_item vs) (Open no_item (stop_at len (t ∷ vs))))) (h vs (omega arith))

pub next_item_same : (len n : ℕ) (f g : List Lexeme → Listed) (v : Value) → ValueBelow n v → ((vs : List Lexeme) → suc (length vs) < n → f vs ≡ g vs) → next_item len f v ≡ next_item len g v
next_item_same len n f g (Whole x us) b h = ap (λ (l : Listed). with_item x l) (more_items_same len f g us (λ vs k. h vs (omega arith)))
next_item_same len n f g (Cut x stop) b h = refl
next_item_same len n f g (Missing stop) b h = refl

pub first_member_same : (len : ℕ) (f g : List Lexeme → Named) (ts : List Lexeme) → f ts ≡ g ts → first_member len f ts ≡ first_member len g ts
first_member_same len f g [] e = e
first_member_same len f g (t ∷ ts) e = ap (λ (l : Named). cond (is_byte 125 t) (ClosedBy no_member ts) l) e

pub more_members_same : (len : ℕ) (f g : List Lexeme → Named) (us : List Lexeme) → ((vs : List Lexeme) → length vs < length us → f vs ≡ g vs) → more_members len f us ≡ more_members len g us
more_members_same len f g [] h = refl
more_members_same len f g (t ∷ vs) h =
    ap (λ (l : Named). cond (is_byte 44 t) l (cond (is_byte 125 t) (ClosedBy no_member vs) (OpenBy no_member (stop_at len (t ∷ vs))))) (h vs (omega arith))

pub next_member_same : (len n : ℕ) (t : Lexeme) (f g : List Lexeme → Named) (v : Value) → ValueBelow n v → ((vs : List Lexeme) → suc (length vs) < n → f vs ≡ g vs)
    → next_member len t f v ≡ next_member len t g v
next_member_same len n t f g (Whole x us) b h = ap (λ (l : Named). with_member t x l) (more_members_same len f g us (λ vs k. h vs (omega arith)))
next_member_same len n t f g (Cut x stop) b h = refl
next_member_same len n t f g (Missing stop) b h = refl

pub after_name_same : (len : ℕ) (t : Lexeme) (f g : List Lexeme → Named) (us : List Lexeme) → ((vs : List Lexeme) → length vs < length us → f vs ≡ g vs) → after_name len t f us ≡ after_name len t g us
after_name_same len t f g [] h = refl
after_name_same len t f g (c ∷ vs) h = ap (λ (l : Named). cond (is_byte 58 c) l (OpenBy (bare_name t) (stop_at len (c ∷ vs)))) (h vs (omega arith))

pub name_same : (len : ℕ) (f g : Lexeme → List Lexeme → Named) (ts : List Lexeme) → ((t : Lexeme) (us : List Lexeme) → length us < length ts → f t us ≡ g t us) → name len f ts ≡ name len g ts
name_same len f g [] h = refl
name_same len f g (t ∷ us) h =
    ap (λ (l : Named). cond (is_byte quote t) (cond t.whole l (OpenBy no_member (broken_at len t))) (OpenBy no_member (stop_at len (t ∷ us)))) (h t us (omega arith))

-- what a value is, with lists and objects read in any way that agrees from its bracket on
pub value_by : (len n depth : ℕ) (t : Lexeme) (ts : List Lexeme) (f : List Lexeme → Listed) (g : List Lexeme → Named) → items len n (suc depth) ts ≡ f ts → members len n (suc depth) ts ≡ g ts
    → value len (suc n) depth (t ∷ ts)
    ≡ cond (is_byte 91 t) (bracketed len depth t (array_at t.first (first_item len f ts)))
    (cond (is_byte 123 t) (bracketed len depth t (object_at_lem t.first (first_member len g ts))) (scalar len t ts))
unfolding value
value_by len n depth t ts f g e d =
    ap (λ (l : Listed). cond (is_byte 91 t) (bracketed len depth t (array_at t.first l)) (cond (is_byte 123 t) (bracketed len depth t (object_at_lem t.first (first_member len (λ us. members len n (suc depth) us) ts))) (scalar len t ts)))
    (first_item_same len (λ us. items len n (suc depth) us) f ts e)
    ∙ ap (λ (l : Named). cond (is_byte 91 t) (bracketed len depth t (array_at t.first (first_item len f ts))) (cond (is_byte 123 t) (bracketed len depth t (object_at_lem t.first l)) (scalar len t ts)))
    (first_member_same len (λ us. members len n (suc depth) us) g ts d)

-- ---- with enough steps

module _ (len : ℕ) where
  mutual
    unfolding value

    pub value_same : (n m depth : ℕ) (ts : List Lexeme) → 2 * length ts < n → 2 * length ts < m → value len n depth ts ≡ value len m depth ts
    value_same zero m depth ts h k = absurd (omega arith)
    value_same (suc n) zero depth ts h k = absurd (omega arith)
    value_same (suc n) (suc m) depth [] h k = refl
    value_same (suc n) (suc m) depth (t ∷ ts) h k =
        value_by len n depth t ts (λ us. items len m (suc depth) us) (λ us. members len m (suc depth) us)
        (items_same n m (suc depth) ts (omega arith) (omega arith)) (members_same n m (suc depth) ts (omega arith) (omega arith))

    pub items_same : (n m depth : ℕ) (ts : List Lexeme) → 2 * length ts + 1 < n → 2 * length ts + 1 < m → items len n depth ts ≡ items len m depth ts
    items_same zero m depth ts h k = absurd (omega arith)
    items_same (suc n) zero depth ts h k = absurd (omega arith)
    items_same (suc n) (suc m) depth ts h k =
        next_item_same len (length ts) (λ us. items len n depth us) (λ us. items len m depth us) (value len n depth ts) (value_below len n depth ts) (λ vs l. items_same n m depth vs (omega arith) (omega arith))
        ∙ ap (λ (v : Value). next_item len (λ us. items len m depth us) v) (value_same n m depth ts (omega arith) (omega arith))

    pub members_same : (n m depth : ℕ) (ts : List Lexeme) → 2 * length ts + 1 < n → 2 * length ts + 1 < m → members len n depth ts ≡ members len m depth ts
    members_same zero m depth ts h k = absurd (omega arith)
    members_same (suc n) zero depth ts h k = absurd (omega arith)
    members_same (suc n) (suc m) depth ts h k =
        name_same len _ _ ts
        (λ t us a. after_name_same len t _ _ us
        (λ vs b. next_member_same len (length vs) t (λ ws. members len n depth ws) (λ ws. members len m depth ws) (value len n depth vs) (value_below len n depth vs) (λ ws c. members_same n m depth ws (omega arith) (omega arith))
        ∙ ap (λ (v : Value). next_member len t (λ ws. members len m depth ws) v) (value_same n m depth vs (omega arith) (omega arith))))
