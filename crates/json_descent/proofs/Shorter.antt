-- What is left behind a value, a list or an object is shorter than what there was, with any number of steps.
use Prim.Native.Nat.{ℕ, zero, suc, ◌≤◌, ◌<◌}
use native.Mathlib.Omega.{arith}
use mathlib.Core.Bool.{Bool, true, false, cond}
use mathlib.Core.List.{List, [], ◌∷◌}
use lib.Dec.{leb}
use lib.ListN.{length}
use Rattle.json_rule.specs.Lexemes.{Lexeme, quote}
use Rattle.json_rule.specs.Tree.{deepest, is_scalar, is_byte, Json, Value, Whole, Cut, Missing, Listed, Closed, Open, Named, ClosedBy, OpenBy, array_at, object_at_lem, with_item, with_member, scalar, bracketed, first_item, more_items, next_item, first_member, more_members, next_member, after_name, name, value, items, members}

-- fewer lexemes are left than this, if what was read is whole
abbrev pub ValueBelow : ℕ → Value → Type 0
ValueBelow n (Whole x us) = length us < n
ValueBelow n (Cut x stop) = Unit {0}
ValueBelow n (Missing stop) = Unit {0}

abbrev pub ListedBelow : ℕ → Listed → Type 0
ListedBelow n (Closed xs us) = length us < n
ListedBelow n (Open xs stop) = Unit {0}

abbrev pub NamedBelow : ℕ → Named → Type 0
NamedBelow n (ClosedBy ms us) = length us < n
NamedBelow n (OpenBy ms stop) = Unit {0}

-- what holds of both choices holds of the choice
pub chosen : {A : Type 0} (P : A → Type 0) (b : Bool) {x y : A} → P x → P y → P (cond b x y)
chosen P true h k = h
chosen P false h k = k

-- ---- values

array_below : (n place : ℕ) (l : Listed) → ListedBelow n l → ValueBelow (suc n) (array_at place l)
array_below n place (Closed xs us) h = omega arith
array_below n place (Open xs stop) h = tt

object_below : (n place : ℕ) (l : Named) → NamedBelow n l → ValueBelow (suc n) (object_at_lem place l)
object_below n place (ClosedBy ms us) h = omega arith
object_below n place (OpenBy ms stop) h = tt

scalar_below : (len : ℕ) (t : Lexeme) (ts : List Lexeme) → ValueBelow (suc (length ts)) (scalar len t ts)
scalar_below len t ts = let P : Value → Type 0 = λ v. ValueBelow (suc (length ts)) v in chosen P (is_scalar t) (chosen P t.whole (omega arith) tt) tt

-- ---- lists

listed_more : (n m : ℕ) (l : Listed) → n ≤ m → ListedBelow n l → ListedBelow m l
listed_more n m (Closed xs us) k h = omega arith
listed_more n m (Open xs stop) k h = tt

pub first_item_below : (len : ℕ) (again : List Lexeme → Listed) (ts : List Lexeme) → ListedBelow (length ts) (again ts) → ListedBelow (length ts) (first_item len again ts)
first_item_below len again [] h = h
first_item_below len again (t ∷ ts) h = chosen (λ (l : Listed). ListedBelow (suc (length ts)) l) (is_byte 93 t) (omega arith) h

pub more_items_below : (len : ℕ) (again : List Lexeme → Listed) (us : List Lexeme) → ((vs : List Lexeme) → ListedBelow (length vs) (again vs)) → ListedBelow (length us) (more_items len again us)
more_items_below len again [] h = tt
more_items_below len again (t ∷ vs) h =
    let P : Listed → Type 0 = λ l. ListedBelow (suc (length vs)) l in
    chosen P (is_byte 44 t) (listed_more (length vs) (suc (length vs)) (again vs) (omega arith) (h vs)) (chosen P (is_byte 93 t) (omega arith) tt)

with_item_below : (n : ℕ) (x : Json) (l : Listed) → ListedBelow n l → ListedBelow n (with_item x l)
with_item_below n x (Closed xs us) h = h
with_item_below n x (Open xs stop) h = tt

next_item_below : (len n : ℕ) (again : List Lexeme → Listed) (v : Value) → ((vs : List Lexeme) → ListedBelow (length vs) (again vs)) → ValueBelow n v → ListedBelow n (next_item len again v)
next_item_below len n again (Whole x us) h k =
    with_item_below n x (more_items len again us) (listed_more (length us) n (more_items len again us) (omega arith) (more_items_below len again us h))
next_item_below len n again (Cut x stop) h k = tt
next_item_below len n again (Missing stop) h k = tt

-- ---- objects

named_more : (n m : ℕ) (l : Named) → n ≤ m → NamedBelow n l → NamedBelow m l
named_more n m (ClosedBy ms us) k h = omega arith
named_more n m (OpenBy ms stop) k h = tt

pub first_member_below : (len : ℕ) (again : List Lexeme → Named) (ts : List Lexeme) → NamedBelow (length ts) (again ts) → NamedBelow (length ts) (first_member len again ts)
first_member_below len again [] h = h
first_member_below len again (t ∷ ts) h = chosen (λ (l : Named). NamedBelow (suc (length ts)) l) (is_byte 125 t) (omega arith) h

pub more_members_below : (len : ℕ) (again : List Lexeme → Named) (us : List Lexeme) → ((vs : List Lexeme) → NamedBelow (length vs) (again vs)) → NamedBelow (length us) (more_members len again us)
more_members_below len again [] h = tt
more_members_below len again (t ∷ vs) h =
    let P : Named → Type 0 = λ l. NamedBelow (suc (length vs)) l in
    chosen P (is_byte 44 t) (named_more (length vs) (suc (length vs)) (again vs) (omega arith) (h vs)) (chosen P (is_byte 125 t) (omega arith) tt)

with_member_below : (n : ℕ) (t : Lexeme) (x : Json) (l : Named) → NamedBelow n l → NamedBelow n (with_member t x l)
with_member_below n t x (ClosedBy ms us) h = h
with_member_below n t x (OpenBy ms stop) h = tt

next_member_below : (len n : ℕ) (t : Lexeme) (again : List Lexeme → Named) (v : Value) → ((vs : List Lexeme) → NamedBelow (length vs) (again vs)) → ValueBelow n v → NamedBelow n (next_member len t again v)
next_member_below len n t again (Whole x us) h k =
    with_member_below n t x (more_members len again us) (named_more (length us) n (more_members len again us) (omega arith) (more_members_below len again us h))
next_member_below len n t again (Cut x stop) h k = tt
next_member_below len n t again (Missing stop) h k = tt

after_name_below : (len : ℕ) (t : Lexeme) (again : List Lexeme → Named) (us : List Lexeme) → ((vs : List Lexeme) → NamedBelow (length vs) (again vs)) → NamedBelow (length us) (after_name len t again us)
after_name_below len t again [] h = tt
after_name_below len t again (c ∷ vs) h =
    chosen (λ (l : Named). NamedBelow (suc (length vs)) l) (is_byte 58 c) (named_more (length vs) (suc (length vs)) (again vs) (omega arith) (h vs)) tt

name_below_lem : (len : ℕ) (again : Lexeme → List Lexeme → Named) (ts : List Lexeme) → ((t : Lexeme) (us : List Lexeme) → NamedBelow (length us) (again t us)) → NamedBelow (length ts) (name len again ts)
name_below_lem len again [] h = tt
name_below_lem len again (t ∷ us) h =
    let P : Named → Type 0 = λ l. NamedBelow (suc (length us)) l in
    chosen P (is_byte quote t) (chosen P t.whole (named_more (length us) (suc (length us)) (again t us) (omega arith) (h t us)) tt) tt

-- ---- a list and an object, from their first brackets on

list_below : (len depth : ℕ) (t : Lexeme) (ts : List Lexeme) (again : List Lexeme → Listed) → ListedBelow (length ts) (again ts)
    → ValueBelow (suc (length ts)) (bracketed len depth t (array_at t.first (first_item len again ts)))
list_below len depth t ts again h =
    chosen (λ (v : Value). ValueBelow (suc (length ts)) v) (leb deepest depth) tt
    (array_below (length ts) t.first (first_item len again ts) (first_item_below len again ts h))

braced_below : (len depth : ℕ) (t : Lexeme) (ts : List Lexeme) (again : List Lexeme → Named) → NamedBelow (length ts) (again ts)
    → ValueBelow (suc (length ts)) (bracketed len depth t (object_at_lem t.first (first_member len again ts)))
braced_below len depth t ts again h =
    chosen (λ (v : Value). ValueBelow (suc (length ts)) v) (leb deepest depth) tt
    (object_below (length ts) t.first (first_member len again ts) (first_member_below len again ts h))

-- ---- all of them

module _ (len : ℕ) where
  mutual
    unfolding value

    pub value_below : (n depth : ℕ) (ts : List Lexeme) → ValueBelow (length ts) (value len n depth ts)
    value_below zero depth ts = tt
    value_below (suc n) depth [] = tt
    value_below (suc n) depth (t ∷ ts) =
        let P : Value → Type 0 = λ v. ValueBelow (suc (length ts)) v in
        chosen P (is_byte 91 t)
        (list_below len depth t ts (λ us. items len n (suc depth) us) (items_below n (suc depth) ts))
        (chosen P (is_byte 123 t)
        (braced_below len depth t ts (λ us. members len n (suc depth) us) (members_below n (suc depth) ts))
        (scalar_below len t ts))

    pub items_below : (n depth : ℕ) (ts : List Lexeme) → ListedBelow (length ts) (items len n depth ts)
    items_below zero depth ts = tt
    items_below (suc n) depth ts = next_item_below len (length ts) (λ us. items len n depth us) (value len n depth ts) (λ vs. items_below n depth vs) (value_below n depth ts)

    pub members_below : (n depth : ℕ) (ts : List Lexeme) → NamedBelow (length ts) (members len n depth ts)
    members_below zero depth ts = tt
    members_below (suc n) depth ts =
        name_below_lem len _ ts
        (λ t us. after_name_below len t _ us
        (λ vs. next_member_below len (length vs) t (λ ws. members len n depth ws) (value len n depth vs) (λ ws. members_below n depth ws) (value_below n depth vs)))
