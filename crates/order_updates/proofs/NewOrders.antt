-- The id of a new order is not held: an order with no fields has id 0, and one is held only if it has no fields itself.
use Prim.Native.Nat.{ℕ}
use mathlib.Core.Path.{◌≡◌, refl, sym, ◌∙◌}
use mathlib.Core.Bool.{Bool, true, false, false≢true, beq}
use mathlib.Core.List.{List, [], ◌∷◌}
use mathlib.Core.Option.{Option, none, some}
use native.Mathlib.Omega.{arith}
use lib.IntN.{ℤ, pos}
use Rattle.rules.specs.Words.{eq_z, is_some, all, any, first, is_empty, same_list}
use Rattle.rules.specs.Capacities.{sort_order_room}
use Rattle.rules.specs.Register.{SortField, SortOrder}
use Rattle.rules.specs.WellFormed.{offered_order_formed, order_formed, order_below, orders_formed}
use Rattle.rules.specs.OrderUpdates.{same_sort_field, reused_order, new_order_id, holds_order}
use Rattle.rules.proofs.Checks.{by_test, and_left, and_right, neither}
use Rattle.rules.proofs.Tables.{first_any, table_parts_lem}
use Rattle.builder.proofs.NewIds.{highest_not_held}

beq_same : (a b : Bool) → beq a b ≡ true → b ≡ a
beq_same true true e = refl
beq_same true false e = absurd (false≢true e)
beq_same false true e = absurd (false≢true e)
beq_same false false e = refl

same_as_empty : (a b : List SortField) → is_empty b ≡ true → same_list same_sort_field a b ≡ is_empty a
same_as_empty [] [] h = refl
same_as_empty (x ∷ a) [] h = refl
same_as_empty a (y ∷ b) h = absurd (false≢true h)

none_alike : {A : Type 0} (p : A → Bool) (key : A → ℤ) (l : List A) → ◌≡◌ {A = Option ℤ} (elim (first p l) [ none ↦ none | some x ↦ some (key x) ]) none → any p l ≡ false
none_alike {A} p key l e = sym (first_any p l) ∙ go (first p l) e
  where
    go : (o : Option A) → ◌≡◌ {A = Option ℤ} (elim o [ none ↦ none | some x ↦ some (key x) ]) none → is_some o ≡ false
    go none e = refl
    go (some x) e = absurd (let z : ◌≡◌ {A = ℕ} 0 1 = cc in omega arith)

zero_in_none : (f : List SortField) → is_empty f ≡ true → (l : List SortOrder) → all order_formed l ≡ true → any (λ (x : SortOrder). same_list same_sort_field x.fields f) l ≡ false → holds_order l (pos 0) ≡ false
zero_in_none f h [] k e = refl
zero_in_none f h (x ∷ l) k e =
    let n = neither (same_list same_sort_field x.fields f) (any (λ (y : SortOrder). same_list same_sort_field y.fields f) l) e in
    let z : eq_z x.id (pos 0) ≡ is_empty x.fields = beq_same (is_empty x.fields) (eq_z x.id (pos 0)) (and_right (offered_order_formed x) (beq (is_empty x.fields) (eq_z x.id (pos 0))) (and_left (order_formed x) (all order_formed l) k)) in
    rw (z ∙ sym (same_as_empty x.fields f h) ∙ n.0, zero_in_none f h l (and_right (order_formed x) (all order_formed l) k) n.1)

pub new_order_not_held : (o : SortOrder) (l : List SortOrder) → orders_formed l ≡ true → reused_order o l ≡ none → holds_order l (new_order_id o l) ≡ false
unfolding orders_formed
new_order_not_held o l k e =
    by_test (λ (z : ℤ). holds_order l z ≡ false) (is_empty o.fields)
    (λ h. zero_in_none o.fields h l (table_parts_lem sort_order_room order_formed order_below l k).1 (none_alike (λ (x : SortOrder). same_list same_sort_field x.fields o.fields) (λ (x : SortOrder). x.id) l e))
    (λ h. highest_not_held (λ (x : SortOrder). x.id) l)
