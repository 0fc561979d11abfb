-- One of the counted elements of an array passes a test exactly if one with a slot does, or if one without is counted and a blank passes.
use Prim.Native.Nat.{ℕ, zero, suc, ◌-◌, ◌≤◌, ◌<◌}
use native.Mathlib.Omega.{arith}
use mathlib.Core.Path.{◌≡◌, refl, sym, ap, ◌∙◌}
use mathlib.Core.Bool.{Bool, true, false, cond, not, ◌&&◌, ◌||◌, or-false, and-false}
use mathlib.Core.List.{List, [], ◌∷◌}
use borrow.Author.Tests.{leb-true, leb-false, lt-ltb, le-ltb}
use borrow.Table.Steps.{cases}
use lib.Dec.{ltb, leb}
use lib.ListN.{length, take, replicate}
use Rattle.records.specs.Blanks.{no_update}
use Rattle.records.specs.declared.update.TableUpdate.{TableUpdate}
use Rattle.records.specs.declared.update.UpdateList.{UpdateList}
use Rattle.rules.specs.Words.{all, any}
use Rattle.rules.specs.Capacities.{list_room}
use Rattle.rules.specs.Register.{Update}
use Rattle.rules.specs.Layout.{counted}
use Rattle.rules.specs.Kinds.{read_update, read_updates}
use Rattle.rules.proofs.Replay.Lists.{any_append}
use Rattle.rules.proofs.Slots.Relaid.{counted_take}
use Rattle.tables.proofs.Search.{any_map}
use Rattle.formed.proofs.Counted.{Taken, taken_end}

-- as many as have a slot
pub with_slots : (n room : ℕ) {r : ℕ} → r ≡ cond (leb n room) n room → r ≤ room
with_slots n room e = cases (leb n room) (λ t. omega (arith, leb-true n room t, rw t at e)) (λ f. omega (arith, rw f at e))

module _ {A : Type 0} where
  take_all : (n : ℕ) (l : List A) → length l ≤ n → take n l ≡ l
  take_all zero [] h = refl
  take_all (suc n) [] h = refl
  take_all zero (x ∷ l) h = absurd (omega arith)
  take_all (suc n) (x ∷ l) h = ap (λ (k : List A). x ∷ k) (take_all n l (omega arith))

module _ {A : Type 0} (q : A → Bool) where
  -- some pass, unless all fail
  some_pass : (l : List A) → not (all (λ x. not (q x)) l) ≡ any q l
  some_pass [] = refl
  some_pass (x ∷ l) = go (q x) (some_pass l)
    where
      go : (b : Bool) → not (all (λ x. not (q x)) l) ≡ any q l → not (not b && all (λ x. not (q x)) l) ≡ (b || any q l)
      go true ih = refl
      go false ih = ih

  -- what a scan found, that noted whether all fail
  pub scanned : {n i : ℕ} {items : List A} {none : Bool} → Taken (λ x. not (q x)) n items 0 i true none → n ≤ i → not none ≡ any q (take n items)
  scanned {n} {i} {items} s h = ap not (taken_end s h) ∙ some_pass (take n items)

  blanks : (b : A) (k : ℕ) → any q (replicate (suc k) b) ≡ q b
  blanks b zero = or-false (q b)
  blanks b (suc k) = ap (λ (z : Bool). q b || z) (blanks b k) ∙ twice (q b)
    where
      twice : (x : Bool) → (x || x) ≡ x
      twice true = refl
      twice false = refl

  pub any_counted : (b : A) (items : List A) (n room : ℕ) {r : ℕ} → length items ≡ room → r ≡ cond (leb n room) n room
      → any q (counted b items n) ≡ (any q (take r items) || (ltb room n && q b))
  any_counted b items n room {r} e s =
      cases (leb n room)
      (λ t. let h : n ≤ room = leb-true n room t in
      let k : r ≡ n = rw t at s in
      ap (any q) (counted_take b items n (omega (arith, e))) ∙ sym (rw (k, le-ltb room n h) (or-false (any q (take n items)))))
      (λ f. let h : room < n = leb-false n room f in
      let k : r ≡ room = rw f at s in
      let m : n - length items ≡ suc (n - room - 1) = omega (arith, e) in
      let w : take r items ≡ items = take_all r items (omega (arith, e)) in
      rw (w, lt-ltb room n h, take_all n items (omega (arith, e)), m) (any_append q items (replicate (suc (n - room - 1)) b) ∙ ap (λ (z : Bool). any q items || z) (blanks b (n - room - 1))))

-- a test that a blank update fails
pub any_update : (f : Update → Bool) (us : UpdateList) {r : ℕ} → f (read_update no_update) ≡ false → length us.items ≡ list_room → r ≡ cond (leb us.count list_room) us.count list_room
    → any f (read_updates us) ≡ any (λ (u : TableUpdate). f (read_update u)) (take r us.items)
unfolding read_updates
any_update f us {r} z e s =
    let q : TableUpdate → Bool = λ u. f (read_update u) in
    any_map f read_update (counted no_update us.items us.count)
    ∙ any_counted q no_update us.items us.count list_room e s
    ∙ rw (z, and-false (ltb list_room us.count)) (or-false (any q (take r us.items)))
