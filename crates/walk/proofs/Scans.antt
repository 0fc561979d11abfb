-- Lists read from the front: what stands at `i` decides, or what follows it does.
use Prim.Native.Nat.{ℕ, suc, ◌+◌, ◌≤◌, ◌<◌}
use mathlib.Core.Path.{◌≡◌, refl, sym, ◌∙◌}
use mathlib.Core.Bool.{Bool, true, false, false≢true, and-false}
use mathlib.Core.List.{List, [], ◌∷◌}
use native.Mathlib.Numerals.{add-one}
use borrow.Author.Tests.{eq-eqb, le-leb}
use borrow.Table.Steps.{cases}
use lib.IntN.{ℤ, pos}
use lib.Signed.{non_neg}
use lib.ListN.{length, get_or, drop, drop_of_length-le}
use lib.Seq.{drop-cons}
use Rattle.rules.specs.Capacities.{snapshot_room}
use Rattle.rules.specs.Words.{eq_z, all, is_in, unequal}
use Rattle.rules.specs.Walk.{lists_formed}
use Rattle.rules.proofs.Orders.{numbers_told}
use Rattle.rules.proofs.Tables.{all_head, all_tail}
use Rattle.walk.specs.Lists.{ids_formed}
use Rattle.walk.proofs.Bits.{eq_z_same, eq_z_other}

module _ (l : List ℤ) (i : ℕ) (x : ℤ) where
  pub in_here : i < length l → get_or l i (pos 0) ≡ x → is_in (drop i l) x ≡ true
  in_here h e = rw (drop-cons l i (pos 0) h, eq_z_same x (get_or l i (pos 0)) (sym e))

  pub in_rest : i < length l → (get_or l i (pos 0) ≡ x → ⊥) → is_in (drop i l) x ≡ is_in (drop (i + 1) l) x
  in_rest h e = rw (drop-cons l i (pos 0) h, eq_z_other x (get_or l i (pos 0)) (λ q. e (sym q)), add-one)

  pub in_none : length l ≤ i → is_in (drop i l) x ≡ false
  in_none h = rw (drop_of_length-le l h)

-- one for which a test fails is none of those for which it holds
pub not_in : (p : ℤ → Bool) (x : ℤ) (l : List ℤ) → p x ≡ false → all p l ≡ true → is_in l x ≡ false
not_in p x [] e h = refl
not_in p x (y ∷ l) e h =
    cases (eq_z x y)
    (λ t. absurd (false≢true (sym e ∙ rw (numbers_told.equal x y t) (all_head p y l h))))
    (λ f. rw f (not_in p x l e (all_tail p y l h)))

pub formed_ids : (ids parents : List ℤ) → length ids ≡ length parents → length ids ≤ snapshot_room → lists_formed ids parents ≡ ids_formed ids
unfolding ids_formed
formed_ids ids parents e h = rw (eq-eqb (length ids) (length parents) e, le-leb (length ids) snapshot_room h)

module _ (ids : List ℤ) (i : ℕ) where
  abbrev id : ℤ
  id = get_or ids i (pos 0)

  pub formed_under : i < length ids → non_neg id ≡ false → ids_formed (drop i ids) ≡ false
  unfolding ids_formed
  formed_under h e = rw (drop-cons ids i (pos 0) h, e) (and-false (unequal (id ∷ drop (suc i) ids)))

  pub formed_twice : i < length ids → is_in (drop (i + 1) ids) id ≡ true → ids_formed (drop i ids) ≡ false
  unfolding ids_formed
  formed_twice h e = rw (drop-cons ids i (pos 0) h, rw add-one at e)

  pub formed_rest : i < length ids → non_neg id ≡ true → is_in (drop (i + 1) ids) id ≡ false → ids_formed (drop i ids) ≡ ids_formed (drop (i + 1) ids)
  unfolding ids_formed
  formed_rest h n e = rw (drop-cons ids i (pos 0) h, n, rw add-one at e, add-one)

  pub formed_end : length ids ≤ i → ids_formed (drop i ids) ≡ true
  unfolding ids_formed
  formed_end h = rw (drop_of_length-le ids h)
