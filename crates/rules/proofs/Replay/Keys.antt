-- Removal by ids, once for any table by number: the held ids remove what the asked ids remove, are no more than those, and where none is held nothing goes.
use Prim.Native.Nat.{◌+◌, ◌≤◌}
use native.Mathlib.Omega.{arith}
use mathlib.Core.Path.{◌≡◌, refl, sym, ap, ◌∙◌}
use mathlib.Core.Bool.{Bool, true, false, cond, not, ◌&&◌, ◌||◌, false≢true, true≢false, and-false}
use mathlib.Core.List.{List, [], ◌∷◌, map}
use mathlib.Core.Option.{Option, some}
use lib.Dec.{leb}
use lib.IntN.{ℤ}
use lib.ListN.{length, length-map}
use lib.Signed.{lt_z, non_neg}
use borrow.Author.Tests.{leb-true, le-leb}
use borrow.Table.Steps.{cases}
use Rattle.rules.specs.Words.{eq_z, all, keep, first, is_empty, is_in, ascending}
use Rattle.rules.specs.Capacities.{removal_room}
use Rattle.rules.specs.WellFormed.{removal_formed}
use Rattle.rules.proofs.Checks.{both, and_left, and_right, or_left, or_right, neither}
use Rattle.rules.proofs.Orders.{numbers_ordered, numbers_told}
use Rattle.rules.proofs.Tables.{by_key, all_head, all_tail}

-- ---- numbers in lists

-- a test of all holds for each that stands in the list
pub in_all : (p : ℤ → Bool) (l : List ℤ) (x : ℤ) → all p l ≡ true → is_in l x ≡ true → p x ≡ true
in_all p [] x h e = absurd (false≢true e)
in_all p (y ∷ l) x h e = go (eq_z x y) refl (in_all p l x (all_tail p y l h)) e
  where
    go : (t : Bool) → eq_z x y ≡ t → (is_in l x ≡ true → p x ≡ true) → t || is_in l x ≡ true → p x ≡ true
    go true q ih e = rw (numbers_told.equal x y q) (all_head p y l h)
    go false q ih e = ih e

-- a number above another is not equal to it
above_differs : (i y : ℤ) → lt_z i y ≡ true → eq_z y i ≡ false
above_differs i y h = go (eq_z y i) refl
  where
    go : (t : Bool) → eq_z y i ≡ t → t ≡ false
    go true q = sym (rw (numbers_told.equal y i q, numbers_ordered.irreflexive i) at h)
    go false q = refl

-- ---- counts of what is kept

module _ {A : Type 0} where
  -- those that pass one of two tests
  kept_either : (p q : A → Bool) (l : List A) → length (keep (λ x. p x || q x) l) ≤ length (keep p l) + length (keep q l)
  kept_either p q [] = omega arith
  kept_either p q (x ∷ l) = go (p x) (q x) (kept_either p q l)
    where
      go : (s t : Bool) → length (keep (λ x. p x || q x) l) ≤ length (keep p l) + length (keep q l)
          → length (cond (s || t) (x ∷ keep (λ x. p x || q x) l) (keep (λ x. p x || q x) l)) ≤ length (cond s (x ∷ keep p l) (keep p l)) + length (cond t (x ∷ keep q l) (keep q l))
      go true true ih = omega arith
      go true false ih = omega arith
      go false true ih = omega arith
      go false false ih = ih

  kept_none : (l : List A) → keep (λ x. false) l ≡ []
  kept_none [] = refl
  kept_none (x ∷ l) = kept_none l

-- ---- tables by number

module _ {A : Type 0} (key : A → ℤ) where
  -- the held ids of a list, in table order
  abbrev pub held_ids : List ℤ → List A → List ℤ
  held_ids ids l = map key (keep (λ x. is_in ids (key x)) l)

  none_above : (i : ℤ) (x : A) (l : List A) → eq_z (key x) i ≡ true → all (by_key lt_z key x) l ≡ true → keep (λ y. eq_z (key y) i) l ≡ []
  none_above i x [] e h = refl
  none_above i x (y ∷ l) e h =
      let d : eq_z (key y) i ≡ false = above_differs i (key y) (rw (numbers_told.equal (key x) i e) at (all_head (by_key lt_z key x) y l h)) in
      rw d (none_above i x l e (all_tail (by_key lt_z key x) y l h))

  -- "keys unequal": an id stands once at most
  at_most_once : (i : ℤ) (l : List A) → ascending (by_key lt_z key) l ≡ true → length (keep (λ x. eq_z (key x) i) l) ≤ 1
  at_most_once i [] h = omega arith
  at_most_once i (x ∷ l) h = go (eq_z (key x) i) refl (at_most_once i l (and_right (all (by_key lt_z key x) l) (ascending (by_key lt_z key) l) h))
    where
      go : (t : Bool) → eq_z (key x) i ≡ t → length (keep (λ x. eq_z (key x) i) l) ≤ 1 → length (cond t (x ∷ keep (λ x. eq_z (key x) i) l) (keep (λ x. eq_z (key x) i) l)) ≤ 1
      go true q ih = rw (none_above i x l q (and_left (all (by_key lt_z key x) l) (ascending (by_key lt_z key) l) h)) (omega arith)
      go false q ih = ih

  pub kept_count : (ids : List ℤ) (l : List A) → ascending (by_key lt_z key) l ≡ true → length (keep (λ x. is_in ids (key x)) l) ≤ length ids
  kept_count [] l h = rw (kept_none l) (omega arith)
  kept_count (i ∷ ids) l h =
      omega (arith, kept_either (λ x. eq_z (key x) i) (λ x. is_in ids (key x)) l, at_most_once i l h, kept_count ids l h)

  -- no more ids are held than are asked for
  held_count : (ids : List ℤ) (l : List A) → ascending (by_key lt_z key) l ≡ true → length (held_ids ids l) ≤ length ids
  held_count ids l h = rw (length-map (keep (λ x. is_in ids (key x)) l) key) (kept_count ids l h)

  held_non_neg : (ids : List ℤ) (l : List A) → all non_neg ids ≡ true → all non_neg (held_ids ids l) ≡ true
  held_non_neg ids [] h = refl
  held_non_neg ids (x ∷ l) h = go (is_in ids (key x)) refl (held_non_neg ids l h)
    where
      go : (t : Bool) → is_in ids (key x) ≡ t → all non_neg (held_ids ids l) ≡ true → all non_neg (map key (cond t (x ∷ keep (λ x. is_in ids (key x)) l) (keep (λ x. is_in ids (key x)) l))) ≡ true
      go true q ih = both (in_all non_neg ids (key x) h q) ih
      go false q ih = ih

  -- a removal of the held ids is well formed if the one that asked for them is
  pub held_formed : (ids : List ℤ) (l : List A) → ascending (by_key lt_z key) l ≡ true → removal_formed ids ≡ true → removal_formed (held_ids ids l) ≡ true
  held_formed ids l a h =
      let n : length ids ≤ 16 = leb-true (length ids) 16 (and_left (leb (length ids) removal_room) (all non_neg ids) h) in
      both (le-leb (length (held_ids ids l)) 16 (omega (arith, held_count ids l a))) (held_non_neg ids l (and_right (leb (length ids) removal_room) (all non_neg ids) h))

  -- a number is among the held ids exactly if it is asked for and stands in the table
  pub held_in : (ids : List ℤ) (l : List A) (k : ℤ) → is_in (held_ids ids l) k ≡ (is_in ids k && is_in (map key l) k)
  held_in ids [] k = sym (and-false (is_in ids k))
  held_in ids (x ∷ l) k = go (is_in ids (key x)) refl (eq_z k (key x)) refl (held_in ids l k)
    where
      go : (t : Bool) → is_in ids (key x) ≡ t → (s : Bool) → eq_z k (key x) ≡ s → is_in (held_ids ids l) k ≡ (is_in ids k && is_in (map key l) k)
          → is_in (map key (cond t (x ∷ keep (λ x. is_in ids (key x)) l) (keep (λ x. is_in ids (key x)) l))) k ≡ (is_in ids k && (s || is_in (map key l) k))
      go true q true r ih = rw (r, numbers_told.equal k (key x) r, q)
      go true q false r ih = rw (r, ih)
      go false q true r ih = ih ∙ rw (numbers_told.equal k (key x) r, q)
      go false q false r ih = ih

  -- so one that is not asked for is not among them
  pub held_not_in : (ids : List ℤ) (l : List A) (k : ℤ) → is_in ids k ≡ false → is_in (held_ids ids l) k ≡ false
  held_not_in ids l k h = held_in ids l k ∙ rw h

  -- one that is not among them is found as it was when they are gone
  pub others_first : (ids : List ℤ) (l : List A) (k : ℤ) → is_in (held_ids ids l) k ≡ false → first (λ x. eq_z (key x) k) (keep (λ x. not (is_in ids (key x))) l) ≡ first (λ x. eq_z (key x) k) l
  others_first ids [] k h = refl
  others_first ids (x ∷ l) k h = go (is_in ids (key x)) (others_first ids l k) h
    where
      kept : List A
      kept = keep (λ x. not (is_in ids (key x))) l

      gone : List A
      gone = keep (λ x. is_in ids (key x)) l

      go : (t : Bool) → (is_in (held_ids ids l) k ≡ false → first (λ x. eq_z (key x) k) kept ≡ first (λ x. eq_z (key x) k) l) → is_in (map key (cond t (x ∷ gone) gone)) k ≡ false
          → first (λ x. eq_z (key x) k) (cond (not t) (x ∷ kept) kept) ≡ first (λ x. eq_z (key x) k) (x ∷ l)
      go true ih h =
          let n = neither (eq_z k (key x)) (is_in (held_ids ids l) k) h in
          cases (eq_z (key x) k)
          (λ q. absurd (true≢false (sym (rw (numbers_told.equal (key x) k q) (numbers_told.itself k)) ∙ n.0)))
          (λ q. rw q (ih n.1))
      go false ih h = ap (λ (o : Option A). cond (eq_z (key x) k) (some x) o) (ih h)

  -- two tests that agree on the ids of a table keep the same of it
  keep_alike : (p q : A → Bool) (l : List A) → ((x : A) → is_in (map key l) (key x) ≡ true → p x ≡ q x) → keep p l ≡ keep q l
  keep_alike p q [] h = refl
  keep_alike p q (x ∷ l) h =
      let e : p x ≡ q x = h x (or_left (is_in (map key l) (key x)) (numbers_told.itself (key x))) in
      let ih : keep p l ≡ keep q l = keep_alike p q l (λ y m. h y (or_right (eq_z (key y) (key x)) m)) in
      rw (e, ih)

  held_asked : (ids : List ℤ) (l : List A) (x : A) → is_in (map key l) (key x) ≡ true → is_in (held_ids ids l) (key x) ≡ is_in ids (key x)
  held_asked ids l x m = held_in ids l (key x) ∙ rw m (and_true (is_in ids (key x)))
    where
      and_true : (t : Bool) → t && true ≡ t
      and_true true = refl
      and_true false = refl

  -- the held ids, asked for again
  pub held_again : (ids : List ℤ) (l : List A) → held_ids (held_ids ids l) l ≡ held_ids ids l
  held_again ids l = ap (map key) (keep_alike (λ x. is_in (held_ids ids l) (key x)) (λ x. is_in ids (key x)) l (held_asked ids l))

  -- what stays without them
  pub others_again : (ids : List ℤ) (l : List A) → keep (λ x. not (is_in (held_ids ids l) (key x))) l ≡ keep (λ x. not (is_in ids (key x))) l
  others_again ids l = keep_alike (λ x. not (is_in (held_ids ids l) (key x))) (λ x. not (is_in ids (key x))) l (λ x m. ap not (held_asked ids l x m))

  -- where none is held, all stays
  pub none_held : (ids : List ℤ) (l : List A) → is_empty (held_ids ids l) ≡ true → keep (λ x. not (is_in ids (key x))) l ≡ l
  none_held ids [] h = refl
  none_held ids (x ∷ l) h = go (is_in ids (key x)) (none_held ids l) h
    where
      go : (t : Bool) → (is_empty (held_ids ids l) ≡ true → keep (λ x. not (is_in ids (key x))) l ≡ l) → is_empty (map key (cond t (x ∷ keep (λ x. is_in ids (key x)) l) (keep (λ x. is_in ids (key x)) l))) ≡ true
          → cond (not t) (x ∷ keep (λ x. not (is_in ids (key x))) l) (keep (λ x. not (is_in ids (key x))) l) ≡ x ∷ l
      go true ih h = absurd (false≢true h)
      go false ih h = rw (ih h)
