-- Laws of lists and of tables by number for the run of an expiry's list: what is kept by two tests, and numbers that ascend.
use mathlib.Core.Path.{◌≡◌, refl, sym, ap, ◌∙◌}
use mathlib.Core.Bool.{Bool, true, false, not, ◌&&◌, ◌||◌, false≢true, true≢false, and-false}
use mathlib.Core.List.Memᴰ
use mathlib.Core.List.{List, [], ◌∷◌, ◌++◌, map, Memᴰ}
use mathlib.Core.Logic.{⊎_elim}
use mathlib.Core.Option.{Option, some}
use lib.IntN.{ℤ}
use lib.Signed.{lt_z}
use borrow.Table.Steps.{cases}
use Rattle.rules.specs.Words.{eq_z, all, any, keep, first, is_in, ascending}
use Rattle.rules.proofs.Checks.{by_test, both, or_left, or_right, by_either}
use Rattle.rules.proofs.Orders.{Ordered, Tells, numbers_ordered, numbers_told}
use Rattle.rules.proofs.Tables.{all_parts, all_kept, pairs_head, pairs_tail, pairs_keep, pairs_read, by_key}
use Rattle.rules.proofs.History.Lists.{all_in, found_any, any_found, in_keep}
use Rattle.rules.proofs.Replay.Keys.{in_all, held_ids, held_in}
use Rattle.retention.proofs.Stay.{fails, in_kept}

module _ {A : Type 0} where
  -- what passes neither of two tests, by the one and then by the other
  pub keep_neither : (p q : A → Bool) (l : List A) → keep (λ x. not (q x)) (keep (λ x. not (p x)) l) ≡ keep (λ x. not (p x || q x)) l
  keep_neither p q [] = refl
  keep_neither p q (x ∷ l) = cases (p x) (λ t. rw (t, keep_neither p q l)) (λ f. rw (f, keep_neither p q l))

  -- a test that always holds keeps all
  pub keep_every : (l : List A) → keep (λ x. true) l ≡ l
  keep_every [] = refl
  keep_every (x ∷ l) = ap (λ (r : List A). x ∷ r) (keep_every l)

  -- tests that agree on each that stands in a list keep the same of it
  pub keep_agrees : (p q : A → Bool) (l : List A) → ((x : A) → Memᴰ x l → p x ≡ q x) → keep p l ≡ keep q l
  keep_agrees p q [] h = refl
  keep_agrees p q (x ∷ l) h = rw (h x (Memᴰ.head refl), keep_agrees p q l (λ y k. h y (Memᴰ.tail k)))

  -- one that is sought among those that pass a test is found where more pass
  pub any_more : (s p q : A → Bool) → ((x : A) → p x ≡ true → q x ≡ true) → (l : List A) → any s (keep p l) ≡ true → any s (keep q l) ≡ true
  any_more s p q f [] h = h
  any_more s p q f (x ∷ l) h =
      cases (p x)
      (λ t. let k : s x || any s (keep p l) ≡ true = rw t at h in
      rw (f x t) (by_either (s x) (any s (keep p l)) (or_left (any s (keep q l))) (λ e. or_right (s x) (any_more s p q f l e)) k))
      (λ n. let ih : any s (keep q l) ≡ true = any_more s p q f l (rw n at h) in
      by_test (λ (r : List A). any s r ≡ true) (q x) (λ t. or_right (s x) ih) (λ t. ih))

-- ---- numbers

-- a number stands among those that pass a test if it passes and stands in the list
pub in_tested : (q : ℤ → Bool) (l : List ℤ) (k : ℤ) → is_in (keep q l) k ≡ (q k && is_in l k)
in_tested q [] k = sym (and-false (q k))
in_tested q (x ∷ l) k =
    cases (eq_z k x)
    (λ e. let same : x ≡ k = sym (numbers_told.equal k x e) in
    cases (q k)
    (λ t. rw (same, t, numbers_told.itself k))
    (λ f. rw (same, f, in_tested q l k, f)))
    (λ n. cases (q x) (λ t. rw (t, n) (in_tested q l k)) (λ f. rw (f, n) (in_tested q l k)))

-- a test that holds for each number of a list holds for all of it
pub all_numbers : (p : ℤ → Bool) (l : List ℤ) → ((k : ℤ) → is_in l k ≡ true → p k ≡ true) → all p l ≡ true
all_numbers p [] f = refl
all_numbers p (x ∷ l) f = both (f x (or_left (is_in l x) (numbers_told.itself x))) (all_numbers p l (λ k i. f k (or_right (eq_z k x) i)))

-- one that holds for none of its numbers holds for none of it
pub none_numbers : (p : ℤ → Bool) (l : List ℤ) → ((k : ℤ) → is_in l k ≡ true → p k ≡ false) → any p l ≡ false
none_numbers p [] f = refl
none_numbers p (x ∷ l) f = rw (f x (or_left (is_in l x) (numbers_told.itself x))) (none_numbers p l (λ k i. f k (or_right (eq_z k x) i)))

-- what is below all of a list does not stand in it
below_absent : (x : ℤ) (l : List ℤ) → all (lt_z x) l ≡ true → is_in l x ≡ false
below_absent x l h = fails (is_in l x) (in_all (lt_z x) l x h) (numbers_ordered.irreflexive x)

-- two numbers are not each below the other
not_both : (x y : ℤ) → lt_z x y ≡ true → lt_z y x ≡ true → ⊥
not_both x y h k = true≢false (sym (numbers_ordered.transitive x y x h k) ∙ numbers_ordered.irreflexive x)

-- the first of two ascending lists in which the same numbers stand are equal
same_first : (x y : ℤ) (a b : List ℤ) → ascending lt_z (x ∷ a) ≡ true → ascending lt_z (y ∷ b) ≡ true → is_in (y ∷ b) x ≡ true → is_in (x ∷ a) y ≡ true → x ≡ y
same_first x y a b h k i j =
    by_either (eq_z x y) (is_in b x)
    (numbers_told.equal x y)
    (λ s. by_either (eq_z y x) (is_in a y)
    (λ t. sym (numbers_told.equal y x t))
    (λ t. absurd (not_both x y (in_all (lt_z x) a y (pairs_head lt_z x a h) t) (in_all (lt_z y) b x (pairs_head lt_z y b k) s)))
    j)
    i

-- and so are their others
same_others : (x : ℤ) (a b : List ℤ) → ascending lt_z (x ∷ a) ≡ true → ascending lt_z (x ∷ b) ≡ true → ((k : ℤ) → is_in (x ∷ a) k ≡ is_in (x ∷ b) k) → (k : ℤ) → is_in a k ≡ is_in b k
same_others x a b h g e k =
    cases (eq_z k x)
    (λ t. rw (numbers_told.equal k x t) (below_absent x a (pairs_head lt_z x a h) ∙ sym (below_absent x b (pairs_head lt_z x b g))))
    (λ f. rw f at (e k))

-- ascending lists in which the same numbers stand are equal
ascending_same : (a b : List ℤ) → ascending lt_z a ≡ true → ascending lt_z b ≡ true → ((k : ℤ) → is_in a k ≡ is_in b k) → a ≡ b
ascending_same [] [] h g e = refl
ascending_same [] (y ∷ b) h g e = absurd (false≢true (e y ∙ or_left (is_in b y) (numbers_told.itself y)))
ascending_same (x ∷ a) [] h g e = absurd (false≢true (sym (e x) ∙ or_left (is_in a x) (numbers_told.itself x)))
ascending_same (x ∷ a) (y ∷ b) h g e =
    let first : x ≡ y = same_first x y a b h g (sym (e x) ∙ or_left (is_in a x) (numbers_told.itself x)) (e y ∙ or_left (is_in b y) (numbers_told.itself y)) in
    let others : (k : ℤ) → is_in a k ≡ is_in b k = same_others x a b h (rw first g) (rw (← first) at e) in
    rw (first, ascending_same a b (pairs_tail lt_z x a h) (pairs_tail lt_z y b g) others)

-- of two lists that ascend together each ascends, and what stands in the second does not stand in the first
pub ascending_parts : (a b : List ℤ) → ascending lt_z (a ++ b) ≡ true → (ascending lt_z a ≡ true) × (ascending lt_z b ≡ true) × ((k : ℤ) → is_in b k ≡ true → is_in a k ≡ false)
ascending_parts [] b h = (refl, h, λ k i. refl)
ascending_parts (x ∷ a) b h =
    let above = all_parts (lt_z x) a b (pairs_head lt_z x (a ++ b) h) in
    let rest = ascending_parts a b (pairs_tail lt_z x (a ++ b) h) in
    let other : (k : ℤ) → is_in b k ≡ true → eq_z k x ≡ false = λ k i. fails (eq_z k x) (λ t. rw (numbers_told.equal k x t) at i) (below_absent x b above.1) in
    (both above.0 rest.0, rest.1, λ k i. rw (other k i) (rest.2 k i))

-- ---- tables by number

module _ {A : Type 0} (key : A → ℤ) where
  -- the key of one of a list is among its keys
  pub key_among : (l : List A) {x : A} → Memᴰ x l → is_in (map key l) (key x) ≡ true
  key_among [] i = absurd (Memᴰ.not-nil i)
  key_among (y ∷ l) {x} i = ⊎_elim (λ q. or_left (is_in (map key l) (key x)) {a = eq_z (key x) (key y)} (rw q (numbers_told.itself (key y)))) (λ j. or_right (eq_z (key x) (key y)) (key_among l j)) (Memᴰ.cases_cons i)

  -- the keys of a table in order ascend
  pub keys_ascend : (l : List A) → ascending (by_key lt_z key) l ≡ true → ascending lt_z (map key l) ≡ true
  keys_ascend l h = pairs_read key lt_z l ∙ h

  -- the keys of what a test of the key keeps
  pub keys_kept : (q : ℤ → Bool) (l : List A) → map key (keep (λ x. q (key x)) l) ≡ keep q (map key l)
  keys_kept q [] = refl
  keys_kept q (x ∷ l) = cases (q (key x)) (λ t. rw (t, keys_kept q l)) (λ f. rw (f, keys_kept q l))

  -- ids that ascend and stand in a table are those that are held of them
  pub held_are : (ids : List ℤ) (l : List A) → ascending lt_z ids ≡ true → ascending (by_key lt_z key) l ≡ true → all (is_in (map key l)) ids ≡ true → held_ids key ids l ≡ ids
  held_are ids l a h e =
      ascending_same (held_ids key ids l) ids
      (keys_ascend (keep (λ x. is_in ids (key x)) l) (pairs_keep (by_key lt_z key) (λ x. is_in ids (key x)) l h))
      a
      (λ k. held_in key ids l k ∙ cases (is_in ids k) (λ t. rw (t, in_all (is_in (map key l)) ids k e t)) (λ f. rw f))

-- ---- tables by key

module _ {A K : Type 0} {lt : K → K → Bool} (o : Ordered lt) (key : A → K) {same : K → K → Bool} (t : Tells same) where
  -- each of a table in order is found by its key
  pub found_by_key : (l : List A) {x : A} → ascending (by_key lt key) l ≡ true → Memᴰ x l → first (λ (y : A). same (key y) (key x)) l ≡ some x
  found_by_key [] a i = absurd (Memᴰ.not-nil i)
  found_by_key (y ∷ l) {x} a i =
      ⊎_elim
      (λ q. let here : same (key y) (key x) ≡ true = rw q (t.itself (key y)) in rw here (ap some (sym q)))
      (λ j. let below : lt (key y) (key x) ≡ true = all_in (by_key lt key y) l (pairs_head (by_key lt key) y l a) j in
      let other : same (key y) (key x) ≡ false = fails (same (key y) (key x)) (λ e. ap (lt (key y)) (t.equal (key y) (key x) e) ∙ below) (o.irreflexive (key y)) in
      rw other (found_by_key l (pairs_tail (by_key lt key) y l a) j))
      (Memᴰ.cases_cons i)

  -- so two of a table with one key are one
  same_by_key : (l : List A) {x y : A} → ascending (by_key lt key) l ≡ true → Memᴰ x l → Memᴰ y l → key x ≡ key y → x ≡ y
  same_by_key l {x} {y} a i j e =
      let first_is : K → Option A = λ k. first (λ (z : A). same (key z) k) l in
      let both_found : some x ≡ some y = sym (found_by_key l a i) ∙ ap first_is e ∙ found_by_key l a j in
      cc

  -- and one of a table has the key of one that passes a test if it passes itself
  pub key_of_kept : (p : A → Bool) (l : List A) (x : A) → ascending (by_key lt key) l ≡ true → Memᴰ x l → any (λ (d : A). same (key x) (key d)) (keep p l) ≡ p x
  key_of_kept p l x a i =
      cases (p x)
      (λ e. found_any (λ (d : A). same (key x) (key d)) (keep p l) (in_kept p l i e) (t.itself (key x)) ∙ sym e)
      (λ e. fails (any (λ (d : A). same (key x) (key d)) (keep p l))
      (λ h. let k = any_found (λ (d : A). same (key x) (key d)) (keep p l) h in
      let is : x ≡ k.0 = same_by_key l a i (in_keep p l k.1) (t.equal (key x) (key k.0) k.2) in
      ap p is ∙ all_in p (keep p l) (all_kept p l) k.1)
      e ∙ sym e)
