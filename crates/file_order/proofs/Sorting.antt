-- A table whose neighbours were exchanged is sorted as it was, if its keys are unequal; and the largest of all is the same.
use mathlib.Core.Path.{◌≡◌, refl, sym, ap, ◌∙◌}
use mathlib.Core.Bool.{Bool, true, false, cond, true≢false}
use mathlib.Core.List.{List, [], ◌∷◌}
use borrow.Table.Steps.{cases}
use Rattle.rules.specs.Words.{all, ascending}
use Rattle.rules.proofs.Checks.{both, and_left, and_right}
use Rattle.rules.proofs.Orders.{Ordered}
use Rattle.file_rule.specs.Import.{inserted, sorted}

-- the same list, or two neighbours of it exchanged
pub data Exchanged (A : Type 0) : List A → List A → Type 0 where
  kept : {l : List A} → Exchanged A l l
  swapped : {a b : A} {l : List A} → Exchanged A (a ∷ b ∷ l) (b ∷ a ∷ l)
  later : {a : A} {l m : List A} → Exchanged A l m → Exchanged A (a ∷ l) (a ∷ m)

module _ {K : Type 0} (lt : K → K → Bool) (o : Ordered lt) where
  not_back : (a b : K) → lt a b ≡ true → lt b a ≡ false
  not_back a b h = cases (lt b a) (λ e. absurd (true≢false (sym (o.transitive a b a h e) ∙ o.irreflexive a))) (λ e. e)

  -- what is not below the third is not below the first
  not_below : (a b c : K) → lt a b ≡ true → lt c b ≡ false → lt a c ≡ true
  not_below a b c h k = cases (lt b c) (λ e. o.transitive a b c h e) (λ e. ap (lt a) (o.connected c b k e) ∙ h)

  abbrev most : K → K → K
  most a b = cond (lt a b) b a

  pub most_turned : (a b c : K) → most a (most b c) ≡ most b (most a c)
  most_turned a b c =
      cases (lt b c)
      (λ p. cases (lt a c)
      (λ q. rw (p, q, p))
      (λ q. rw (p, q, not_below b c a p q)))
      (λ p. cases (lt a c)
      (λ q. rw (p, q, not_below a c b q p, p))
      (λ q. rw (p, q) last))
    where
      last : most a b ≡ most b a
      last = cases (lt a b) (λ e. rw (e, not_back a b e)) (λ e. cases (lt b a) (λ d. rw (e, d)) (λ d. rw (e, d) (o.connected a b e d)))

module _ {A K : Type 0} (lt : K → K → Bool) (o : Ordered lt) (key : A → K) where
  abbrev below : A → A → Bool
  below a b = lt (key a) (key b)

  -- ---- two that are put into their places

  put_two : (a b : A) → below a b ≡ true → (l : List A) → inserted below a (inserted below b l) ≡ inserted below b (inserted below a l)
  unfolding inserted
  put_two a b h [] = rw (not_back lt o (key a) (key b) h, h)
  put_two a b h (y ∷ ys) =
      cases (below y a)
      (λ p. let q : below y b ≡ true = o.transitive (key y) (key a) (key b) p h in rw (q, p, q) (ap (λ (l : List A). y ∷ l) (put_two a b h ys)))
      (λ p. cases (below y b)
      (λ q. rw (p, q, p, h))
      (λ q. rw (p, q, h, not_back lt o (key a) (key b) h)))

  -- ---- in a table that ascends

  all_less : (p : A → Bool) (a : A) (l : List A) → all p (inserted below a l) ≡ true → all p l ≡ true
  unfolding inserted
  all_less p a [] e = refl
  all_less p a (y ∷ ys) e = go (below y a) (all_less p a ys) e
    where
      go : (b : Bool) → (all p (inserted below a ys) ≡ true → all p ys ≡ true) → all p (cond b (y ∷ inserted below a ys) (a ∷ y ∷ ys)) ≡ true → all p (y ∷ ys) ≡ true
      go true k e = both (and_left (p y) (all p (inserted below a ys)) e) (k (and_right (p y) (all p (inserted below a ys)) e))
      go false k e = and_right (p a) (all p (y ∷ ys)) e

  ascending_less : (a : A) (l : List A) → ascending below (inserted below a l) ≡ true → ascending below l ≡ true
  unfolding inserted
  ascending_less a [] e = refl
  ascending_less a (y ∷ ys) e = go (below y a) (ascending_less a ys) e
    where
      go : (b : Bool) → (ascending below (inserted below a ys) ≡ true → ascending below ys ≡ true) → ascending below (cond b (y ∷ inserted below a ys) (a ∷ y ∷ ys)) ≡ true → ascending below (y ∷ ys) ≡ true
      go true k e =
          both (all_less (below y) a ys (and_left (all (below y) (inserted below a ys)) (ascending below (inserted below a ys)) e))
          (k (and_right (all (below y) (inserted below a ys)) (ascending below (inserted below a ys)) e))
      go false k e = and_right (all (below a) (y ∷ ys)) (ascending below (y ∷ ys)) e

  -- no key stands twice
  beside : (a b : A) → key a ≡ key b → (l : List A) → ascending below (a ∷ b ∷ l) ≡ true → ⊥
  beside a b q l e =
      true≢false (sym (and_left (below a b) (all (below a) l) (and_left (all (below a) (b ∷ l)) (ascending below (b ∷ l)) e)) ∙ ap (λ (k : K). lt k (key b)) q ∙ o.irreflexive (key b))

  not_twice : (a b : A) → key a ≡ key b → (l : List A) → ascending below (inserted below a (inserted below b l)) ≡ true → ⊥
  unfolding inserted
  not_twice a b q [] e =
      let n : below b a ≡ false = ap (lt (key b)) q ∙ o.irreflexive (key b) in
      beside a b q [] (rw n at e)
  not_twice a b q (y ∷ ys) e =
      let n : below b a ≡ false = ap (lt (key b)) q ∙ o.irreflexive (key b) in
      cases (below y b)
      (λ p. let r : below y a ≡ true = ap (lt (key y)) q ∙ p in
      not_twice a b q ys (and_right (all (below y) (inserted below a (inserted below b ys))) (ascending below (inserted below a (inserted below b ys))) (rw (p, r) at e)))
      (λ p. beside a b q (y ∷ ys) (rw (p, n) at e))

  pub sorted_exchanged : {l m : List A} → Exchanged A l m → ascending below (sorted below l) ≡ true → sorted below l ≡ sorted below m
  unfolding sorted
  sorted_exchanged kept e = refl
  sorted_exchanged (swapped {a = a} {b = b} {l = l}) e =
      cases (below a b)
      (λ p. put_two a b p (sorted below l))
      (λ p. cases (below b a)
      (λ q. sym (put_two b a q (sorted below l)))
      (λ q. absurd (not_twice a b (o.connected (key a) (key b) p q) (sorted below l) e)))
  sorted_exchanged (later {a = a} {l = l} h) e = ap (λ (r : List A). inserted below a r) (sorted_exchanged h (ascending_less a (sorted below l) e))
