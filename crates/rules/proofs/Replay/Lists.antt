-- Laws of lists on which the replay of a log rests: what is kept of two lists joined, what is kept twice, and tests to which what was left out is nothing.
use Prim.Native.Nat.{ℕ, ◌+◌}
use mathlib.Core.Path.{◌≡◌, refl, sym, ap, ◌∙◌}
use mathlib.Core.Bool.{Bool, true, false, cond, ◌||◌}
use mathlib.Core.List.{List, [], ◌∷◌, ◌++◌}
use mathlib.Core.Option.{Option, none, some}
use native.Mathlib.Omega.{arith}
use Rattle.rules.specs.Words.{some_with, all, any, keep, total, collect}
use Rattle.rules.proofs.Tables.{all_head, all_tail}

module _ {A : Type 0} where
  pub keep_append : (p : A → Bool) (xs ys : List A) → keep p (xs ++ ys) ≡ keep p xs ++ keep p ys
  keep_append p [] ys = refl
  keep_append p (x ∷ xs) ys = go (p x) (keep_append p xs ys)
    where
      go : (t : Bool) → keep p (xs ++ ys) ≡ keep p xs ++ keep p ys → cond t (x ∷ keep p (xs ++ ys)) (keep p (xs ++ ys)) ≡ cond t (x ∷ keep p xs) (keep p xs) ++ keep p ys
      go true ih = rw ih
      go false ih = ih

  pub keep_keep : (p : A → Bool) (l : List A) → keep p (keep p l) ≡ keep p l
  keep_keep p [] = refl
  keep_keep p (x ∷ xs) = go (p x) refl (keep_keep p xs)
    where
      go : (t : Bool) → p x ≡ t → keep p (keep p xs) ≡ keep p xs → keep p (cond t (x ∷ keep p xs) (keep p xs)) ≡ cond t (x ∷ keep p xs) (keep p xs)
      go true e ih = rw (e, ih)
      go false e ih = ih

  pub keep_all : (p : A → Bool) (l : List A) → all p l ≡ true → keep p l ≡ l
  keep_all p [] h = refl
  keep_all p (x ∷ xs) h = rw (all_head p x xs h, keep_all p xs (all_tail p x xs h))

  pub any_append : (p : A → Bool) (xs ys : List A) → any p (xs ++ ys) ≡ any p xs || any p ys
  any_append p [] ys = refl
  any_append p (x ∷ xs) ys = go (p x) (any_append p xs ys)
    where
      go : (t : Bool) → any p (xs ++ ys) ≡ any p xs || any p ys → t || any p (xs ++ ys) ≡ (t || any p xs) || any p ys
      go true ih = refl
      go false ih = ih

  pub collect_append : {B : Type 0} (f : A → Option B) (xs ys : List A) → collect f (xs ++ ys) ≡ collect f xs ++ collect f ys
  collect_append f [] ys = refl
  collect_append {B} f (x ∷ xs) ys = go (f x) (collect_append f xs ys)
    where
      given : Option B → List B → List B
      given o zs = elim o [ none ↦ zs | some y ↦ y ∷ zs ]

      go : (o : Option B) → collect f (xs ++ ys) ≡ collect f xs ++ collect f ys → given o (collect f (xs ++ ys)) ≡ given o (collect f xs) ++ collect f ys
      go none ih = ih
      go (some y) ih = rw ih

  -- a test of what each gives, where it gives something, is a test of what is collected
  pub any_collect : {B : Type 0} (p : B → Bool) (f : A → Option B) (l : List A) → any (λ x. some_with p (f x)) l ≡ any p (collect f l)
  any_collect p f [] = refl
  any_collect {B} p f (x ∷ l) = go (f x) (any_collect p f l)
    where
      go : (o : Option B) → any (λ x. some_with p (f x)) l ≡ any p (collect f l) → some_with p o || any (λ x. some_with p (f x)) l ≡ any p (elim o [ none ↦ collect f l | some y ↦ y ∷ collect f l ])
      go none ih = ih
      go (some y) ih = rw ih

  pub total_append : (f : A → ℕ) (xs ys : List A) → total f (xs ++ ys) ≡ total f xs + total f ys
  total_append f [] ys = omega arith
  total_append f (x ∷ xs) ys = let ih : total f (xs ++ ys) ≡ total f xs + total f ys = total_append f xs ys in omega arith

  -- what is left out fails the test
  pub any_kept : (p q : A → Bool) (l : List A) → ((x : A) → q x ≡ false → p x ≡ false) → any p (keep q l) ≡ any p l
  any_kept p q [] h = refl
  any_kept p q (x ∷ xs) h = go (q x) refl (any_kept p q xs h)
    where
      go : (t : Bool) → q x ≡ t → any p (keep q xs) ≡ any p xs → any p (cond t (x ∷ keep q xs) (keep q xs)) ≡ p x || any p xs
      go true e ih = rw ih
      go false e ih = rw (h x e, ih)

  -- what is left out gives nothing
  pub collect_kept : {B : Type 0} (f : A → Option B) (q : A → Bool) (l : List A) → ((x : A) → q x ≡ false → f x ≡ none) → collect f (keep q l) ≡ collect f l
  collect_kept f q [] h = refl
  collect_kept {B} f q (x ∷ xs) h = go (q x) refl (collect_kept f q xs h)
    where
      given : Option B → List B → List B
      given o ys = elim o [ none ↦ ys | some y ↦ y ∷ ys ]

      go : (t : Bool) → q x ≡ t → collect f (keep q xs) ≡ collect f xs → collect f (cond t (x ∷ keep q xs) (keep q xs)) ≡ collect f (x ∷ xs)
      go true e ih = ap (given (f x)) ih
      go false e ih = ih ∙ ap (λ (o : Option B). given o (collect f xs)) (sym (h x e))
