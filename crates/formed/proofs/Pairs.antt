-- Each two elements of a list: tests of them joined and taken apart.
use mathlib.Core.Path.{◌≡◌, refl, sym, ap₂, ◌∙◌}
use mathlib.Core.Bool.{Bool, true, false, not, ◌&&◌, ◌||◌}
use mathlib.Core.List.{List, [], ◌∷◌, map}
use Rattle.rules.specs.Words.{all, any, each_pair, unequal_by}
use Rattle.rules.proofs.Tables.{all_head, all_tail, pairs_read}
use Rattle.formed.proofs.Bools.{interchange, all_both}

-- ---- tests of pairs

not_or : (a b : Bool) → not (a || b) ≡ (not a && not b)
not_or true b = refl
not_or false b = refl

module _ {A : Type 0} where
  pub pairs_both : (p q : A → A → Bool) (l : List A) → each_pair (λ (x y : A). p x y && q x y) l ≡ (each_pair p l && each_pair q l)
  pairs_both p q [] = refl
  pairs_both p q (x ∷ l) = ap₂ ◌&&◌ (all_both (p x) (q x) l) (pairs_both p q l) ∙ interchange (all (p x) l) (all (q x) l) (each_pair p l) (each_pair q l)

  none : (p : A → Bool) (l : List A) → all (λ (x : A). not (p x)) l ≡ not (any p l)
  none p [] = refl
  none p (x ∷ l) = rw (none p l) (sym (not_or (p x) (any p l)))

  unequal_pairs : (same : A → A → Bool) (l : List A) → each_pair (λ (x y : A). not (same x y)) l ≡ unequal_by same l
  unequal_pairs same [] = refl
  unequal_pairs same (x ∷ l) = ap₂ ◌&&◌ (none (same x) l) (unequal_pairs same l)

  -- two tests that are alike where a third holds
  module _ (t : A → Bool) where
    all_alike : (p q : A → Bool) → ((x : A) → t x ≡ true → p x ≡ q x) → (l : List A) → all t l ≡ true → all p l ≡ all q l
    all_alike p q f [] h = refl
    all_alike p q f (x ∷ l) h = ap₂ ◌&&◌ (f x (all_head t x l h)) (all_alike p q f l (all_tail t x l h))

    pub pairs_alike : (p q : A → A → Bool) → ((x y : A) → t x ≡ true → t y ≡ true → p x y ≡ q x y) → (l : List A) → all t l ≡ true → each_pair p l ≡ each_pair q l
    pairs_alike p q f [] h = refl
    pairs_alike p q f (x ∷ l) h = ap₂ ◌&&◌ (all_alike (p x) (q x) (λ y. f x y (all_head t x l h)) l (all_tail t x l h)) (pairs_alike p q f l (all_tail t x l h))

-- no two of what is read are the same
pub read_unequal : {A B : Type 0} (same : B → B → Bool) (f : A → B) (l : List A) → each_pair (λ (x y : A). not (same (f x) (f y))) l ≡ unequal_by same (map f l)
read_unequal same f l = sym (pairs_read f (λ x y. not (same x y)) l) ∙ unequal_pairs same (map f l)

-- each element by itself, and each two
abbrev pub alone : {A : Type 0} → (A → Bool) → (A → A → Bool) → List A → Bool
alone test apart l = all test l && each_pair apart l
