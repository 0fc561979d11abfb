-- No two elements of a list are the same, compared by what each gives.
use mathlib.Core.Path.{◌≡◌, refl, sym, ap, ap₂, ◌∙◌}
use mathlib.Core.Bool.{Bool, false, not, ◌&&◌, ◌||◌}
use mathlib.Core.List.{List, [], ◌∷◌, map}
use mathlib.Core.Option.{Option, none, some}
use Rattle.rules.specs.Words.{any, some_with, collect, unequal_by}
use Rattle.rules.proofs.Tables.{any_none}
use Rattle.tables.proofs.Search.{any_map}

-- ---- by what each gives

module _ {B : Type 0} where
  any_given : (p : B → Bool) (o : Option B) (l : List B) → any p (elim o [ none ↦ l | some y ↦ y ∷ l ]) ≡ (some_with p o || any p l)
  any_given p none l = refl
  any_given p (some y) l = refl

  unequal_given : (same : B → B → Bool) (o : Option B) (l : List B) → unequal_by same (elim o [ none ↦ l | some y ↦ y ∷ l ]) ≡ (not (some_with (λ (y : B). any (same y) l) o) && unequal_by same l)
  unequal_given same none l = refl
  unequal_given same (some y) l = refl

module _ {A B : Type 0} (same : B → B → Bool) where
  pub unequal_map : (f : A → B) (l : List A) → unequal_by (λ (x y : A). same (f x) (f y)) l ≡ unequal_by same (map f l)
  unequal_map f [] = refl
  unequal_map f (x ∷ l) = ap₂ (λ (a b : Bool). not a && b) (sym (any_map (same (f x)) f l)) (unequal_map f l)

  -- what may be absent is the same as another where both are there and the same
  module _ (f : A → Option B) where
    any_collect : (p : B → Bool) (l : List A) → any p (collect f l) ≡ any (λ (x : A). some_with p (f x)) l
    any_collect p [] = refl
    any_collect p (x ∷ l) = any_given p (f x) (collect f l) ∙ ap (λ (b : Bool). some_with p (f x) || b) (any_collect p l)

    given_among : (o : Option B) (l : List A) → any (λ (b : A). some_with (λ (x : B). some_with (same x) (f b)) o) l ≡ some_with (λ (y : B). any (same y) (collect f l)) o
    given_among none l = any_none (λ b. false) (λ b. refl) l
    given_among (some y) l = sym (any_collect (same y) l)

    pub unequal_collect : (l : List A) → unequal_by (λ (a b : A). some_with (λ (x : B). some_with (same x) (f b)) (f a)) l ≡ unequal_by same (collect f l)
    unequal_collect [] = refl
    unequal_collect (x ∷ l) = ap₂ (λ (a b : Bool). not a && b) (given_among (f x) l) (unequal_collect l) ∙ sym (unequal_given same (f x) (collect f l))
