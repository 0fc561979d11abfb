-- A table that ascends is left as it is by sorting.
use mathlib.Core.Path.{◌≡◌, refl, ◌∙◌, sym, ap}
use mathlib.Core.Bool.{Bool, true, false, false≢true}
use mathlib.Core.List.{List, [], ◌∷◌}
use Rattle.rules.specs.Words.{all, ascending}
use Rattle.rules.proofs.Checks.{and_left, and_right}
use Rattle.rules.proofs.Orders.{Ordered}
use Rattle.file_rule.specs.Import.{inserted, sorted}

module _ {A K : Type 0} (lt : K → K → Bool) (o : Ordered lt) (key : A → K) where
  abbrev below : A → A → Bool
  below a b = lt (key a) (key b)

  not_back : (a b : K) → lt a b ≡ true → lt b a ≡ false
  not_back a b h = go (lt b a) refl
    where
      go : (t : Bool) → lt b a ≡ t → t ≡ false
      go true e = absurd (false≢true (sym (o.irreflexive a) ∙ o.transitive a b a h e))
      go false e = refl

  inserted_first : (x : A) (l : List A) → all (below x) l ≡ true → inserted below x l ≡ x ∷ l
  unfolding inserted
  inserted_first x [] h = refl
  inserted_first x (y ∷ l) h = rw (not_back (key x) (key y) (and_left (below x y) (all (below x) l) h))

  pub sorted_same : (l : List A) → ascending below l ≡ true → sorted below l ≡ l
  unfolding sorted
  sorted_same [] h = refl
  sorted_same (x ∷ l) h = ap (λ r. inserted below x r) (sorted_same l (and_right (all (below x) l) (ascending below l) h)) ∙ inserted_first x l (and_left (all (below x) l) (ascending below l) h)
