-- Lists read from the front or from the end: what stands at `i` decides, or the rest does.
use Prim.Native.Nat.{ℕ, ◌≤◌, ◌<◌}
use mathlib.Core.Path.{◌≡◌, refl, ◌∙◌}
use mathlib.Core.Bool.{Bool, true, false, not, ◌&&◌}
use mathlib.Core.List.{List, [], ◌∷◌, ◌++◌}
use mathlib.Core.Option.{some}
use borrow.Table.Steps.{cases}
use lib.ListN.{length, get_or, drop, drop_of_length-le}
use lib.Seq.{drop-cons}
use Rattle.rules.specs.Words.{any, keep, last_of, after_last, is_empty}
use Rattle.rules.proofs.Checks.{by_test, or_right, neither}
use Rattle.rules.proofs.Replay.Lists.{any_append}

module _ {A : Type 0} (p : A → Bool) where
  module _ (l : List A) (i : ℕ) (d : A) where
    pub any_here : i < length l → p (get_or l i d) ≡ true → any p (drop i l) ≡ true
    any_here h e = rw (drop-cons l i d h, e)

  pub any_end : (l : List A) (i : ℕ) → length l ≤ i → any p (drop i l) ≡ false
  any_end l i h = rw (drop_of_length-le l h)

  -- something is kept exactly if the test holds of something
  pub kept_any : (l : List A) → not (is_empty (keep p l)) ≡ any p l
  kept_any [] = refl
  kept_any (x ∷ l) = cases (p x) (λ t. rw t) (λ f. rw f (kept_any l))

  -- ---- after the last

  pub after_none : (l : List A) → any p l ≡ false → after_last p l ≡ l
  after_none [] h = refl
  after_none (x ∷ l) h = let k = neither (p x) (any p l) h in rw (k.1, k.0)

  pub after_here : (l : List A) (x : A) (r : List A) → p x ≡ true → any p r ≡ false → after_last p (l ++ (x ∷ r)) ≡ r
  after_here [] x r e n = rw (n, e)
  after_here (y ∷ l) x r e n =
      let k : any p (l ++ (x ∷ r)) ≡ true = any_append p l (x ∷ r) ∙ or_right (any p l) (rw e) in
      rw k (after_here l x r e n)

  pub none_after : (l : List A) → any p (after_last p l) ≡ false
  none_after [] = refl
  none_after (x ∷ l) =
      let P : List A → Type 0 = λ r. any p r ≡ false in
      by_test P (any p l) (λ e. none_after l) (λ e. by_test P (p x) (λ f. e) (λ f. rw (f, e)))

  -- a test that fails of none is no test
  pub keep_others : (q : A → Bool) (l : List A) → any p l ≡ false → keep (λ x. not (p x) && q x) l ≡ keep q l
  keep_others q [] h = refl
  keep_others q (x ∷ l) h = let k = neither (p x) (any p l) h in rw (k.0, keep_others q l k.1)

module _ {A : Type 0} where
  pub last_added_lem : (l : List A) (x : A) → last_of (l ++ (x ∷ [])) ≡ some x
  last_added_lem [] x = refl
  last_added_lem (y ∷ l) x = rw (last_added_lem l x)
