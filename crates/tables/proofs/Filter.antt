-- The elements of a table that pass a test, from the front on.
use Prim.Native.Nat.{ℕ, ◌+◌, ◌≤◌, ◌<◌}
use native.Mathlib.Omega.{arith}
use mathlib.Core.Path.{◌≡◌, refl, sym, ap, ◌∙◌}
use mathlib.Core.Bool.{Bool, true, false}
use mathlib.Core.List.{List, [], ◌∷◌, ◌++◌, append-nil}
use borrow.Table.Steps.{cases}
use lib.ListN.{length, get_or, take, drop, length-append, take-append-drop}
use lib.Seq.{take_all}
use Rattle.rules.specs.Words.{keep}
use Rattle.tables.proofs.Table.{Kind, Tidy, listed, read_length, next}

module _ {A : Type 0} (p : A → Bool) where
  pub keep_append : (l r : List A) → keep p (l ++ r) ≡ keep p l ++ keep p r
  keep_append [] r = refl
  keep_append (x ∷ l) r = cases (p x) (λ t. rw (t, keep_append l r)) (λ f. rw (f, keep_append l r))

  -- the front of a list keeps no more than the list
  pub keep_front : (i : ℕ) (l : List A) → length (keep p (take i l)) ≤ length (keep p l)
  keep_front i l = omega (arith, ap length (sym (keep_append (take i l) (drop i l)) ∙ ap (keep p) (take-append-drop i l)), length-append (keep p (take i l)) (keep p (drop i l)))

module _ {K : Kind} {t : K.Whole} (h : Tidy K t) (p : K.Plain → Bool) where
  module _ (i : ℕ) (d : K.Slot) (b : i < K.count t) where
    keep_next : keep p (take (i + 1) (listed K t)) ≡ keep p (take i (listed K t)) ++ keep p (K.read (get_or (K.items t) i d) ∷ [])
    keep_next = ap (keep p) (next h i d b) ∙ keep_append p (take i (listed K t)) _

    pub keep_one : p (K.read (get_or (K.items t) i d)) ≡ true → keep p (take (i + 1) (listed K t)) ≡ keep p (take i (listed K t)) ++ (K.read (get_or (K.items t) i d) ∷ [])
    keep_one e = keep_next ∙ rw e

    pub keep_none : p (K.read (get_or (K.items t) i d)) ≡ false → keep p (take (i + 1) (listed K t)) ≡ keep p (take i (listed K t))
    keep_none e = keep_next ∙ rw (e, append-nil)

  pub keep_all : {i : ℕ} → K.count t ≤ i → keep p (take i (listed K t)) ≡ keep p (listed K t)
  keep_all {i} b = ap (keep p) (take_all i (listed K t) (omega (arith, read_length h)))
