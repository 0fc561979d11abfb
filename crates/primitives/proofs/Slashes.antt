-- A location read from the back: a slash at the end comes off, and any other byte there ends the trimming.
use Prim.Native.Nat.{ℕ, suc, ◌-◌, ◌≤◌, ◌<◌}
use mathlib.Core.Path.{◌≡◌, sym, ap, ◌∙◌}
use mathlib.Core.Bool.{true, false}
use mathlib.Core.List.{List, [], ◌∷◌, ◌++◌}
use native.Mathlib.Omega.{arith}
use borrow.Author.Tests.{eq-eqb, ne_eqb}
use borrow.Table.Steps.{cases}
use lib.ListN.{length, get_or, take}
use lib.Seq.{take-suc}
use Rattle.rules.specs.Words.{all}
use Rattle.rules.specs.Names.{is_slash, trimmed}

module _ (b : ℕ) (slash : is_slash b ≡ true) where
  all_off : (bs : List ℕ) → all is_slash (bs ++ (b ∷ [])) ≡ all is_slash bs
  all_off [] = rw slash
  all_off (x ∷ bs) = rw (all_off bs)

  trimmed_off : (bs : List ℕ) → trimmed (bs ++ (b ∷ [])) ≡ trimmed bs
  unfolding trimmed
  trimmed_off [] = rw slash
  trimmed_off (x ∷ bs) = rw (all_off bs, trimmed_off bs)

module _ (b : ℕ) (other : is_slash b ≡ false) where
  not_all : (bs : List ℕ) → all is_slash (bs ++ (b ∷ [])) ≡ false
  not_all [] = rw other
  not_all (x ∷ bs) = cases (is_slash x) (λ t. rw (t, not_all bs)) (λ f. rw f)

  trimmed_stays : (bs : List ℕ) → trimmed (bs ++ (b ∷ [])) ≡ bs ++ (b ∷ [])
  unfolding trimmed
  trimmed_stays [] = rw other
  trimmed_stays (x ∷ bs) = cases (is_slash x) (λ t. rw (t, not_all bs, trimmed_stays bs)) (λ f. rw (f, trimmed_stays bs))

-- the first n bytes, of which there is one at least
module _ (l : List ℕ) (n : ℕ) (h : 0 < n) (within : n ≤ length l) where
  abbrev at_last : ℕ
  at_last = get_or l (n - 1) 0

  split : take n l ≡ take (n - 1) l ++ (at_last ∷ [])
  split = let e : n ≡ suc (n - 1) = omega arith in ap (λ (k : ℕ). take k l) e ∙ take-suc l (n - 1) 0 (omega arith)

  pub slash_off : at_last ≡ 47 → trimmed (take n l) ≡ trimmed (take (n - 1) l)
  slash_off e = rw split (trimmed_off at_last (eq-eqb _ _ e) (take (n - 1) l))

  pub other_stays : (at_last ≡ 47 → ⊥) → take n l ≡ trimmed (take n l)
  other_stays e = rw split (sym (trimmed_stays at_last (ne_eqb _ _ e) (take (n - 1) l)))

pub nothing_left : (l : List ℕ) (n : ℕ) → n ≤ 0 → take n l ≡ trimmed (take n l)
unfolding trimmed
nothing_left l n h = let e : n ≡ 0 = omega arith in rw e
