-- What is done, by its spot: in each arm, and where it is a value.
use Prim.Native.Nat.{ℕ, ◌≤◌, ◌<◌}
use mathlib.Core.Path.{◌≡◌, refl, sym, ap, ◌∙◌}
use mathlib.Core.Bool.{Bool, true, false, true≢false}
use mathlib.Core.List.{List, [], ◌∷◌}
use mathlib.Core.Logic.{◌⊎◌, ⊎_elim}
use native.Mathlib.Omega.{arith}
use borrow.Author.Tests.{eqb-true, eqb-false, ne_eqb, eq-eqb}
use borrow.Table.Steps.{cases}
use lib.Dec.{eqb}
use Rattle.json_members.specs.Model.{Told, told}
use Rattle.json_members.proofs.Cases.{is_key}
use Rattle.json_store.specs.Puts.{Store, put_value, put_last, is_silent, put_done_in, put_done}

-- neither the place of a lexeme nor whether it is a number is asked
pub put_done_told : (done : ℕ) (kept : List ℕ) (head first len : ℕ) (integer : Bool) (magnitude : ℕ) (slots : List ℕ) (s : Store) → put_done done (told kept head first len integer magnitude) slots s ≡ put_done done (told kept head 0 len false magnitude) slots s
unfolding put_done_in
put_done_told done kept head first len integer magnitude slots s = refl

abbrev pub arms : List (List ℕ)
arms = (7 ∷ 15 ∷ 19 ∷ 21 ∷ []) ∷ (8 ∷ 18 ∷ 23 ∷ 38 ∷ 45 ∷ 52 ∷ []) ∷ (39 ∷ []) ∷ (46 ∷ []) ∷ (53 ∷ []) ∷ []

-- a number that is none of the keys is not this one
other : (x k : ℕ) → is_key arms k ≡ true → is_key arms x ≡ false → eqb x k ≡ false
other x k a n = cases (eqb x k) (λ t. absurd (true≢false (sym a ∙ sym (ap (is_key arms) (eqb-true x k t)) ∙ n))) (λ f. f)

module _ (done : ℕ) (t : Told) (items : ℕ) (given : Bool) (s : Store) where
  pub done_outer : done < 3 → s ≡ put_done_in done t items given s
  unfolding put_done_in is_silent
  done_outer h =
      cases (eqb done 0) (λ e. rw e)
      (λ a. rw a (cases (eqb done 1) (λ e. rw e)
      (λ b. rw (b, eq-eqb done 2 (omega (arith, eqb-false done 0 a, eqb-false done 1 b))))))

  pub done_element : 23 ≤ done → done < 27 → is_key arms done ≡ false → put_last done items t s ≡ put_done_in done t items given s
  unfolding put_done_in is_silent
  done_element l h n =
      cases (eqb done 24) (λ e. rw (eqb-true done 24 e))
      (λ a. cases (eqb done 25) (λ e. rw (eqb-true done 25 e))
      (λ b. cases (eqb done 26) (λ e. rw (eqb-true done 26 e))
      (λ d. absurd (eqb-false done 23 (other done 23 refl n) (omega (arith, eqb-false done 24 a, eqb-false done 25 b, eqb-false done 26 d))))))

  pub done_value : 3 ≤ done → (done < 23) ⊎ (27 ≤ done) → is_key arms done ≡ false → put_value done t.kept t.head t.len t.magnitude s ≡ put_done_in done t items given s
  unfolding put_done_in is_silent
  done_value l r n =
      let beside : (k : ℕ) → 24 ≤ k → k ≤ 26 → done ≡ k → ⊥ = λ k a b e. ⊎_elim (λ x. omega arith) (λ y. omega arith) r in
      rw
      (ne_eqb done 0 (λ e. omega arith), ne_eqb done 1 (λ e. omega arith), ne_eqb done 2 (λ e. omega arith), other done 7 refl n, other done 15 refl n, other done 19 refl n, other done 21 refl n, other done 8 refl n, other done 18 refl n, other done 23 refl n, other done 38 refl n, other done 45 refl n, other done 52 refl n, ne_eqb done 24 (beside 24 (omega arith) (omega arith)), ne_eqb done 25 (beside 25 (omega arith) (omega arith)), ne_eqb done 26 (beside 26 (omega arith) (omega arith)), other done 39 refl n, other done 46 refl n, other done 53 refl n)
