-- What a test says of an update that is read, where it fails for one that is not well formed and for all kinds but one.
use Prim.Native.Nat.{ℕ}
use mathlib.Core.Path.{◌≡◌, refl, ◌∙◌}
use mathlib.Core.Bool.{Bool, true, false, cond, not, ◌&&◌, ◌||◌, and-false}
use mathlib.Core.List.{List, [], ◌∷◌}
use borrow.Author.Tests.{eqb-true, not-true}
use lib.Dec.{eqb}
use Rattle.records.specs.Blanks.{no_update}
use Rattle.records.specs.declared.update.TableUpdate.{TableUpdate}
use Rattle.rules.specs.Words.{all}
use Rattle.rules.specs.Register.{Update}
use Rattle.rules.specs.Register.Update.{NotFormed}
use Rattle.rules.specs.Kinds.{kind_weight, is_tidy_update, at_kind, readings, read_kind, read_update}
use Rattle.rules.proofs.Checks.{by_test, by_either, and_left, and_right}

module _ (f : Update → Bool) (not_formed_lem : (n : ℕ) → f (NotFormed n) ≡ false) where
  pub read_tidy : (u : TableUpdate) → f (read_update u) ≡ (is_tidy_update u && f (read_kind u))
  unfolding read_update
  read_tidy u = go (is_tidy_update u)
    where
      go : (t : Bool) → f (cond t (read_kind u) (NotFormed (kind_weight u.kind))) ≡ (t && f (read_kind u))
      go true = refl
      go false = not_formed_lem (kind_weight u.kind)

  -- it fails for what is read at every kind but the one
  abbrev fails_beside : ℕ → ℕ × Update → Bool
  fails_beside k x = eqb x.0 k || not (f x.1)

  at_others : (k kind : ℕ) (xs : List (ℕ × Update)) → all (fails_beside k) xs ≡ true → (kind ≡ k → ⊥) → f (at_kind kind xs) ≡ false
  at_others k kind [] h n = not_formed_lem 1
  at_others k kind (x ∷ xs) h n =
      by_test (λ (u : Update). f u ≡ false) (eqb kind x.0)
      (λ e. by_either (eqb x.0 k) (not (f x.1))
      (λ q. absurd (n (eqb-true kind x.0 e ∙ eqb-true x.0 k q)))
      (not-true (f x.1))
      (and_left (fails_beside k x) (all (fails_beside k) xs) h))
      (λ e. at_others k kind xs (and_right (fails_beside k x) (all (fails_beside k) xs) h) n)

  pub other_kind : (k : ℕ) (u : TableUpdate) → all (fails_beside k) (readings u) ≡ true → (u.kind ≡ k → ⊥) → f (read_update u) ≡ false
  other_kind k u h n = read_tidy u ∙ rw (at_others k u.kind (readings u) h n) (and-false (is_tidy_update u))

  -- a blank update is of no kind
  pub of_no_kind : f (read_update no_update) ≡ false
  unfolding no_update
  of_no_kind = read_tidy no_update ∙ rw (not_formed_lem 1) (and-false (is_tidy_update no_update))
