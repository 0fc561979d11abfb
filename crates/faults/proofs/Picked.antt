-- The first fault of two lists of tests, one after the other, and the tests of a table or a log as the code groups them.
use Prim.Native.Nat.{ℕ, ◌+◌}
use mathlib.Core.Path.{◌≡◌, refl, sym, ◌∙◌}
use mathlib.Core.Bool.{Bool, true, false, cond, not, ◌&&◌, not-not}
use mathlib.Core.List.{List, [], ◌∷◌, ◌++◌}
use borrow.Author.Tests.{eqb-true, eqb-false, not-false}
use borrow.Table.Steps.{cases}
use lib.Dec.{eqb, leb}
use lib.ListN.{length}
use Rattle.rules.specs.Words.{all, ascending, first_of, Check}
use Rattle.rules.proofs.Checks.{both, and_left, and_right, numbered, Passed, first_before, first_after}
use Rattle.faults.specs.Faults.{log_faults, table_faults}

-- ---- one after the other

joined : (cs ds : List Check) → numbered cs ≡ true → cond (eqb (first_of cs) 0) (first_of ds) (first_of cs) ≡ first_of (cs ++ ds)
joined cs ds p =
    cases (eqb (first_of cs) 0)
    (λ t. rw t (sym (first_after cs ds p (eqb-true (first_of cs) 0 t))))
    (λ f. rw f (sym (first_before cs ds (eqb-false (first_of cs) 0 f))))

pub join : (cs ds : List Check) → numbered cs ≡ true → {a b r : ℕ} → a ≡ first_of cs → b ≡ first_of ds → r ≡ cond (eqb a 0) b a → r ≡ first_of (cs ++ ds)
join cs ds p e f g = g ∙ rw (e, f) (joined cs ds p)

-- ---- a log and a table, read as lists: the code asks of the slots together with the count, and of the order together with both

module _ {A : Type 0} (n room : ℕ) (tidy : Bool) (formed : A → Bool) (l : List A) where
  pub log_asked : {a b : Bool} → a ≡ leb (length l) room → b ≡ (tidy && (leb (length l) room && all formed l))
      → first_of ((not a, n) ∷ (not b, n + 1) ∷ []) ≡ first_of (log_faults n room tidy formed l)
  log_asked p q = rw (p, q) (go tidy (leb (length l) room) (all formed l))
    where
      go : (tidy fits filled : Bool) → first_of ((not fits, n) ∷ (not (tidy && (fits && filled)), n + 1) ∷ []) ≡ first_of ((not fits, n) ∷ (not (tidy && filled), n + 1) ∷ [])
      go tidy false filled = refl
      go tidy true filled = refl

  -- without fault exactly if tidy and well formed
  pub log_fine : Passed (log_faults n room tidy formed l) → (tidy ≡ true) × ((leb (length l) room && all formed l) ≡ true)
  log_fine k =
      let f : (tidy && all formed l) ≡ true = not-false (tidy && all formed l) k.1.0 in
      (and_left tidy (all formed l) f, both (not-false (leb (length l) room) k.0) (and_right tidy (all formed l) f))

  pub log_faultless : (tidy ≡ true) × ((leb (length l) room && all formed l) ≡ true) → first_of (log_faults n room tidy formed l) ≡ 0
  log_faultless k = rw (k.0, and_left (leb (length l) room) (all formed l) k.1, and_right (leb (length l) room) (all formed l) k.1)

  module _ (below : A → A → Bool) where
    pub table_asked : {a b c : Bool} → a ≡ leb (length l) room → b ≡ (tidy && (leb (length l) room && all formed l)) → c ≡ (tidy && (leb (length l) room && all formed l && ascending below l))
        → first_of ((not a, n) ∷ (not b, n + 1) ∷ (not c, n + 2) ∷ []) ≡ first_of (table_faults n room tidy formed below l)
    table_asked p q r = rw (p, q, r) (go tidy (leb (length l) room) (all formed l) (ascending below l))
      where
        go : (tidy fits filled ascends : Bool) → first_of ((not fits, n) ∷ (not (tidy && (fits && filled)), n + 1) ∷ (not (tidy && (fits && filled && ascends)), n + 2) ∷ [])
            ≡ first_of ((not fits, n) ∷ (not (tidy && filled), n + 1) ∷ (not ascends, n + 2) ∷ [])
        go tidy false filled ascends = refl
        go false true filled ascends = refl
        go true true false ascends = refl
        go true true true ascends = refl

    pub table_fine : Passed (table_faults n room tidy formed below l) → (tidy ≡ true) × ((leb (length l) room && all formed l && ascending below l) ≡ true)
    table_fine k = let f = log_fine (k.0, (k.1.0, tt)) in (f.0, both f.1 (not-false (ascending below l) k.1.1.0))

    pub table_faultless : (tidy ≡ true) × ((leb (length l) room && all formed l && ascending below l) ≡ true) → first_of (table_faults n room tidy formed below l) ≡ 0
    table_faultless k =
        let f : (leb (length l) room && all formed l) ≡ true = and_left (leb (length l) room && all formed l) (ascending below l) k.1 in
        rw (k.0, and_left (leb (length l) room) (all formed l) f, and_right (leb (length l) room) (all formed l) f, and_right (leb (length l) room && all formed l) (ascending below l) k.1)

-- what is found of refs that there is room for
pub found : (room owned : Bool) → room ≡ true → (room && owned) ≡ not (room && not owned)
found room owned h = rw (h, not-not owned)
