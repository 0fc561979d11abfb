-- The choice of a current schema or of a default order, by id or by -1, is accepted as it is logged and chooses the same.
use mathlib.Core.Path.{◌≡◌, refl}
use mathlib.Core.Bool.{Bool, true, false, cond, not, ◌&&◌, true≢false}
use mathlib.Core.Option.{Option, none, some}
use lib.IntN.{ℤ}
use Rattle.rules.specs.Words.{eq_z, is_some, or_else, first_of}
use Rattle.rules.specs.Register.{last_added}
use Rattle.rules.specs.WellFormed.{choice_formed}
use Rattle.rules.specs.SchemaUpdates.{chosen, choice_checks, choice_logged}
use Rattle.rules.proofs.Checks.{Passed, passed}
use Rattle.rules.proofs.Orders.{numbers_told}

-- what is logged of a choice is well formed, can be asked for, and chooses the same
record SameChoice (id : ℤ) (added : Option ℤ) (k : ℤ) : Type 0 where
  formed : choice_formed k ≡ true
  known : (eq_z k last_added && not (is_some added)) ≡ false
  same : chosen k added ≡ chosen id added

same_choice : (id : ℤ) (added : Option ℤ) → choice_formed id ≡ true → (eq_z id last_added && not (is_some added)) ≡ false → SameChoice id added (choice_logged (chosen id added) added)
same_choice id added f h = go (eq_z id last_added) refl added h
  where
    -- an id that is not -1 is logged as -1 if it is the last added
    by_id : eq_z id last_added ≡ false → (a : ℤ) (t : Bool) → eq_z id a ≡ t → SameChoice id (some a) (cond t last_added id)
    by_id q a true r = record { formed = refl; known = refl; same = rw (q, numbers_told.equal id a r) }
    by_id q a false r = record { formed = f; known = rw q; same = refl }

    go : (t : Bool) → eq_z id last_added ≡ t → (o : Option ℤ) → (t && not (is_some o)) ≡ false → SameChoice id o (choice_logged (cond t (or_else o id) id) o)
    go true q none h = absurd (true≢false h)
    go true q (some a) h = rw (numbers_told.itself a) (record { formed = refl; known = refl; same = rw q })
    go false q none h = record { formed = f; known = rw q; same = refl }
    go false q (some a) h = by_id q a (eq_z id a) refl

-- an accepted choice is accepted as it is logged, and chooses the same
pub record Rechosen (id : ℤ) (added : Option ℤ) (current : ℤ) (held : ℤ → Bool) (k : ℤ) : Type 0 where
  pub formed : choice_formed k ≡ true
  pub passes : first_of (choice_checks k added current held) ≡ 0
  pub same : chosen k added ≡ chosen id added

pub rechosen : (id : ℤ) (added : Option ℤ) (current : ℤ) (held : ℤ → Bool) → choice_formed id ≡ true → first_of (choice_checks id added current held) ≡ 0
    → Rechosen id added current held (choice_logged (chosen id added) added)
rechosen id added current held f h =
    let p : Passed (choice_checks id added current held) = passed (choice_checks id added current held) refl h in
    let c : SameChoice id added (choice_logged (chosen id added) added) = same_choice id added f p.0 in
    record { formed = c.formed; passes = rw (c.known, c.same, p.1.0); same = c.same }
