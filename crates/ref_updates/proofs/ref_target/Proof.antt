-- A ref is set to its own snapshot, a branch commit's to the one that it adds, whatever ref was there before.
use mathlib.Core.Path.{◌≡◌, refl}
use mathlib.Core.List.{List}
use mathlib.Core.Option.{Option, none, some}
use Prim.Native.Nat.{ℕ}
use borrow.Author.Tests.{eq-eqb, ne_eqb}
use lib.IntN.{ℤ}
use Rattle.rules.specs.Register.{NamedRef}
use Rattle.rules.specs.RefUpdates.{ref_named, committed}
use Rattle.ref_updates.proofs.ref_target.Statement.{statement}
use Rattle.ref_updates.proofs.ref_target.Tie as tie

to_it : (name : List ℕ) (id : ℤ) (l : List NamedRef) → id ≡ (committed name id l).snapshot
to_it name id l = go (ref_named name l) refl
  where
    go : (o : Option NamedRef) → ref_named name l ≡ o → id ≡ (committed name id l).snapshot
    go none e = rw (e, committed)
    go (some n) e = rw (e, committed)

pub ref_target_spec : {M : Type 1} → statement M
ref_target_spec =
    tie.close
    (tie.spec
    (λ c l. rw (eq-eqb _ _ c.if-k-eq-SET_REF.true))
    (λ c l. rw (ne_eqb _ _ c.if-k-eq-SET_REF.false) (to_it _ _ l)))
