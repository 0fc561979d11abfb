-- By its length; where nothing was refused, by those before it.
use mathlib.Core.Path.{◌≡◌, sym, ◌∙◌}
use borrow.Author.Rules.{rules}
use borrow.Author.Tests.{eq-eqb, ne_eqb, leb-true}
use borrow.Table.Steps.{cases}
use Prim.Native.Nat.{ℕ, ◌≤◌}
use lib.Dec.{eqb, leb}
use native.Mathlib.Omega.{arith}
use Rattle.file_walk.specs.Named.{own_fault, name_fault}
use Rattle.file_walk.proofs.names.name_fault.Statement.{statement}
use Rattle.file_walk.proofs.names.name_fault.Tie as tie

short : (len : ℕ) → own_fault len ≡ 0 → len ≤ 96
short len e =
    cases (eqb len 98)
    (λ t. absurd (let z : 28 ≡ 0 = rw t at e in omega arith))
    (λ f. cases (leb len 32)
    (λ t. let k = leb-true len 32 t in omega arith)
    (λ g. absurd (let z : 29 ≡ 0 = rw (f, g) at e in omega arith)))

pub name_fault_spec : {M : Type 1} → statement M
unfolding name_fault
name_fault_spec =
    tie.close
    (tie.spec
    (λ c κs. search rules)
    (λ c. rw (← c.own_fault-own.ensures, ne_eqb _ _ c.if-own-ne0.true))
    (λ c κs. search rules)
    (λ c. rw (← c.own_fault-own.ensures, eq-eqb _ _ c.if-own-ne0.false, sym c.is_early.ensures ∙ c.if-is_early.true))
    (λ c κs. (search rules, short _ (sym c.own_fault-own.ensures ∙ c.if-own-ne0.false)))
    (λ c. rw (
      ← c.own_fault-own.ensures,
      eq-eqb _ _ c.if-own-ne0.false,
      sym c.is_early.ensures ∙ c.if-is_early.false,
      sym c.was_there.ensures ∙ c.if-was_there.true,
    ))
    (λ c. rw (
      ← c.own_fault-own.ensures,
      eq-eqb _ _ c.if-own-ne0.false,
      sym c.is_early.ensures ∙ c.if-is_early.false,
      sym c.was_there.ensures ∙ c.if-was_there.false,
    )))
