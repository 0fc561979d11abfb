-- What is passed over, the version, `null`, and else by the spot of the same shape.
use mathlib.Core.Path.{sym, ◌∙◌}
use borrow.Author.Rules.{rules}
use borrow.Author.Tests.{eq-eqb, ne_eqb}
use Rattle.file_members.specs.Faults.{fault_in}
use Rattle.file_members.proofs.value.fault_of.Statement.{statement}
use Rattle.file_members.proofs.value.fault_of.Tie as tie

returns_2 : tie.Need-returns-then-want-eq-FORMAT_VERSION
unfolding fault_in
returns_2 c =
    rw (sym c.passes_over.ensures ∙ c.if-passes_over.false, eq-eqb _ 1 c.if-want-eq-FORMAT_VERSION.true) c.version_fault.ensures

returns_3 : tie.Need-returns-then-is_null_at
unfolding fault_in
returns_3 c =
    rw (sym c.passes_over.ensures ∙ c.if-passes_over.false, ne_eqb _ 1 c.if-want-eq-FORMAT_VERSION.false, sym c.is_null_at.ensures ∙ c.if-is_null_at.true)

returns_4 : tie.Need-returns
unfolding fault_in
returns_4 c =
    rw (sym c.passes_over.ensures ∙ c.if-passes_over.false, ne_eqb _ 1 c.if-want-eq-FORMAT_VERSION.false, sym c.is_null_at.ensures ∙ c.if-is_null_at.false, ← c.like_of.ensures)
    c.like_fault.ensures

pub fault_of_spec : {M : Type 1} → statement M
unfolding fault_in
fault_of_spec =
    tie.close
    (tie.spec
    (λ c κs. search rules)
    (λ c. rw (sym c.passes_over.ensures ∙ c.if-passes_over.true))
    (λ c κs. search rules)
    returns_2
    (λ c κs. search rules)
    returns_3
    (λ c κs. search rules)
    (λ c κs. search rules)
    returns_4)
