-- By the version, then by what is there.
use mathlib.Core.Path.{sym, ap, ◌∙◌}
use mathlib.Core.Bool.{not}
use borrow.Author.Rules.{rules}
use borrow.Author.Tests.{eq-eqb, ne_eqb}
use Rattle.file_records.proofs.table.single_decides.Statement.{statement}
use Rattle.file_records.proofs.table.single_decides.Tie as tie

pub single_decides_spec : {M : Type 1} → statement M
single_decides_spec =
    tie.close
    (tie.spec
    (λ c. rw (ne_eqb _ 1 c.if-version-ne1.true))
    (λ c κs. search rules)
    (λ c κs. search rules)
    (λ c. rw (eq-eqb _ 1 c.if-version-ne1.false, sym c.is_there.ensures ∙ c.if-is_there.true) (ap not c.is_there-then-is_there.ensures))
    (λ c. rw (eq-eqb _ 1 c.if-version-ne1.false, sym c.is_there.ensures ∙ c.if-is_there.false)))
