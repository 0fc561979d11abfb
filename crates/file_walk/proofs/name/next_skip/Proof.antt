-- Of the file, what it does not know.
use borrow.Author.Tests.{eq-eqb, ne_eqb}
use borrow.Author.Rules.{rules}
use native.Mathlib.Numerals.{add-one}
use Rattle.file_walk.proofs.name.next_skip.Statement.{statement}
use Rattle.file_walk.proofs.name.next_skip.Tie as tie

pub next_skip_spec : {M : Type 1} → statement M
next_skip_spec =
    tie.close
    (tie.spec
    (λ c. search rules)
    (λ c. rw (eq-eqb _ _ c.if-kind-eq0.true, eq-eqb _ _ c.if-known-eq0.true) (add-one _))
    (λ c. rw (eq-eqb _ _ c.if-kind-eq0.true, ne_eqb _ _ c.if-known-eq0.false))
    (λ c. rw (ne_eqb _ _ c.if-kind-eq0.false)))
