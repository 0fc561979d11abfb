-- By what is wanted.
use mathlib.Core.Path.{sym, ◌∙◌}
use borrow.Author.Rules.{rules}
use Rattle.file_walk.proofs.scalar.own_place.Statement.{statement}
use Rattle.file_walk.proofs.scalar.own_place.Tie as tie

pub own_place_spec : {M : Type 1} → statement M
own_place_spec =
    tie.close
    (tie.spec
    (λ c κs. search rules)
    (λ c. rw (sym c.is_at_schema.ensures ∙ c.if-is_at_schema.true))
    (λ c. rw (sym c.is_at_schema.ensures ∙ c.if-is_at_schema.false)))
