-- Of a number that is whole.
use mathlib.Core.Path.{sym, ◌∙◌}
use borrow.Author.Rules.{rules}
use Rattle.file_walk.proofs.scalar.size_kept.Statement.{statement}
use Rattle.file_walk.proofs.scalar.size_kept.Tie as tie

pub size_kept_spec : {M : Type 1} → statement M
size_kept_spec =
    tie.close
    (tie.spec
    (λ c κs. search rules)
    (λ c. rw (sym c.begins_number.ensures ∙ c.if-begins_number.true, c.if-integer.true))
    (λ c. rw (sym c.begins_number.ensures ∙ c.if-begins_number.true, c.if-integer.false))
    (λ c. rw (sym c.begins_number.ensures ∙ c.if-begins_number.false)))
