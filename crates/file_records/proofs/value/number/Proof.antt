-- Where it is there.
use mathlib.Core.Path.{sym, ◌∙◌}
use borrow.Author.Rules.{rules}
use Rattle.file_records.specs.Decoded.{maybe_at}
use Rattle.file_records.proofs.value.number.Statement.{statement}
use Rattle.file_records.proofs.value.number.Tie as tie

pub number_spec : {M : Type 1} → statement M
unfolding maybe_at
number_spec =
    tie.close
    (tie.spec
    (λ c κs. search rules)
    (λ c κs. search rules)
    (λ c. rw (sym c.is_there.ensures ∙ c.if-is_there.true) c.number_at.ensures)
    (λ c. rw (sym c.is_there.ensures ∙ c.if-is_there.false)))
