-- Where it is there.
use mathlib.Core.Path.{sym, ◌∙◌}
use borrow.Author.Rules.{rules}
use Rattle.file_records.specs.Decoded.{maybe_narrow_at}
use Rattle.file_records.proofs.value.narrow_number.Statement.{statement}
use Rattle.file_records.proofs.value.narrow_number.Tie as tie

pub narrow_number_spec : {M : Type 1} → statement M
unfolding maybe_narrow_at
narrow_number_spec =
    tie.close
    (tie.spec
    (λ c κs. search rules)
    (λ c κs. search rules)
    (λ c κs. search rules)
    (λ c. rw (sym c.is_there.ensures ∙ c.if-is_there.true, ← c.number_at.ensures) c.narrowed.ensures)
    (λ c. rw (sym c.is_there.ensures ∙ c.if-is_there.false)))
