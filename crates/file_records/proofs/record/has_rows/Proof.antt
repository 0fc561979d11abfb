-- The first half decides, or the other.
use mathlib.Core.Path.{sym, ◌∙◌}
use borrow.Author.Rules.{rules}
use Rattle.file_records.proofs.record.has_rows.Statement.{statement}
use Rattle.file_records.proofs.record.has_rows.Tie as tie

pub has_rows_spec : {M : Type 1} → statement M
has_rows_spec =
    tie.close
    (tie.spec
    (λ c κs. search rules)
    (λ c κs. search rules)
    (λ c. rw (sym c.is_there.ensures ∙ c.if-is_there.true) c.is_there-then-is_there.ensures)
    (λ c. rw (sym c.is_there.ensures ∙ c.if-is_there.false)))
