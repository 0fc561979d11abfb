-- Where there is a range.
use borrow.Author.Rules.{rules}
use Rattle.file_records.proofs.record.row_number.Statement.{statement}
use Rattle.file_records.proofs.record.row_number.Tie as tie

pub row_number_spec : {M : Type 1} → statement M
row_number_spec = tie.close (tie.spec (λ c κs. search rules) (λ c. rw c.if-has.true c.natural.ensures) (λ c. rw c.if-has.false))
