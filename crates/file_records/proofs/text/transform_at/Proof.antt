-- Of the text.
use borrow.Author.Rules.{rules}
use Rattle.file_records.proofs.text.transform_at.Statement.{statement}
use Rattle.file_records.proofs.text.transform_at.Tie as tie

pub transform_at_spec : {M : Type 1} → statement M
transform_at_spec =
    tie.close
    (tie.spec
    (λ c κs. search rules)
    (λ c κs. search rules)
    (λ c. rw (c.transform_of.ensures, c.read-len.ensures)))
