-- From version 3 on.
use borrow.Author.Rules.{rules}
use borrow.Author.Tests.{lt-ltb, le-ltb}
use Rattle.file_records.proofs.fields.next_row.Statement.{statement}
use Rattle.file_records.proofs.fields.next_row.Tie as tie

pub next_row_spec : {M : Type 1} → statement M
next_row_spec =
    tie.close
    (tie.spec
    (λ c κs. search rules)
    (λ c. rw (lt-ltb 2 _ c.if-version-gt2.true) c.natural.ensures)
    (λ c. rw (le-ltb 2 _ c.if-version-gt2.false)))
