-- By its number.
use borrow.Author.Tests.{le-leb, lt-leb}
use Rattle.file_walk.proofs.reader.record_flag.Statement.{statement}
use Rattle.file_walk.proofs.reader.record_flag.Tie as tie

pub record_flag_spec : {M : Type 1} → statement M
record_flag_spec =
    tie.close
    (tie.spec
    (λ c. rw (le-leb _ _ c.if-kind-ge-NO_RECORD.true))
    (λ c. rw (lt-leb _ _ c.if-kind-ge-NO_RECORD.false)))
