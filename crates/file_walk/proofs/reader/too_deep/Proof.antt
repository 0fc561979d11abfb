-- The refusal, and how it ended.
use borrow.Author.Rules.{rules}
use Rattle.file_walk.proofs.reader.too_deep.Statement.{statement}
use Rattle.file_walk.proofs.reader.too_deep.Tie as tie

pub too_deep_spec : {M : Type 1} → statement M
too_deep_spec =
    tie.close
    (tie.spec
    (λ c κs. search rules)
    (λ c. rw c.stop-s.ensures))
