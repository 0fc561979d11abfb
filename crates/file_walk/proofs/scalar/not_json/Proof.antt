-- The refusal, and how it ended.
use borrow.Author.Rules.{rules}
use Rattle.file_walk.proofs.scalar.not_json.Statement.{statement}
use Rattle.file_walk.proofs.scalar.not_json.Tie as tie

pub not_json_spec : {M : Type 1} → statement M
not_json_spec =
    tie.close
    (tie.spec
    (λ c κs. search rules)
    (λ c. rw c.stop-s.ensures))
