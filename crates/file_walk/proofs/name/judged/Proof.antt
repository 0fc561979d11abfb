-- Its refusal, and its number.
use borrow.Author.Rules.{rules}
use Rattle.file_walk.proofs.name.judged.Statement.{statement}
use Rattle.file_walk.proofs.name.judged.Tie as tie

pub judged_spec : {M : Type 1} → statement M
judged_spec =
    tie.close
    (tie.spec
    (λ c κs. search rules)
    (λ c κs. search rules)
    (λ c κs. search rules)
    (λ c. rw (c.refuse-s.ensures, c.fresh_spot.ensures, c.name_number.ensures)))
