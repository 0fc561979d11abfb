-- One refusal after the other.
use mathlib.Core.Path.{◌∙◌}
use borrow.Author.Rules.{rules}
use Rattle.file_walk.proofs.names.judge.Statement.{statement}
use Rattle.file_walk.proofs.names.judge.Tie as tie

pub judge_spec : {M : Type 1} → statement M
judge_spec =
    tie.close
    (tie.spec
    (λ c κs. search rules)
    (λ c κs. search rules)
    (λ c κs. rw c.refuse-over.ensures c.requires)
    (λ c κs. search rules)
    (λ c. c.refuse.ensures ∙ rw (c.name_fault.ensures, c.refuse-over.ensures, c.over_room.ensures)))
