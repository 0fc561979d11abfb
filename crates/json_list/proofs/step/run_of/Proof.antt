-- The mode is set.
use borrow.Author.Rules.{rules}
use Rattle.json_list.proofs.step.run_of.Statement.{statement}
use Rattle.json_list.proofs.step.run_of.Tie as tie

pub run_of_spec : {M : Type 1} → statement M
run_of_spec = tie.close (tie.spec (λ c κs. search rules) (λ c. rw c.in_mode.ensures))
