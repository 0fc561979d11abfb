-- What the judge does with the lexeme, and what is put of it.
use borrow.Author.Rules.{rules}
use Rattle.json_list.proofs.Turns.{whole_put, whole_passed}
use Rattle.json_list.proofs.step.whole.Statement.{statement}
use Rattle.json_list.proofs.step.whole.Tie as tie

returns : tie.Need-returns-then-done-eq-ANYTHING
returns c = whole_passed _ _ _ _ _ c.take-done.ensures c.if-done-eq-ANYTHING.true

returns_2 : tie.Need-returns
returns_2 c = whole_put _ _ _ _ _ _ c.take-done.ensures c.put_done.ensures

pub whole_spec : {M : Type 1} → statement M
whole_spec = tie.close (tie.spec (λ c κs. search rules) returns (λ c κs. search rules) returns_2)
