-- First each member by itself, and then the two that go together.
use Rattle.std.proofs.Common.{sym, ◌∙◌, arith, rules}
use Rattle.std.proofs.lemmas.Grind.{common_steps}
use Rattle.std.proofs.lemmas.Bool.Decides.{nat_tests}
use Rattle.file_members.specs.Flags.{lacks_in}
use Rattle.file_members.proofs.seen.lacks.Goals as goal
use Rattle.file_members.proofs.seen.lacks.Goals.{then-kind-eq-HELD_SNAPSHOT, else-kind-eq-HELD_SNAPSHOT}

pub returns-then-lacks_any : goal.returns-then-lacks_any
unfolding lacks_in
returns-then-lacks_any c = rw (sym c.lacks_any.ensures ∙ c.if-lacks_any.true)

pub returns-then-version-eq3 : goal.returns-then-version-eq3
unfolding lacks_in
returns-then-version-eq3 c = grind (arith, common_steps, nat_tests)

pub returns-else-version-eq3 : goal.returns-else-version-eq3
unfolding lacks_in
returns-else-version-eq3 c = grind (arith, common_steps, nat_tests)
