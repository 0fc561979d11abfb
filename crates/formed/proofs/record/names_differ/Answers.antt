use Rattle.std.proofs.Common.{◌∙◌, ap, not}
use borrow.Author.Tests.{ne_eqb}
use Rattle.equality.specs.Same.{same_name}
use Rattle.equality.proofs.Derived.{name}
use Rattle.formed.proofs.record.names_differ.Goals as goal

pub returns-then-x-y : goal.returns-then-x-y
unfolding same_name
returns-then-x-y c = rw (ne_eqb c.args.x.len c.args.y.len c.if-x-y.true)

pub returns-else-x-y : goal.returns-else-x-y
returns-else-x-y c = c.ne.ensures ∙ ap not (name c.args.x c.args.y)
