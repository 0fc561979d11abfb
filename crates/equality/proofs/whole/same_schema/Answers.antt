use Rattle.std.proofs.Common.{◌∙◌}
use Rattle.equality.proofs.Derived.{schema}
use Rattle.equality.proofs.whole.same_schema.Goals as goal

pub returns : goal.returns
returns c = c.eq.ensures ∙ schema c.args.a c.args.b
