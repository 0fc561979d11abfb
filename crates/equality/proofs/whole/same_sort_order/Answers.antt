use Rattle.std.proofs.Common.{◌∙◌}
use Rattle.equality.proofs.Derived.{sort_order}
use Rattle.equality.proofs.whole.same_sort_order.Goals as goal

pub returns : goal.returns
returns c = c.eq.ensures ∙ sort_order c.args.a c.args.b
