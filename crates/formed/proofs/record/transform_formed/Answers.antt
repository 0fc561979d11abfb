use Rattle.std.proofs.Common.{◌∙◌, pos}
use Rattle.equality.proofs.Derived.{numbers}
use Rattle.formed.proofs.record.transform_formed.Goals as goal

pub returns : goal.returns
returns c = rw (c.eq.ensures ∙ numbers c.args.n.0 (pos 0), c.buckets_formed.ensures)
