use Rattle.std.proofs.Common.{◌∙◌}
use Rattle.rules.specs.Partitions.{is_redundant}
use Rattle.equality.proofs.Derived.{numbers}
use Rattle.formed.proofs.record.is_redundant.Goals as goal

pub returns : goal.returns
unfolding is_redundant
returns c =
    let a = c.args.a in
    let b = c.args.b in
    rw (c.eq.ensures ∙ numbers a.source_id.0 b.source_id.0, c.eq-2.ensures ∙ numbers a.buckets.0 b.buckets.0, c.is_time.ensures, c.is_time-2.ensures)
