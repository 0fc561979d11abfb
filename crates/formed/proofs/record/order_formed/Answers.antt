use Rattle.std.proofs.Common.{◌∙◌, pos}
use Rattle.records.specs.Blanks.{no_sort_field}
use Rattle.rules.specs.Layout.{read_sort_field}
use Rattle.equality.proofs.Derived.{numbers}
use Rattle.formed.proofs.Counted.{read_none}
use Rattle.formed.proofs.record.order_formed.Goals as goal

pub returns : goal.returns
returns c =
    let o = c.args.o in
    rw (c.eq.ensures ∙ numbers o.order_id.0 (pos 0), c.offered_order_formed.ensures, read_none read_sort_field no_sort_field o.items o.count)
