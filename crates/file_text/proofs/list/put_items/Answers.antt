use Rattle.std.proofs.Common.{arith, rules}
use Rattle.file_text.proofs.Pieces.{then, leads, leads_on, led}
use Rattle.file_text.proofs.Lists.{item_here, items_end}
use Rattle.file_text.proofs.list.put_items.Goals as goal

pub loop-i-init : goal.loop-i-init
loop-i-init g c = leads (omega arith)

pub loop-i-preserved : goal.loop-i-preserved
loop-i-preserved g c =
    leads_on c.loop-i.invariant (then c.put_if-to.ensures (c.requires.1.1.1 _ _ _ _ _ c.put_item-to.ensures)) (omega arith) (item_here g.text _ _ _ _ _ c.loop-i-test.true (search rules))

pub returns : goal.returns
returns g c = led c.loop-i.invariant (items_end g.text _ _ _ _ c.loop-i-test.false)
