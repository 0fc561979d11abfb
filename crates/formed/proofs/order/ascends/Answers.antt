use Rattle.std.proofs.Common.{◌≡◌, ◌-◌, pos, w64, to_z, of_z, get_or, arith, rules}
use Rattle.rules.proofs.Orders.{numbers_ordered}
use Rattle.formed.proofs.Ascends.{ascended_on, ascended_end}
use Rattle.formed.proofs.order.ascends.Goals as goal

pub loop-i-preserved : goal.loop-i-preserved
loop-i-preserved c =
    let ids = c.args.ids.now in
    let i = c.loop-i.i in
    let x : to_z w64 (of_z w64 (get_or ids (i - 1) (pos 0))) ≡ get_or ids (i - 1) (pos 0) = search rules in
    let y : to_z w64 (of_z w64 (get_or ids i (pos 0))) ≡ get_or ids i (pos 0) = search rules in
    ascended_on c.loop-i.invariant numbers_ordered (pos 0) c.loop-i-test.true (rw (x, y))

pub returns : goal.returns
returns c = ascended_end c.loop-i.invariant (omega arith)
