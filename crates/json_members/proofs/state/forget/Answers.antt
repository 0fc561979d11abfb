-- One mark less is left to forget, and behind the last none.
use Rattle.std.proofs.Common.{◌+◌, sym, ◌∙◌, set, arith}
use Rattle.json_members.proofs.Clearing.{forget_more, forget_end}
use Rattle.json_members.proofs.state.forget.Goals as goal

pub loop-spot-preserved : goal.loop-spot-preserved
loop-spot-preserved c =
    let l = c.loop-spot in
    l.invariant ∙ forget_more c.args.to l.spot l.judge (omega (arith, c.min-spot-end.ensures)) (omega (arith, c.min-spot-end.ensures))

pub returns : goal.returns
returns c =
    let l = c.loop-spot in
    sym (l.invariant ∙ forget_end c.args.to l.spot l.judge (omega (arith, c.min-spot-end.ensures)))

pub returns-2 : goal.returns-2
returns-2 c =
    let l = c.loop-spot in
    sym
    (l.invariant
    ∙ forget_more c.args.to l.spot l.judge (omega (arith, c.min-spot-end.ensures)) (omega (arith, c.min-spot-end.ensures))
    ∙ forget_end c.args.to (l.spot + 1) (set l.judge (16 + l.spot) 0) (omega (arith, c.min-spot-end.ensures)))
