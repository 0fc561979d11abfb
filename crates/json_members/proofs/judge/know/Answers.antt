-- One name less is left to refuse, and behind the last none.
use Rattle.std.proofs.Common.{◌+◌, ◌-◌, sym, ap, ◌∙◌, arith}
use Rattle.json_members.specs.Model.{refusing_foreigns}
use Rattle.json_members.proofs.Foreign.{foreigns_more, foreigns_done}
use Rattle.json_members.proofs.judge.know.Goals as goal

pub loop-spot-preserved : goal.loop-spot-preserved
loop-spot-preserved c =
    let l = c.loop-spot in
    let row = c.row_of-row.result in
    l.invariant ∙ foreigns_more row l.spot l.judge (omega arith) ∙ ap (refusing_foreigns (24 - (l.spot + 1)) row (l.spot + 1)) (sym c.refuse_foreign.ensures)

pub returns : goal.returns
returns c =
    let l = c.loop-spot in
    sym (rw (← c.row_of-row.ensures) (l.invariant ∙ foreigns_done c.row_of-row.result l.spot l.judge (omega arith)))
