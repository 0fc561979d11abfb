-- A member that was not seen decides, and behind the last nothing lacks.
use Rattle.std.proofs.Common.{◌+◌, sym, ◌∙◌, arith}
use Rattle.json_members.proofs.Lacking.{lacks_here, lacks_further, lacks_none}
use Rattle.json_members.proofs.seen.lacks_any.Goals as goal

pub returns-then-not-is_seen : goal.returns-then-not-is_seen
returns-then-not-is_seen c =
    let l = c.loop-spot in
    sym (l.invariant ∙ lacks_here c.args.to l.spot c.args.judge.now (omega arith) (sym c.if-not-is_seen.ensures))

pub loop-spot-preserved : goal.loop-spot-preserved
loop-spot-preserved c =
    let l = c.loop-spot in
    l.invariant ∙ lacks_further c.args.to l.spot c.args.judge.now (omega arith) (sym c.if-not-is_seen.ensures)

pub returns : goal.returns
returns c =
    let l = c.loop-spot in
    sym (l.invariant ∙ lacks_none c.args.to l.spot c.args.judge.now (omega arith))

pub returns-else-not-is_seen : goal.returns-else-not-is_seen
returns-else-not-is_seen c =
    let l = c.loop-spot in
    let judge = c.args.judge.now in
    sym
    (l.invariant
    ∙ lacks_further c.args.to l.spot judge (omega arith) (sym c.if-not-is_seen.ensures)
    ∙ lacks_none c.args.to (l.spot + 1) judge (omega arith))
