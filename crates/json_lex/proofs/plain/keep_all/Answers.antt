-- At the start all is left, and where no slot is left nothing more is kept.
use Rattle.json_lex.proofs.Parts.{left_start, left_full}
use Rattle.json_lex.proofs.plain.keep_all.Goals as goal

pub loop-byte-init : goal.loop-byte-init
loop-byte-init c = left_start c.args.part.now c.args.from c.args.end c.if-end-from.false

pub returns-then-count-ge-KEPT : goal.returns-then-count-ge-KEPT
returns-then-count-ge-KEPT c = left_full c.if-count-ge-KEPT.true c.loop-byte.invariant
