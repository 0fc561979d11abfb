-- Both pieces, or none.
use Rattle.std.proofs.Common.{arith}
use Rattle.file_text.proofs.Pieces.{then, wanted, unwanted}
use Rattle.file_text.proofs.numbers.put_natural.Goals as goal

pub returns-then-not-wanted : goal.returns-then-not-wanted
returns-then-not-wanted c = unwanted _ _ c.if-not-wanted.true (omega arith)

pub returns : goal.returns
returns c = wanted _ c.if-not-wanted.false (then c.put-at.ensures c.put_digits.ensures)
