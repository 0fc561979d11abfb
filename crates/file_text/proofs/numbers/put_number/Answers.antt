-- The sign, and the digits of the magnitude; or nothing.
use Rattle.std.proofs.Common.{arith, rules}
use Rattle.file_text.proofs.Pieces.{is, then, wanted, unwanted}
use Rattle.file_text.proofs.Signs.{signed}
use Rattle.file_text.proofs.numbers.put_number.Goals as goal

pub returns-then-not-wanted : goal.returns-then-not-wanted
returns-then-not-wanted c = unwanted _ _ c.if-not-wanted.true (omega arith)

pub returns : goal.returns
returns c =
    wanted _ c.if-not-wanted.false
    (is (then c.put-at.ensures (then c.put_if-at.ensures c.put_digits.ensures)) (signed c.args.before.now c.args.number.0 (search rules) c.unsigned_abs.ensures.value))
