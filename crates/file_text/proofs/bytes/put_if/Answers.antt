use Rattle.std.proofs.Common.{arith}
use Rattle.file_text.proofs.Pieces.{unwanted}
use Rattle.file_text.proofs.bytes.put_if.Goals as goal

pub returns : goal.returns
returns c = unwanted _ _ c.if-wanted.false (omega arith)
