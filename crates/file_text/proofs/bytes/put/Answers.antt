-- Where there is room the bytes are copied; else they are counted.
use Rattle.std.proofs.Common.{arith, ◌∙◌}
use Rattle.file_text.proofs.Pieces.{copied, counted, past_exact, past_last}
use Rattle.file_text.proofs.bytes.put.Goals as goal

pub returns-then-end-buffer : goal.returns-then-end-buffer
returns-then-end-buffer c = let e = c.in-Some.ensures in copied _ _ (omega arith) e.1 c.if-end-buffer.true c.copy_from_slice.ensures.after

pub returns-else-end-buffer : goal.returns-else-end-buffer
returns-else-end-buffer c = let e = c.in-Some.ensures in counted _ (omega arith) (e.1 ∙ past_exact _ _ e.0)

pub returns : goal.returns
returns c = let e = c.in_default.ensures in counted _ (omega arith) (past_last _ _ (omega arith))
