-- Where the place is in the buffer the byte is stored there.
use Rattle.std.proofs.Common.{arith, [], ◌∷◌, refl, ◌∙◌}
use Rattle.file_text.proofs.Pieces.{stored, counted, past_min}
use Rattle.file_text.proofs.bytes.put_byte.Goals as goal

pub returns-then-at-buffer : goal.returns-then-at-buffer
returns-then-at-buffer c = stored (c.args.byte ∷ []) (omega arith) refl refl

pub returns : goal.returns
returns c = counted (c.args.byte ∷ []) (omega arith) (c.saturating_add.ensures ∙ past_min _ _)
