use Rattle.file_text.proofs.Pieces.{is}
use Rattle.file_text.proofs.texts.put_hex.Goals as goal

pub returns : goal.returns
returns c = is c.put.ensures (rw (c.hex_digit-2.ensures, c.hex_digit.ensures))
