-- One piece behind the other.
use Rattle.file_text.proofs.Pieces.{then}
use Rattle.file_text.proofs.texts.put_text.Goals as goal

pub returns : goal.returns
returns c = then c.put-at.ensures c.put_quoted.ensures
