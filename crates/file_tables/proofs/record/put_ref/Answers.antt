-- The name and the ref.
use Rattle.file_text.proofs.Pieces.{then, is}
use Rattle.file_tables.proofs.Texts.{ref_is}
use Rattle.file_tables.proofs.record.put_ref.Goals as goal

pub returns : goal.returns
returns c =
    is (then c.put_quoted-at.ensures c.put_reference.ensures) (ref_is c.args.x)
