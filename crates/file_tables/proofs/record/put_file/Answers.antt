-- The members one behind the other.
use Rattle.file_text.proofs.Pieces.{then, is}
use Rattle.file_tables.proofs.Texts.{file_is}
use Rattle.file_tables.proofs.record.put_file.Goals as goal

pub returns : goal.returns
returns c =
    is (then (then (then c.put_number-at.ensures c.put_text-at.ensures) c.put_number-at-2.ensures) c.put.ensures) (file_is c.args.f c.of_snapshot.ensures c.of_size.ensures)
