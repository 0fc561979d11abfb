-- The members one behind the other.
use Rattle.file_text.proofs.Pieces.{then, is}
use Rattle.file_tables.proofs.Texts.{snapshot_is}
use Rattle.file_tables.proofs.record.put_snapshot.Goals as goal

pub returns : goal.returns
returns c =
    is (then (then (then (then (then c.put_number-at.ensures c.put_number-at-2.ensures) c.put_number-at-3.ensures) c.put_number-at-4.ensures) c.put_rows-at.ensures) c.put.ensures) (snapshot_is c.args.version c.args.s c.of_snapshot.ensures c.of_snapshot-2.ensures c.of_sequence.ensures c.of_time.ensures)
